-- What a rule's reader owes to its grammar.
use Rattle.std.specs.Prelude.{◌≡◌, ℕ, true, false, List, ◌∷◌, ◌++◌, length}
use Rattle.al_grammar.specs.Kinds.{starts}
use Rattle.al_grammar.specs.Rules.{Shape, Step, read, fault, Rule}

-- A value was read off the front: its tokens are the grammar's, and nothing past the next token matters.
pub record Took {T A : Type 0} (Is : List T → A → Type 0) (reads : List T → Step T A) (ts : List T) (v : A) (rest : List T) : Type 0 where
  pub used : List T
  pub split : ts ≡ used ++ rest
  pub is : Is used v
  pub alike : (x : T) (r s : List T) → rest ≡ x ∷ r → reads (used ++ x ∷ s) ≡ read v (x ∷ s)

-- The reader stopped at a token: what stands before it begins some text of the grammar, and with this token it stops
-- there whatever follows.
pub record Stuck {T A : Type 0} (Is : List T → A → Type 0) (reads : List T → Step T A) (ts : List T) (n : ℕ) : Type 0 where
  pub used : List T
  pub rest : List T
  pub split : ts ≡ used ++ rest
  pub place : n ≡ length rest
  pub more : List T
  pub value : A
  pub is : Is (used ++ more) value
  pub alike : (x : T) (r s : List T) → rest ≡ x ∷ r → reads (used ++ x ∷ s) ≡ fault (length (x ∷ s))

-- The reader takes exactly the grammar's texts, as long as what follows can't go on after a text, and stops exactly
-- where no text goes on.
pub record Lawful {T A : Type 0} {s : Shape} (kind : T → ℕ) (p : Rule T s A) : Type 0 where
  pub takes : (ts rest : List T) (v : A) → p.reads ts ≡ read v rest → Took p.Is p.reads ts v rest
  pub stops : (ts : List T) (n : ℕ) → p.reads ts ≡ fault n → Stuck p.Is p.reads ts n
  pub again : (text rest : List T) (v : A) → p.Is text v → starts kind false s.after rest ≡ false → p.reads (text ++ rest) ≡ read v rest
  pub begins : (text : List T) (v : A) → p.Is text v → starts kind s.empty s.first text ≡ true
  pub some_text : List T
  pub some_value : A
  pub some : p.Is some_text some_value
