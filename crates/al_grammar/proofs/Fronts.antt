-- A lawful reader that reads a text in front of other tokens.
use Rattle.std.proofs.Common.{◌≡◌, ℕ, true, false, Bool, List, ◌∷◌, ◌++◌, refl, ap, ◌∙◌}
use Rattle.al_grammar.specs.Kinds.{starts}
use Rattle.al_grammar.specs.Rules.{Shape, read, fault, Rule}
use Rattle.al_grammar.specs.Laws.{Lawful}
use Rattle.al_grammar.specs.Whole.{StopsAt, FrontIs}
use Rattle.al_grammar.proofs.WholeTexts.{whole_reads, stops_stuck}

module _ (T A : Type 0) (s : Shape) (kind : T → ℕ) (p : Rule T s A) (pl : Lawful kind p) where
  -- a longer text would have been read
  longer : (used more others : List T) (x : T) (v w : A) → p.reads (used ++ x ∷ more) ≡ read v (x ∷ more) → p.Is (used ++ x ∷ more) w → ⊥
  longer used more others x v w e is = let whole = whole_reads T A s kind p pl (used ++ x ∷ more) w is in cc (e, whole)

  -- what is read in front is a text, and the next token goes on in none
  pub front_found : (ts rest : List T) (v : A) → p.reads ts ≡ read v rest → FrontIs p.Is ts v rest
  front_found ts rest v e =
      let t = pl.takes ts rest v e in
      record {
        used = t.used;
        split = t.split;
        is = t.is;
        ends = λ x others more w h is. longer t.used more others x v w (t.alike x others more h) is;
      }

  -- a text in front of a token that no text has behind it is read
  pub front_only : (ts used rest : List T) (v : A) → ts ≡ used ++ rest → p.Is used v → starts kind false s.after rest ≡ false → p.reads ts ≡ read v rest
  front_only ts used rest v split is h = ap p.reads split ∙ pl.again used rest v is h

  -- a fault's place is the grammar's
  pub front_stops : (ts : List T) (n : ℕ) → p.reads ts ≡ fault n → StopsAt p.Is ts n
  front_stops ts n e = stops_stuck T A s kind p pl ts n e (pl.stops ts n e)

  -- and what stands before a fault is no text, unless its token may go on after one
  on_by : (ts before from : List T) (n : ℕ) (v : A) (b : Bool) → ts ≡ before ++ from → p.Is before v → p.reads ts ≡ fault n → starts kind false s.after from ≡ b → b ≡ true
  on_by ts before from n v true split is e h = refl
  on_by ts before from n v false split is e h = let whole = front_only ts before from v split is h in absurd (cc (e, whole))

  pub front_open : (ts before from : List T) (n : ℕ) (v : A) → ts ≡ before ++ from → p.Is before v → p.reads ts ≡ fault n → starts kind false s.after from ≡ true
  front_open ts before from n v split is e = on_by ts before from n v (starts kind false s.after from) split is e refl
