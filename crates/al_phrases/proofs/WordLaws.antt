-- Words, names and lists of names are read lawfully.
use Rattle.std.proofs.Common.{◌≡◌, ℕ, pos, true, false, List, [], ◌∷◌, ◌++◌, Some, refl}
use Rattle.al_grammar.specs.Kinds.{among, apart, starts}
use Rattle.al_grammar.specs.Rules.{Shape, Rule, read, fault, leaf, both}
use Rattle.al_grammar.specs.Laws.{Lawful}
use Rattle.al_grammar.proofs.Leaf.{lawful_leaf}
use Rattle.al_grammar.proofs.Pair.{lawful_pair}
use Rattle.al_grammar.proofs.Choices.{lawful_mapped, lawful_optional}
use Rattle.al_grammar.proofs.Rows.{lawful_next, lawful_listed, many_on, many_off, many_stop}
use Rattle.al_phrases.specs.declared.lexeme.Lexeme.{Lexeme}
use Rattle.al_phrases.specs.Kinds.{names, comma, name as name_kind}
use Rattle.al_phrases.specs.Words.{kind_of, one_of, word, ◌▸◌, ◌◂◌, is_there, given, name_shape, name, comma_list, name_list, next_name, names_from}

abbrev pub token : ℕ → Lexeme
token k = record { kind = k; called = false; place = 0; text = []; number = pos 1 }

-- a leaf that takes each token of its kinds
pub lawful_each : (A : Type 0) (kinds : List ℕ) (of : Lexeme → A) (k : ℕ) → among k kinds ≡ true → Lawful kind_of (leaf kind_of kinds (λ t. Some (of t)))
lawful_each A kinds of k h = lawful_leaf Lexeme A kind_of kinds (λ t. Some (of t)) (token k) (of (token k)) h refl

pub lawful_word : (k : ℕ) → among k (k ∷ []) ≡ true → Lawful kind_of (word k)
lawful_word k h = lawful_each (Unit {0}) (k ∷ []) (λ t. tt) k h

module _ (A : Type 0) (s : Shape) (p : Rule Lexeme s A) (pl : Lawful kind_of p) where
  -- a word in front, and one behind
  pub lawful_front : (k : ℕ) → among k (k ∷ []) ≡ true → Lawful kind_of (k ▸ p)
  lawful_front k h = lawful_pair _ _ _ _ _ _ kind_of (word k) p (λ u v. v) (lawful_word k h) pl refl

  pub lawful_back : (k : ℕ) → among k (k ∷ []) ≡ true → apart s.after (k ∷ []) ≡ true → Lawful kind_of (p ◂ k)
  lawful_back k h ok = lawful_pair _ _ _ _ _ _ kind_of p (word k) (λ v u. v) pl (lawful_word k h) ok

  pub lawful_commas : s.empty ≡ false → apart (both (one_of comma) s).after (comma ∷ []) ≡ true → apart s.after (comma ∷ []) ≡ true → Lawful kind_of (comma_list p)
  lawful_commas some again onto = lawful_listed Lexeme A (Unit {0}) (one_of comma) s kind_of (word comma) p (lawful_word comma refl) pl refl refl again onto

pub lawful_given : (k : ℕ) → among k (k ∷ []) ≡ true → Lawful kind_of (given k)
lawful_given k h = lawful_mapped _ _ _ _ kind_of is_there _ (lawful_optional _ _ _ kind_of (word k) (lawful_word k h) refl)

pub lawful_name : Lawful kind_of name
unfolding name
lawful_name = lawful_each (List ℕ) names (λ t. t.text) name_kind refl

pub lawful_name_list : Lawful kind_of name_list
unfolding name_list
lawful_name_list = lawful_commas (List ℕ) name_shape name lawful_name refl refl refl

-- a list of names, as code reads it
lawful_next_name : Lawful kind_of next_name
unfolding next_name
lawful_next_name = lawful_next Lexeme (List ℕ) (Unit {0}) (one_of comma) name_shape kind_of (word comma) name (lawful_word comma refl) lawful_name refl refl refl refl

abbrev next_shape : Shape
next_shape = both (one_of comma) name_shape

pub names_on : (xs : List (List ℕ)) (v : List ℕ) (ts mid : List Lexeme) → starts kind_of false (comma ∷ []) ts ≡ true → next_name.reads ts ≡ read v mid → names_from xs ts ≡ names_from (xs ++ v ∷ []) mid
unfolding names_from
names_on = many_on Lexeme (List ℕ) next_shape kind_of next_name lawful_next_name refl

pub names_off : (xs : List (List ℕ)) (ts : List Lexeme) (n : ℕ) → starts kind_of false (comma ∷ []) ts ≡ true → next_name.reads ts ≡ fault n → names_from xs ts ≡ fault n
unfolding names_from
names_off = many_off Lexeme (List ℕ) next_shape kind_of next_name lawful_next_name refl

pub names_stop : (xs : List (List ℕ)) (ts : List Lexeme) → starts kind_of false (comma ∷ []) ts ≡ false → names_from xs ts ≡ read xs ts
unfolding names_from
names_stop = many_stop Lexeme (List ℕ) next_shape kind_of next_name lawful_next_name refl
