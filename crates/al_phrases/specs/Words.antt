-- Words, names and signs of SQL as rules over tokens (4.1.1).
use Rattle.std.specs.Prelude.{ℕ, Bool, true, false, List, [], ◌∷◌, Option, Some, None}
use Rattle.al_grammar.specs.Gives.{many_from}
use Rattle.al_grammar.specs.Rules.{Shape, Step, Rule, next_item, leaf, leaf_shape, pair, both, listed, list_shape, optional, at_most_once, mapped}
use Rattle.al_phrases.specs.declared.lexeme.Lexeme.{Lexeme}
use Rattle.al_phrases.specs.Kinds.{names, comma}

infixr 20 ◌▸◌
infixr 20 ◌◂◌
abbrev pub kind_of : Lexeme → ℕ
kind_of t = t.kind

-- one token of a kind, for which it stands alone
abbrev pub one_of : ℕ → Shape
one_of k = leaf_shape (k ∷ [])

abbrev pub word : (k : ℕ) → Rule Lexeme (one_of k) (Unit {0})
word k = leaf kind_of (k ∷ []) (λ t. Some tt)

-- `▸` reads a word and keeps what follows, `◂` keeps what stands before a word
abbrev pub ◌▸◌ : {A : Type 0} {s : Shape} → (k : ℕ) → Rule Lexeme s A → Rule Lexeme (both (one_of k) s) A
k ▸ p = pair (λ u v. v) (word k) p

abbrev pub ◌◂◌ : {A : Type 0} {s : Shape} → Rule Lexeme s A → (k : ℕ) → Rule Lexeme (both s (one_of k)) A
p ◂ k = pair (λ v u. v) p (word k)

-- whether a word that may be left out stands there
abbrev pub is_there : {A : Type 0} → Option A → Bool
is_there None = false
is_there (Some x) = true

abbrev pub given : (k : ℕ) → Rule Lexeme (at_most_once (one_of k)) Bool
given k = mapped is_there (optional kind_of (word k))

-- a name: a word that isn't reserved, or a quoted name
abbrev pub name_shape : Shape
name_shape = leaf_shape names

unfoldable pub name : Rule Lexeme name_shape (List ℕ)
name = leaf kind_of names (λ t. Some t.text)

-- a list with commas between
abbrev pub comma_shape : Shape → Shape
comma_shape s = list_shape (one_of comma) s

abbrev pub comma_list : {A : Type 0} {s : Shape} → Rule Lexeme s A → Rule Lexeme (comma_shape s) (List A)
comma_list p = listed kind_of (word comma) p

-- names := name { "," name }
unfoldable pub name_list : Rule Lexeme (comma_shape name_shape) (List (List ℕ))
name_list = comma_list name

-- a comma and a name, and what is read of a list behind the names so far
unfoldable pub next_name : Rule Lexeme (both (one_of comma) name_shape) (List ℕ)
next_name = next_item (word comma) name

unfoldable pub names_from : List (List ℕ) → List Lexeme → Step Lexeme (List (List ℕ))
names_from so_far ts = many_from kind_of next_name so_far ts
