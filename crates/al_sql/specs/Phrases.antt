-- What several statements share, over tokens. `depth` is how many levels an expression may open.
use Rattle.std.specs.Prelude.{◌≡◌, ℕ, Bool, false, if◌then◌else◌, List, [], ◌∷◌, length, Option, Some, None}
use Rattle.al_grammar.specs.Kinds.{among, starts}
use Rattle.al_grammar.specs.Rules.{Shape, Rule, fault, leaf, leaf_shape, pair, both, optional, at_most_once, mapped, next_item}
use Rattle.al_expr.specs.declared.tree.Expr.{Expr}
use Rattle.al_phrases.specs.declared.lexeme.Lexeme.{Lexeme}
use Rattle.al_phrases.specs.Kinds as k
use Rattle.al_phrases.specs.Words.{kind_of, one_of, word, is_there, ◌▸◌}
use Rattle.al_phrases.specs.Expressions.{or_shape, expression}

-- one of several words
abbrev pub word_among : (kinds : List ℕ) → Rule Lexeme (leaf_shape kinds) (Unit {0})
word_among kinds = leaf kind_of kinds (λ t. Some tt)

-- whether one of several words stands there
abbrev pub given_among : (kinds : List ℕ) → Rule Lexeme (at_most_once (leaf_shape kinds)) Bool
given_among kinds = mapped is_there (optional kind_of (word_among kinds))

-- one of several words, which may be left out and mean nothing, and what follows
abbrev pub filler_shape : List ℕ → Shape → Shape
filler_shape kinds s = both (at_most_once (leaf_shape kinds)) s

abbrev pub filler : {A : Type 0} {s : Shape} → (kinds : List ℕ) → Rule Lexeme s A → Rule Lexeme (filler_shape kinds s) A
filler kinds p = pair (λ there v. v) (given_among kinds) p

-- a list that may be left out has nothing in it then
abbrev pub or_none : {A : Type 0} → Option (List A) → List A
or_none None = []
or_none (Some xs) = xs

-- a comma and an item, and what is read of a list behind the items so far
abbrev pub comma_next : Shape → Shape
comma_next s = both (one_of k.comma) s

abbrev pub next_of : {A : Type 0} {s : Shape} → Rule Lexeme s A → Rule Lexeme (comma_next s) A
next_of p = next_item (word k.comma) p

-- [ WHERE expr ]
abbrev pub condition_shape : Shape
condition_shape = both (one_of k.where_word) or_shape

unfoldable pub condition : ℕ → Rule Lexeme (at_most_once condition_shape) (Option Expr)
condition depth = optional kind_of (k.where_word ▸ expression depth)

-- the texts of a rule that begin with none of these kinds
pub record IsBarred {A : Type 0} (kinds : List ℕ) (Is : List Lexeme → A → Type 0) (text : List Lexeme) (v : A) : Type 0 where
  pub is : Is text v
  pub other : starts kind_of false kinds text ≡ false

abbrev pub barring : {A : Type 0} {s : Shape} → (kinds : List ℕ) → (w : Shape) → Rule Lexeme s A → Rule Lexeme w A
barring kinds w p = record {
  Is = IsBarred kinds p.Is;
  reads = λ ts. if starts kind_of false kinds ts then fault (length ts) else p.reads ts;
}

-- a list of kinds without some of them
abbrev pub without : List ℕ → List ℕ → List ℕ
without kinds [] = []
without kinds (n ∷ ns) = if among n kinds then without kinds ns else n ∷ without kinds ns
