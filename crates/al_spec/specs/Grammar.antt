-- The grammar of spec files, over their tokens.
use Rattle.std.specs.Prelude.{ℕ, List, [], ◌∷◌, Option, Some, None}
use Rattle.al_grammar.specs.Rules.{Shape, Rule, leaf, leaf_shape, pair, both, optional, many, at_most_once}
use Rattle.al_spec.specs.declared.kinds.Word.TheVariants as words
use Rattle.al_spec.specs.declared.kinds.Kind.{Kind}
use Rattle.al_spec.specs.declared.kinds.Kind.TheVariants as kinds
use Rattle.al_spec.specs.declared.kinds.Lexeme.{Lexeme}
use Rattle.al_spec.specs.declared.kinds.Lexeme.TheVariants as lexemes
use Rattle.al_spec.specs.declared.kinds.Token.{Token}

infixr 20 ◌▸◌
infixr 20 ◌&◌
-- the kind of a token: what is open is read as what it would be, and the end behind it is taken by no rule
abbrev pub kind : Lexeme → Kind
kind (lexemes.Word words.Setup) = kinds.Setup
kind (lexemes.Word words.Teardown) = kinds.Teardown
kind (lexemes.Word words.Session) = kinds.Session
kind (lexemes.Word words.Step) = kinds.Step
kind (lexemes.Word words.Permutation) = kinds.Permutation
kind (lexemes.Name n) = kinds.Name
kind lexemes.OpenName = kinds.Name
kind (lexemes.Block text) = kinds.Block
kind lexemes.OpenBlock = kinds.Block
kind lexemes.Unclosed = kinds.Other
kind lexemes.Paren = kinds.Other
kind lexemes.Stray = kinds.Other

abbrev pub number : Kind → ℕ
number kinds.Setup = 0
number kinds.Teardown = 1
number kinds.Session = 2
number kinds.Step = 3
number kinds.Permutation = 4
number kinds.Name = 5
number kinds.Block = 6
number kinds.Other = 7

abbrev pub kind_of : Token → ℕ
kind_of t = number (kind t.lexeme)

abbrev pub name_in : Lexeme → Option (List ℕ)
name_in (lexemes.Name n) = Some n
name_in lexemes.OpenName = Some []
name_in other = None

abbrev pub text_in : Lexeme → Option (List ℕ)
text_in (lexemes.Block text) = Some text
text_in lexemes.OpenBlock = Some []
text_in other = None

-- ---- what a file says

pub record StepText : Type 0 where
  pub name : List ℕ
  pub text : List ℕ

pub record SessionText : Type 0 where
  pub name : List ℕ
  pub setup : Option (List ℕ)
  pub steps : List StepText
  pub teardown : Option (List ℕ)

pub record File : Type 0 where
  pub setups : List (List ℕ)
  pub teardown : Option (List ℕ)
  pub sessions : List SessionText
  pub permutations : List (List (List ℕ))

-- ---- tokens

abbrev pub one_of : Kind → Shape
one_of k = leaf_shape (number k ∷ [])

abbrev pub word : (k : Kind) → Rule Token (one_of k) (Unit {0})
word k = leaf kind_of (number k ∷ []) (λ t. Some tt)

abbrev pub name : Rule Token (one_of kinds.Name) (List ℕ)
name = leaf kind_of (number kinds.Name ∷ []) (λ t. name_in t.lexeme)

abbrev pub block : Rule Token (one_of kinds.Block) (List ℕ)
block = leaf kind_of (number kinds.Block ∷ []) (λ t. text_in t.lexeme)

-- ---- productions: `▸` reads a word and keeps what follows, `&` keeps both

abbrev pub ◌▸◌ : {A : Type 0} {s : Shape} → (k : Kind) → Rule Token s A → Rule Token (both (one_of k) s) A
k ▸ p = pair (λ u v. v) (word k) p

abbrev pub ◌&◌ : {A B : Type 0} {s u : Shape} → Rule Token s A → Rule Token u B → Rule Token (both s u) (A × B)
p & q = pair (λ x y. (x, y)) p q

abbrev pub one_or_more : {A : Type 0} {s : Shape} → Rule Token s A → Rule Token (both s (at_most_once s)) (List A)
one_or_more p = pair (λ x xs. x ∷ xs) p (many kind_of p)

-- "setup" block, or "teardown" block
abbrev pub after_shape : Kind → Shape
after_shape k = both (one_of k) (one_of kinds.Block)

unfoldable pub block_after : (k : Kind) → Rule Token (after_shape k) (List ℕ)
block_after k = k ▸ block

-- step := "step" name block
abbrev pub step_shape : Shape
step_shape = both (one_of kinds.Step) (both (one_of kinds.Name) (one_of kinds.Block))

abbrev pub step_of : List ℕ → List ℕ → StepText
step_of n t = record { name = n; text = t }

unfoldable pub step : Rule Token step_shape StepText
step = kinds.Step ▸ pair step_of name block

-- step { step }
abbrev pub steps_shape : Shape
steps_shape = both step_shape (at_most_once step_shape)

unfoldable pub steps : Rule Token steps_shape (List StepText)
steps = one_or_more step

-- session := "session" name [ "setup" block ] step { step } [ "teardown" block ]
abbrev pub ends_shape : Shape
ends_shape = both steps_shape (at_most_once (after_shape kinds.Teardown))

unfoldable pub session_end : Rule Token ends_shape ((List StepText) × (Option (List ℕ)))
session_end = steps & optional kind_of (block_after kinds.Teardown)

abbrev pub begins_shape : Shape
begins_shape = both (at_most_once (after_shape kinds.Setup)) ends_shape

unfoldable pub session_parts : Rule Token begins_shape ((Option (List ℕ)) × ((List StepText) × (Option (List ℕ))))
session_parts = optional kind_of (block_after kinds.Setup) & session_end

abbrev pub session_of : List ℕ → (Option (List ℕ)) × ((List StepText) × (Option (List ℕ))) → SessionText
session_of n parts = record { name = n; setup = parts.0; steps = parts.1.0; teardown = parts.1.1 }

abbrev pub session_shape : Shape
session_shape = both (one_of kinds.Session) (both (one_of kinds.Name) begins_shape)

unfoldable pub session : Rule Token session_shape SessionText
session = kinds.Session ▸ pair session_of name session_parts

-- session { session }
abbrev pub sessions_shape : Shape
sessions_shape = both session_shape (at_most_once session_shape)

unfoldable pub sessions : Rule Token sessions_shape (List SessionText)
sessions = one_or_more session

-- permutation := "permutation" name { name }
abbrev pub permutation_shape : Shape
permutation_shape = both (one_of kinds.Permutation) (both (one_of kinds.Name) (at_most_once (one_of kinds.Name)))

unfoldable pub permutation : Rule Token permutation_shape (List (List ℕ))
permutation = kinds.Permutation ▸ one_or_more name

-- spec := { "setup" block } [ "teardown" block ] session { session } { permutation }
abbrev pub bodies_shape : Shape
bodies_shape = both sessions_shape (at_most_once permutation_shape)

unfoldable pub bodies : Rule Token bodies_shape ((List SessionText) × (List (List (List ℕ))))
bodies = sessions & many kind_of permutation

abbrev pub late_shape : Shape
late_shape = both (at_most_once (after_shape kinds.Teardown)) bodies_shape

unfoldable pub late : Rule Token late_shape ((Option (List ℕ)) × ((List SessionText) × (List (List (List ℕ)))))
late = optional kind_of (block_after kinds.Teardown) & bodies

abbrev pub file_of : List (List ℕ) → (Option (List ℕ)) × ((List SessionText) × (List (List (List ℕ)))) → File
file_of setups rest = record { setups = setups; teardown = rest.0; sessions = rest.1.0; permutations = rest.1.1 }

abbrev pub file_shape : Shape
file_shape = both (at_most_once (after_shape kinds.Setup)) late_shape

unfoldable pub file : Rule Token file_shape File
file = pair file_of (many kind_of (block_after kinds.Setup)) late
