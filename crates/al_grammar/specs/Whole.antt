-- A whole text of a grammar, and where tokens are none.
use Rattle.std.specs.Prelude.{◌≡◌, ℕ, List, [], ◌∷◌, ◌++◌, length, Result, Ok, Err}
use Rattle.al_grammar.specs.Rules.{Step, read, fault}

-- The first token that can't stand where it stands, told by how many tokens are left from it on: what stands before it
-- begins some text of the grammar, and no text begins with that and the token. None are left where tokens end too early.
pub record StopsAt {T A : Type 0} (Is : List T → A → Type 0) (ts : List T) (n : ℕ) : Type 0 where
  pub before : List T
  pub from : List T
  pub split : ts ≡ before ++ from
  pub place : n ≡ length from
  pub more : List T
  pub value : A
  pub begins : Is (before ++ more) value
  pub ends : (x : T) (others more : List T) (v : A) → from ≡ x ∷ others → Is (before ++ x ∷ more) v → ⊥
  pub early : (v : A) → from ≡ [] → Is before v → ⊥

-- a reader's answer on a whole text
abbrev pub whole_of : {T A : Type 0} → Step T A → Result A ℕ
whole_of (read v []) = Ok v
whole_of (read v (t ∷ ts)) = Err (length (t ∷ ts))
whole_of (fault n) = Err n

-- A text of the grammar stands in front, and the token behind it, where there is one, goes on in none.
pub record FrontIs {T A : Type 0} (Is : List T → A → Type 0) (ts : List T) (v : A) (rest : List T) : Type 0 where
  pub used : List T
  pub split : ts ≡ used ++ rest
  pub is : Is used v
  pub ends : (x : T) (others more : List T) (w : A) → rest ≡ x ∷ others → Is (used ++ x ∷ more) w → ⊥
