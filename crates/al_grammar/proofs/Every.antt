-- What holds of each token of a text.
use Rattle.std.proofs.Common.{◌≡◌, ℕ, true, List, [], ◌∷◌, ◌++◌, Option, sym, subst}
use Rattle.al_grammar.specs.Kinds.{among}
use Rattle.al_grammar.specs.Rules.{IsLeaf, IsBoth, IsOptional, left_out, there, IsMany, none, one_more}

abbrev pub Every : {T : Type 0} → (T → Type 0) → List T → Type 0
Every P [] = Unit {0}
Every P (t ∷ ts) = P t × Every P ts

module _ (T : Type 0) (P : T → Type 0) where
  pub every_append : (a b : List T) → Every P a → Every P b → Every P (a ++ b)
  every_append [] b x y = y
  every_append (t ∷ a) b x y = (x.0, every_append a b x.1 y)

  pub every_split : (a b : List T) → Every P (a ++ b) → Every P a × Every P b
  every_split [] b x = (tt, x)
  every_split (t ∷ a) b x = let r = every_split a b x.1 in ((x.0, r.0), r.1)

  abbrev pub Keeps : {A : Type 0} → (List T → A → Type 0) → Type 0
  Keeps {A} Is = (text : List T) (v : A) → Is text v → Every P text

  pub keeps_leaf : (A : Type 0) (kind : T → ℕ) (kinds : List ℕ) (of : T → Option A) → ((t : T) → among (kind t) kinds ≡ true → P t) → Keeps (IsLeaf kind kinds of)
  keeps_leaf A kind kinds of each text v is = subst (λ (l : List T). Every P l) (sym is.alone) (each is.token is.kind_is, tt)

  pub keeps_pair : (A B C : Type 0) (Is : List T → A → Type 0) (IsNext : List T → B → Type 0) (join : A → B → C) → Keeps Is → Keeps IsNext → Keeps (IsBoth Is IsNext join)
  keeps_pair A B C Is IsNext join p q text v is = subst (λ (l : List T). Every P l) (sym is.split) (every_append is.front is.back (p is.front is.first is.first_is) (q is.back is.second is.second_is))

  pub keeps_optional : (A : Type 0) (Is : List T → A → Type 0) → Keeps Is → Keeps (IsOptional Is)
  keeps_optional A Is p _ _ left_out = tt
  keeps_optional A Is p _ _ (there text v is) = p text v is

  pub keeps_many : (A : Type 0) (Is : List T → A → Type 0) → Keeps Is → Keeps (IsMany Is)
  keeps_many A Is p _ _ none = tt
  keeps_many A Is p _ _ (one_more text front back v vs split is more) = subst (λ (l : List T). Every P l) (sym split) (every_append front back (p front v is) (keeps_many A Is p back vs more))
