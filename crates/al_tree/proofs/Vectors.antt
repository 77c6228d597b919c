-- Cases of the definitions, and wrong answers that they refuse.
use Rattle.std.proofs.Common.{arith}
use Rattle.std.specs.Prelude.{◌≡◌, ℕ, List, [], ◌∷◌, true, false, refl}
use Rattle.al_tree.specs.Ascending.{Ascends, put, without}
use Rattle.al_tree.specs.Links.{Inherits, has_link, children_of, Descends, HasNoCircle}

abbrev pub link : ℕ → ℕ → Inherits
link child parent = record { child = child; parent = parent }

-- 9 and 3 inherit from 7, and 5 from both
abbrev pub diamond : List Inherits
diamond = link 5 3 ∷ link 3 7 ∷ link 9 7 ∷ link 5 9 ∷ []

pub children_ascend : children_of diamond 7 ≡ 3 ∷ 9 ∷ []
children_ascend = refl

pub there : has_link diamond 5 9 ≡ true
there = refl

pub not_turned : has_link diamond 9 5 ≡ false
not_turned = refl

pub below : Descends diamond 7 5
below = Descends.child_below 5 9 (Descends.child_of 9 refl) refl

pub twice_is_refused : Ascends (3 ∷ 3 ∷ []) → ⊥
twice_is_refused h = absurd (omega (arith, h.0.0))

pub put_between : put 5 (3 ∷ 9 ∷ []) ≡ 3 ∷ 5 ∷ 9 ∷ []
put_between = refl

pub taken_out : without 5 (3 ∷ 5 ∷ 9 ∷ []) ≡ 3 ∷ 9 ∷ []
taken_out = refl

-- a table that descends from itself
pub circle : HasNoCircle (link 1 2 ∷ link 2 1 ∷ []) → ⊥
circle none = none 1 (Descends.child_below 1 2 (Descends.child_of 2 refl) refl)
