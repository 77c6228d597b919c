-- The table of conflicts as rows, and its symmetry.
use Rattle.std.specs.Prelude.{◌≡◌, List, [], ◌∷◌, Bool, true, false, map, refl}
use Rattle.al_modes.specs.declared.mode.Mode.{Mode}
use Rattle.al_modes.specs.declared.mode.Mode.TheVariants.{AccessShare, RowShare, RowExclusive, ShareUpdateExclusive, Share, ShareRowExclusive, Exclusive, AccessExclusive}
use Rattle.al_modes.specs.Conflicts.{conflict}

abbrev pub modes : List Mode
modes =
    AccessShare ∷ RowShare ∷ RowExclusive ∷ ShareUpdateExclusive ∷ Share ∷ ShareRowExclusive ∷ Exclusive ∷ AccessExclusive ∷ []

-- a row for each mode, in order, with a column for each mode, in the same order
abbrev pub rows : List (List Bool)
rows =
    (false ∷ false ∷ false ∷ false ∷ false ∷ false ∷ false ∷ true ∷ [])
    ∷ (false ∷ false ∷ false ∷ false ∷ false ∷ false ∷ true ∷ true ∷ [])
    ∷ (false ∷ false ∷ false ∷ false ∷ true ∷ true ∷ true ∷ true ∷ [])
    ∷ (false ∷ false ∷ false ∷ true ∷ true ∷ true ∷ true ∷ true ∷ [])
    ∷ (false ∷ false ∷ true ∷ true ∷ false ∷ true ∷ true ∷ true ∷ [])
    ∷ (false ∷ false ∷ true ∷ true ∷ true ∷ true ∷ true ∷ true ∷ [])
    ∷ (false ∷ true ∷ true ∷ true ∷ true ∷ true ∷ true ∷ true ∷ [])
    ∷ (true ∷ true ∷ true ∷ true ∷ true ∷ true ∷ true ∷ true ∷ [])
    ∷ []

-- all 64 pairs
pub conflicts_are_rows : map (λ a. map (λ b. conflict a b) modes) modes ≡ rows
conflicts_are_rows = refl

-- a mode conflicts with those that conflict with it
pub symmetric : (a b : Mode) → conflict a b ≡ conflict b a
symmetric AccessShare b = elim b as (λ x. conflict AccessShare x ≡ conflict x AccessShare) [ AccessShare ↦ refl | RowShare ↦ refl | RowExclusive ↦ refl | ShareUpdateExclusive ↦ refl | Share ↦ refl | ShareRowExclusive ↦ refl | Exclusive ↦ refl | AccessExclusive ↦ refl ]
symmetric RowShare b = elim b as (λ x. conflict RowShare x ≡ conflict x RowShare) [ AccessShare ↦ refl | RowShare ↦ refl | RowExclusive ↦ refl | ShareUpdateExclusive ↦ refl | Share ↦ refl | ShareRowExclusive ↦ refl | Exclusive ↦ refl | AccessExclusive ↦ refl ]
symmetric RowExclusive b = elim b as (λ x. conflict RowExclusive x ≡ conflict x RowExclusive) [ AccessShare ↦ refl | RowShare ↦ refl | RowExclusive ↦ refl | ShareUpdateExclusive ↦ refl | Share ↦ refl | ShareRowExclusive ↦ refl | Exclusive ↦ refl | AccessExclusive ↦ refl ]
symmetric ShareUpdateExclusive b = elim b as (λ x. conflict ShareUpdateExclusive x ≡ conflict x ShareUpdateExclusive) [ AccessShare ↦ refl | RowShare ↦ refl | RowExclusive ↦ refl | ShareUpdateExclusive ↦ refl | Share ↦ refl | ShareRowExclusive ↦ refl | Exclusive ↦ refl | AccessExclusive ↦ refl ]
symmetric Share b = elim b as (λ x. conflict Share x ≡ conflict x Share) [ AccessShare ↦ refl | RowShare ↦ refl | RowExclusive ↦ refl | ShareUpdateExclusive ↦ refl | Share ↦ refl | ShareRowExclusive ↦ refl | Exclusive ↦ refl | AccessExclusive ↦ refl ]
symmetric ShareRowExclusive b = elim b as (λ x. conflict ShareRowExclusive x ≡ conflict x ShareRowExclusive) [ AccessShare ↦ refl | RowShare ↦ refl | RowExclusive ↦ refl | ShareUpdateExclusive ↦ refl | Share ↦ refl | ShareRowExclusive ↦ refl | Exclusive ↦ refl | AccessExclusive ↦ refl ]
symmetric Exclusive b = elim b as (λ x. conflict Exclusive x ≡ conflict x Exclusive) [ AccessShare ↦ refl | RowShare ↦ refl | RowExclusive ↦ refl | ShareUpdateExclusive ↦ refl | Share ↦ refl | ShareRowExclusive ↦ refl | Exclusive ↦ refl | AccessExclusive ↦ refl ]
symmetric AccessExclusive b = elim b as (λ x. conflict AccessExclusive x ≡ conflict x AccessExclusive) [ AccessShare ↦ refl | RowShare ↦ refl | RowExclusive ↦ refl | ShareUpdateExclusive ↦ refl | Share ↦ refl | ShareRowExclusive ↦ refl | Exclusive ↦ refl | AccessExclusive ↦ refl ]
