-- The table of conflicting row modes, written a second time: a row for each mode.
use Rattle.std.specs.Prelude.{◌≡◌, List, [], ◌∷◌, Bool, true, false, map, refl}
use Rattle.al_modes.specs.declared.row_mode.RowMode.{RowMode}
use Rattle.al_modes.specs.declared.row_mode.RowMode.TheVariants.{KeyShare, Share, NoKeyUpdate, Update}
use Rattle.al_modes.specs.RowConflicts.{row_conflict}

abbrev pub row_modes : List RowMode
row_modes = KeyShare ∷ Share ∷ NoKeyUpdate ∷ Update ∷ []

-- a row for each mode, in order, with a column for each mode, in the same order
abbrev pub rows : List (List Bool)
rows =
    (false ∷ false ∷ false ∷ true ∷ [])
    ∷ (false ∷ false ∷ true ∷ true ∷ [])
    ∷ (false ∷ true ∷ true ∷ true ∷ [])
    ∷ (true ∷ true ∷ true ∷ true ∷ [])
    ∷ []

-- all 16 pairs
pub row_conflicts_are_rows : map (λ a. map (λ b. row_conflict a b) row_modes) row_modes ≡ rows
row_conflicts_are_rows = refl
