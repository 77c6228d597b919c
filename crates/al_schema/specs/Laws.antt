-- Words for the laws of rows.
use Rattle.std.specs.Prelude.{ℕ, ◌+◌, zero, suc, List, [], ◌∷◌, Bool, true, if◌then◌else◌}
use Rattle.al_values.specs.declared.scalar.Value.{Value}
use Rattle.al_schema.specs.declared.slot.Slot.{Slot}

abbrev pub dropped_at : List Slot → ℕ → Bool
dropped_at [] at = true
dropped_at (slot ∷ slots) zero = slot.dropped
dropped_at (slot ∷ slots) (suc at) = dropped_at slots at

-- how many columns stand before a slot
abbrev pub columns_before : List Slot → ℕ → ℕ
columns_before [] at = 0
columns_before (slot ∷ slots) zero = 0
columns_before (slot ∷ slots) (suc at) = if slot.dropped then columns_before slots at else suc (columns_before slots at)

-- a row without the value at a place
abbrev pub left_out : ℕ → List Value → List Value
left_out at [] = []
left_out zero (value ∷ row) = row
left_out (suc at) (value ∷ row) = value ∷ left_out at row
