-- The places for a table's columns in its stored rows (the manual, 5.6 and ALTER TABLE's notes).
use Rattle.std.specs.Prelude.{◌≡◌, ℕ, ◌+◌, zero, suc, List, [], ◌∷◌, Bool, true, false, not, ◌&&◌, if◌then◌else◌, Option, Some, None, position}
use Rattle.al_values.specs.declared.kinds.Kind.{Kind}
use Rattle.al_values.specs.declared.scalar.Value.{Value}
use Rattle.al_expr.specs.declared.column.Column.{Column}
use Rattle.al_expr.specs.Columns.{same_name}
use Rattle.al_schema.specs.declared.slot.Slot.{Slot}

-- the columns: the slots that aren't dropped
abbrev pub columns_of : List Slot → List Column
columns_of [] = []
columns_of (slot ∷ slots) =
    if slot.dropped then columns_of slots else record { name = slot.name; kind = slot.kind } ∷ columns_of slots

-- a row by its stored values: what is stored in each slot that isn't dropped, and where the stored values end before
-- it, what a row has there that is older than the column
abbrev pub row_by : List Slot → List Value → List Value
row_by [] stored = []
row_by (slot ∷ slots) [] = if slot.dropped then row_by slots [] else slot.added ∷ row_by slots []
row_by (slot ∷ slots) (value ∷ stored) = if slot.dropped then row_by slots stored else value ∷ row_by slots stored

-- whether a slot is a column of the name
abbrev pub is_named : List ℕ → Slot → Bool
is_named name slot = not slot.dropped && same_name slot.name name

-- the slot of a column
abbrev pub slot_named : List Slot → List ℕ → Option ℕ
slot_named slots name = position (is_named name) slots

-- the name of a slot
abbrev pub name_at : List Slot → ℕ → List ℕ
name_at [] at = []
name_at (slot ∷ slots) zero = slot.name
name_at (slot ∷ slots) (suc at) = name_at slots at

-- a slot changed
abbrev pub at_slot : ℕ → (Slot → Slot) → List Slot → List Slot
at_slot at change [] = []
at_slot zero change (slot ∷ slots) = change slot ∷ slots
at_slot (suc at) change (slot ∷ slots) = slot ∷ at_slot at change slots

abbrev pub as_dropped : Slot → Slot
as_dropped slot = record slot { dropped = true }

abbrev pub renamed_to : List ℕ → Slot → Slot
renamed_to name slot = record slot { name = name }

abbrev pub retyped : Kind → Slot → Slot
retyped kind slot = record slot { kind = kind }

abbrev pub with_default : Value → Slot → Slot
with_default value slot = record slot { default = value }

abbrev pub with_not_null : Bool → Slot → Slot
with_not_null mark slot = record slot { not_null = mark }

abbrev pub with_own : Bool → Slot → Slot
with_own mark slot = record slot { own = mark }
