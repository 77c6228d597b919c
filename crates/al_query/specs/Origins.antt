-- Where the values of a query's columns stand in stored rows (the manual, 5.6 and 5.10, and SELECT under "SELECT List").
use Rattle.std.specs.Prelude.{◌≡◌, ℕ, ◌+◌, List, [], ◌∷◌, if◌then◌else◌, Option, Some, None, slice_get}
use Rattle.al_values.specs.declared.scalar.Value.{Value}
use Rattle.al_values.specs.declared.scalar.Value.TheVariants.{Null}
use Rattle.al_expr.specs.declared.column.Column.{Column}
use Rattle.al_schema.specs.declared.slot.Slot.{Slot}
use Rattle.al_schema.specs.Slots.{row_by, slot_named}
use Rattle.al_query.specs.declared.origin.Origin.{Origin}

abbrev pub names_in : List Column → List (List ℕ)
names_in [] = []
names_in (column ∷ columns) = column.name ∷ names_in columns

-- the slots that aren't dropped, the first of the list having this number; a row that ends before a slot has the value
-- that its column was added with
abbrev pub origins_from : ℕ → List Slot → List Origin
origins_from at [] = []
origins_from at (slot ∷ slots) =
    if slot.dropped then origins_from (at + 1) slots else record { slot = Some at; missing = slot.added } ∷ origins_from (at + 1) slots

-- the columns of a table by its own shape
abbrev pub origins_of : List Slot → List Origin
origins_of slots = origins_from 0 slots

-- a column that a table doesn't have is null in each of its rows
abbrev pub nowhere : Origin
nowhere = record { slot = None; missing = Null }

abbrev pub origin_at : ℕ → Option Slot → Origin
origin_at at None = nowhere
origin_at at (Some slot) = record { slot = Some at; missing = slot.added }

abbrev pub origin_by : List Slot → Option ℕ → Origin
origin_by slots None = nowhere
origin_by slots (Some at) = origin_at at (slice_get slots at)

-- a column of a table by its name
abbrev pub origin_named : List Slot → List ℕ → Origin
origin_named slots name = origin_by slots (slot_named slots name)

abbrev pub origins_named : List Slot → List (List ℕ) → List Origin
origins_named slots [] = []
origins_named slots (name ∷ names) = origin_named slots name ∷ origins_named slots names

abbrev pub stored_at : List Value → Option ℕ → Option Value
stored_at stored None = None
stored_at stored (Some at) = slice_get stored at

abbrev pub value_or : Option Value → Value → Value
value_or None missing = missing
value_or (Some value) missing = value

-- the value of a column in a row with these stored values
abbrev pub value_from : List Value → Origin → Value
value_from stored origin = value_or (stored_at stored origin.slot) origin.missing

abbrev pub row_from : List Origin → List Value → List Value
row_from [] stored = []
row_from (origin ∷ origins) stored = value_from stored origin ∷ row_from origins stored

-- the columns give of each row what a shape of these slots does
abbrev pub ReadsAs : List Origin → List Slot → Type 0
ReadsAs origins slots = (stored : List Value) → row_from origins stored ≡ row_by slots stored
