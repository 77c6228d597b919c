-- Cases of the definitions, and wrong answers that they refuse.
use Rattle.std.specs.Prelude.{◌≡◌, ℕ, List, [], ◌∷◌, Bool, true, false, refl, Some, None}
use Rattle.al_values.specs.declared.kinds.Kind.TheVariants as kinds
use Rattle.al_values.specs.declared.scalar.Value.{Value}
use Rattle.al_values.specs.declared.scalar.Value.TheVariants as values
use Rattle.al_schema.specs.declared.slot.Slot.{Slot}
use Rattle.al_schema.specs.Slots.{columns_of, row_by, slot_named, at_slot, as_dropped, with_default}

abbrev pub slot : ℕ → Value → Bool → Slot
slot name added dropped = record { name = name ∷ []; kind = kinds.Bigint; default = added; added = added; not_null = false; own = true; dropped = dropped }

abbrev pub one : Value
one = values.Bool true

abbrev pub two : Value
two = values.Bool false

-- a was dropped, b is stored, and c was added later
abbrev pub slots : List Slot
slots = slot 97 values.Null true ∷ slot 98 values.Null false ∷ slot 99 one false ∷ []

pub shorter : row_by slots (two ∷ two ∷ []) ≡ two ∷ one ∷ []
shorter = refl

pub whole : row_by slots (two ∷ two ∷ two ∷ []) ≡ two ∷ two ∷ []
whole = refl

pub not_of_the_dropped : row_by slots (one ∷ two ∷ []) ≡ one ∷ one ∷ [] → ⊥
not_of_the_dropped e = cc

pub later_default : row_by (at_slot 2 (with_default two) slots) (two ∷ two ∷ []) ≡ two ∷ one ∷ []
later_default = refl

pub dropped_name : slot_named slots (97 ∷ []) ≡ None
dropped_name = refl

pub live_name : slot_named slots (99 ∷ []) ≡ Some 2
live_name = refl
