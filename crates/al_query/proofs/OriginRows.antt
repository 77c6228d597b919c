-- The columns of a shape give the rows of the shape.
use Rattle.std.proofs.Common.{◌≡◌, ℕ, ◌+◌, zero, suc, Bool, true, false, cond, List, [], ◌∷◌, drop, refl, sym, ap, ◌∙◌, slice_get, Some, add-one, subst}
use Rattle.al_values.specs.declared.scalar.Value.{Value}
use Rattle.al_schema.specs.declared.slot.Slot.{Slot}
use Rattle.al_schema.specs.Slots.{row_by}
use Rattle.al_query.specs.declared.origin.Origin.{Origin}
use Rattle.al_query.specs.Origins.{origins_from, origins_of, value_or, row_from, ReadsAs}

slot-on : (slot : Slot) (slots : List Slot) (stored : List Value) (n : ℕ)
    → row_by (slot ∷ slots) (drop n stored) ≡ cond slot.dropped (row_by slots (drop (suc n) stored)) (value_or (slice_get stored n) slot.added ∷ row_by slots (drop (suc n) stored))
slot-on slot slots [] zero = refl
slot-on slot slots (value ∷ stored) zero = refl
slot-on slot slots [] (suc n) = refl
slot-on slot slots (value ∷ stored) (suc n) = slot-on slot slots stored n

pub rows-from : (n : ℕ) (slots : List Slot) (stored : List Value) → row_from (origins_from n slots) stored ≡ row_by slots (drop n stored)
rows-from n [] stored = refl
rows-from n (slot ∷ slots) stored = by slot.dropped (subst (λ (m : ℕ). row_from (origins_from (n + 1) slots) stored ≡ row_by slots (drop m stored)) (add-one n) (rows-from (n + 1) slots stored)) ∙ sym (slot-on slot slots stored n) where
  here : Origin
  here = record { slot = Some n; missing = slot.added }

  by : (b : Bool) → row_from (origins_from (n + 1) slots) stored ≡ row_by slots (drop (suc n) stored)
      → row_from (cond b (origins_from (n + 1) slots) (here ∷ origins_from (n + 1) slots)) stored ≡ cond b (row_by slots (drop (suc n) stored)) (value_or (slice_get stored n) slot.added ∷ row_by slots (drop (suc n) stored))
  by true more = more
  by false more = ap (λ (values : List Value). value_or (slice_get stored n) slot.added ∷ values) more

pub reads_as : (slots : List Slot) → ReadsAs (origins_of slots) slots
reads_as slots = λ stored. rows-from 0 slots stored
