-- What becomes of stored rows when slots change.
use Rattle.std.proofs.Common.{◌≡◌, ℕ, ◌+◌, ◌<◌, ◌≤◌, zero, suc, Bool, true, false, cond, List, [], ◌∷◌, ◌++◌, length, refl, ap, arith}
use Rattle.al_values.specs.declared.scalar.Value.{Value}
use Rattle.al_schema.specs.declared.slot.Slot.{Slot}
use Rattle.al_schema.specs.Slots.{columns_of, row_by, at_slot, as_dropped, with_default}
use Rattle.al_schema.specs.Laws.{dropped_at, columns_before, left_out}

pub one_value_each : (slots : List Slot) (stored : List Value) → length (row_by slots stored) ≡ length (columns_of slots)
one_value_each [] stored = refl
one_value_each (slot ∷ slots) [] = by slot.dropped (one_value_each slots []) where
  by : (b : Bool) → length (row_by slots []) ≡ length (columns_of slots) → length (cond b (row_by slots []) (slot.added ∷ row_by slots [])) ≡ length (cond b (columns_of slots) (record { name = slot.name; kind = slot.kind } ∷ columns_of slots))
  by true more = more
  by false more = omega (arith, more)
one_value_each (slot ∷ slots) (value ∷ stored) = by slot.dropped (one_value_each slots stored) where
  by : (b : Bool) → length (row_by slots stored) ≡ length (columns_of slots) → length (cond b (row_by slots stored) (value ∷ row_by slots stored)) ≡ length (cond b (columns_of slots) (record { name = slot.name; kind = slot.kind } ∷ columns_of slots))
  by true more = more
  by false more = omega (arith, more)

with-row : (b : Bool) (v : Value) (xs ys : List Value) → xs ≡ ys → cond b xs (v ∷ xs) ≡ cond b ys (v ∷ ys)
with-row b v xs ys e = ap (λ (zs : List Value). cond b zs (v ∷ zs)) e

pub later_default : (slots : List Slot) (stored : List Value) (at : ℕ) (value : Value) → row_by (at_slot at (with_default value) slots) stored ≡ row_by slots stored
later_default [] stored at value = refl
later_default (slot ∷ slots) [] zero value = refl
later_default (slot ∷ slots) (v ∷ stored) zero value = refl
later_default (slot ∷ slots) [] (suc at) value = with-row slot.dropped slot.added _ _ (later_default slots [] at value)
later_default (slot ∷ slots) (v ∷ stored) (suc at) value = with-row slot.dropped v _ _ (later_default slots stored at value)

one-more : (b : Bool) (v w : Value) (xs ys : List Value) → ys ≡ xs ++ w ∷ [] → cond b ys (v ∷ ys) ≡ cond b xs (v ∷ xs) ++ w ∷ []
one-more true v w xs ys e = e
one-more false v w xs ys e = ap (λ (zs : List Value). v ∷ zs) e

pub added_later : (slots : List Slot) (slot : Slot) (stored : List Value) → length stored ≤ length slots → slot.dropped ≡ false → row_by (slots ++ slot ∷ []) stored ≡ row_by slots stored ++ slot.added ∷ []
added_later [] slot [] h live = rw live refl
added_later [] slot (v ∷ stored) h live = absurd (omega arith)
added_later (other ∷ slots) slot [] h live = one-more other.dropped other.added slot.added _ _ (added_later slots slot [] (omega arith) live)
added_later (other ∷ slots) slot (v ∷ stored) h live = one-more other.dropped v slot.added _ _ (added_later slots slot stored (omega arith) live)

one-out : (b : Bool) (v : Value) (n : ℕ) (xs ys : List Value) → ys ≡ left_out n xs → cond b ys (v ∷ ys) ≡ left_out (cond b n (suc n)) (cond b xs (v ∷ xs))
one-out true v n xs ys e = e
one-out false v n xs ys e = ap (λ (zs : List Value). v ∷ zs) e

pub dropped_one : (slots : List Slot) (stored : List Value) (at : ℕ) → at < length slots → dropped_at slots at ≡ false → row_by (at_slot at as_dropped slots) stored ≡ left_out (columns_before slots at) (row_by slots stored)
dropped_one [] stored at h live = absurd (omega arith)
dropped_one (slot ∷ slots) [] zero h live = rw live refl
dropped_one (slot ∷ slots) (v ∷ stored) zero h live = rw live refl
dropped_one (slot ∷ slots) [] (suc at) h live = one-out slot.dropped slot.added _ _ _ (dropped_one slots [] at (omega arith) live)
dropped_one (slot ∷ slots) (v ∷ stored) (suc at) h live = one-out slot.dropped v _ _ _ (dropped_one slots stored at (omega arith) live)
