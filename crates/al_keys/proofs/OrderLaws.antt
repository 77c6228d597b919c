-- The order of keys is total, and keys that it ties are equal.
use Rattle.std.proofs.Common.{◌≡◌, ℕ, ℤ, pos, ◌+◌, ◌<◌, ◌≤◌, Bool, true, false, not, ◌&&◌, ◌||◌, List, [], ◌∷◌, length, drop, refl, sym, ap, ◌∙◌, subst, arith, get_or, zero, suc, add-one, Option, Some, None}
use Rattle.std.specs.declared.cmp.Ordering.{Ordering}
use Rattle.std.specs.declared.cmp.Ordering.TheVariants.{Less, Equal, Greater}
use Rattle.std.specs.Ordering.{nat_cmp, int_cmp, bool_cmp, ordering_then, is_eq}
use Rattle.std.specs.Cmp.{IsTotalOrder, nat_cmp_total, int_cmp_total, bool_cmp_total, then_total, on_total}
use Rattle.std.specs.Cmp.Lexicographic.{slice_cmp, lists_total, nat_list_cmp_total}
use Rattle.std.proofs.lemmas.Cmp.{tied_itself}
use Rattle.std.specs.FinMap.{IsAntisymmetric, nat_cmp-IsAntisymmetric, int_cmp-IsAntisymmetric, slice_cmp-IsAntisymmetric}
use Rattle.std.proofs.lemmas.Bool.{and_parts, or_parts}
use Rattle.al_values.specs.declared.scalar.Value.{Value}
use Rattle.al_values.specs.declared.scalar.Value.TheVariants as values
use Rattle.al_values.specs.Order.{compared}
use Rattle.al_keys.specs.Order.{is_equal, keys_equal, is_null, has_null, sort_of, number_of, text_of, value_order, key_order}

pub value_total : IsTotalOrder value_order
value_total = then_total (on_total sort_of nat_cmp_total) (then_total (on_total number_of int_cmp_total) (on_total text_of nat_list_cmp_total))

pub key_total : IsTotalOrder key_order
key_total = lists_total value_total

-- ---- values that are tied are equal

then-left : (r s : Ordering) → ordering_then r s ≡ Equal → r ≡ Equal
then-left Less s e = e
then-left Equal s e = refl
then-left Greater s e = e

pub value-same : IsAntisymmetric value_order
value-same values.Null values.Null e = refl
value-same (values.Bool true) (values.Bool true) e = refl
value-same (values.Bool true) (values.Bool false) e = absurd (cc)
value-same (values.Bool false) (values.Bool true) e = absurd (cc)
value-same (values.Bool false) (values.Bool false) e = refl
value-same (values.Int a) (values.Int b) e = ap values.Int (int_cmp-IsAntisymmetric a b (then-left (int_cmp a b) Equal e))
value-same (values.Text a) (values.Text b) e = ap values.Text (slice_cmp-IsAntisymmetric nat_cmp-IsAntisymmetric a b e)
value-same (values.Day a) (values.Day b) e = ap values.Day (int_cmp-IsAntisymmetric a b (then-left (int_cmp a b) Equal e))
value-same a b e = absurd (cc)

pub key-same : IsAntisymmetric key_order
key-same = slice_cmp-IsAntisymmetric value-same

-- ---- equal keys

is_equal-some : (o : Option Ordering) → is_equal o ≡ true → o ≡ Some Equal
is_equal-some None e = absurd (cc)
is_equal-some (Some Less) e = absurd (cc)
is_equal-some (Some Equal) e = refl
is_equal-some (Some Greater) e = absurd (cc)

some-same : (a b : Ordering) → Some a ≡ Some b → a ≡ b
some-same a b e = cc

bool-same : (a b : Bool) → bool_cmp a b ≡ Equal → a ≡ b
bool-same true true e = refl
bool-same true false e = absurd (cc)
bool-same false true e = absurd (cc)
bool-same false false e = refl

equal-value : (a b : Value) → compared a b ≡ Some Equal → (a ≡ b) × (is_null a ≡ false)
equal-value (values.Bool a) (values.Bool b) e = (ap values.Bool (bool-same a b (some-same _ _ e)), refl)
equal-value (values.Int a) (values.Int b) e = (ap values.Int (int_cmp-IsAntisymmetric a b (some-same _ _ e)), refl)
equal-value (values.Text a) (values.Text b) e = (ap values.Text (slice_cmp-IsAntisymmetric nat_cmp-IsAntisymmetric a b (some-same _ _ e)), refl)
equal-value (values.Day a) (values.Day b) e = (ap values.Day (int_cmp-IsAntisymmetric a b (some-same _ _ e)), refl)
equal-value a b e = absurd (cc)

pub equal-same : (xs ys : List Value) → keys_equal xs ys ≡ true → (xs ≡ ys) × (has_null xs ≡ false)
equal-same [] [] e = (refl, refl)
equal-same [] (b ∷ ys) e = absurd (cc)
equal-same (a ∷ xs) [] e = absurd (cc)
equal-same (a ∷ xs) (b ∷ ys) e =
    let parts = and_parts (is_equal (compared a b)) (keys_equal xs ys) e in
    let here = equal-value a b (is_equal-some (compared a b) parts.0) in
    let rest = equal-same xs ys parts.1 in
    (joined a b xs ys here.0 rest.0, rw here.1 rest.1) where
      joined : (a b : Value) (xs ys : List Value) → a ≡ b → xs ≡ ys → a ∷ xs ≡ b ∷ ys
      joined a b xs ys e f = cc

value-itself : (a : Value) → is_null a ≡ false → is_equal (compared a a) ≡ true
value-itself values.Null e = absurd (cc)
value-itself (values.Bool true) e = refl
value-itself (values.Bool false) e = refl
value-itself (values.Int a) e = ap (λ r. is_equal (Some r)) (tied_itself int_cmp_total a)
value-itself (values.Text a) e = ap (λ r. is_equal (Some r)) (tied_itself nat_list_cmp_total a)
value-itself (values.Day a) e = ap (λ r. is_equal (Some r)) (tied_itself int_cmp_total a)

pub equal-itself : (xs : List Value) → has_null xs ≡ false → keys_equal xs xs ≡ true
equal-itself [] e = refl
equal-itself (a ∷ xs) e =
    let parts = or_parts (is_null a) (has_null xs) e in rw (value-itself a parts.0) (equal-itself xs parts.1)

-- keys that the order tells apart aren't equal
pub apart-differ : (xs ys : List Value) → (key_order xs ys ≡ Equal → ⊥) → keys_equal xs ys ≡ false
apart-differ xs ys never = by_test (keys_equal xs ys) refl where
  by_test : (b : Bool) → keys_equal xs ys ≡ b → b ≡ false
  by_test false e = refl
  by_test true e = absurd (never (subst (λ (zs : List Value). key_order xs zs ≡ Equal) (equal-same xs ys e).0 (tied_itself key_total xs)))

-- ---- keys compared value by value

pub order-drop : (xs ys : List Value) (k : ℕ) (d : Value) → k < length xs → k < length ys
    → key_order (drop k xs) (drop k ys) ≡ ordering_then (value_order (get_or xs k d) (get_or ys k d)) (key_order (drop (k + 1) xs) (drop (k + 1) ys))
order-drop [] ys k d h g = absurd (omega arith)
order-drop (x ∷ xs) [] k d h g = absurd (omega arith)
order-drop (x ∷ xs) (y ∷ ys) zero d h g = refl
order-drop (x ∷ xs) (y ∷ ys) (suc k) d h g = rw add-one (rw add-one at (order-drop xs ys k d (omega arith) (omega arith)))

-- one of the two ends first
pub end-less : (xs ys : List Value) (k : ℕ) → k ≡ length xs → k < length ys → key_order (drop k xs) (drop k ys) ≡ Less
end-less [] [] k e h = absurd (omega arith)
end-less [] (y ∷ ys) zero e h = refl
end-less [] (y ∷ ys) (suc k) e h = absurd (omega arith)
end-less (x ∷ xs) ys zero e h = absurd (omega arith)
end-less (x ∷ xs) [] (suc k) e h = absurd (omega arith)
end-less (x ∷ xs) (y ∷ ys) (suc k) e h = end-less xs ys k (omega arith) (omega arith)

pub end-greater : (xs ys : List Value) (k : ℕ) → k ≡ length ys → k < length xs → key_order (drop k xs) (drop k ys) ≡ Greater
end-greater [] ys k e h = absurd (omega arith)
end-greater (x ∷ xs) [] zero e h = refl
end-greater (x ∷ xs) [] (suc k) e h = absurd (omega arith)
end-greater (x ∷ xs) (y ∷ ys) zero e h = absurd (omega arith)
end-greater (x ∷ xs) (y ∷ ys) (suc k) e h = end-greater xs ys k (omega arith) (omega arith)

pub end-equal : (xs ys : List Value) (k : ℕ) → k ≡ length xs → k ≡ length ys → key_order (drop k xs) (drop k ys) ≡ Equal
end-equal [] [] zero e h = refl
end-equal [] [] (suc k) e h = absurd (omega arith)
end-equal [] (y ∷ ys) k e h = absurd (omega arith)
end-equal (x ∷ xs) [] k e h = absurd (omega arith)
end-equal (x ∷ xs) (y ∷ ys) zero e h = absurd (omega arith)
end-equal (x ∷ xs) (y ∷ ys) (suc k) e h = end-equal xs ys k (omega arith) (omega arith)

pub then-equal : (r s : Ordering) → not (is_eq r) ≡ false → ordering_then r s ≡ s
then-equal Less s e = absurd (cc)
then-equal Equal s e = refl
then-equal Greater s e = absurd (cc)

pub then-other : (r s : Ordering) → not (is_eq r) ≡ true → ordering_then r s ≡ r
then-other Less s e = refl
then-other Equal s e = absurd (cc)
then-other Greater s e = refl
