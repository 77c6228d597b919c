-- The order in which keys are kept, and when two are equal (manual, 9.2).
use Rattle.std.specs.Prelude.{ℕ, ℤ, pos, List, [], ◌∷◌, Bool, true, false, ◌&&◌, Option, Some, None}
use Rattle.std.specs.List.{list_any}
use Rattle.std.specs.declared.cmp.Ordering.{Ordering}
use Rattle.std.specs.declared.cmp.Ordering.TheVariants.{Equal}
use Rattle.std.specs.Ordering.{nat_cmp, int_cmp, ordering_then}
use Rattle.std.specs.Cmp.Lexicographic.{slice_cmp}
use Rattle.al_values.specs.declared.scalar.Value.{Value}
use Rattle.al_values.specs.declared.scalar.Value.TheVariants as values
use Rattle.al_values.specs.Order.{compared}

-- whether two values compare as equal, which a null never does
abbrev pub is_equal : Option Ordering → Bool
is_equal (Some Equal) = true
is_equal other = false

-- two keys are equal where each two values are
abbrev pub keys_equal : List Value → List Value → Bool
keys_equal [] [] = true
keys_equal (a ∷ xs) (b ∷ ys) = is_equal (compared a b) && keys_equal xs ys
keys_equal xs ys = false

abbrev pub is_null : Value → Bool
is_null values.Null = true
is_null value = false

-- a key has a null, so that it is equal to none
abbrev pub has_null : List Value → Bool
has_null key = list_any is_null key

-- ---- an order of all keys: by the sorts of their values, then by number or text

abbrev pub sort_of : Value → ℕ
sort_of values.Null = 0
sort_of (values.Bool truth) = 1
sort_of (values.Int number) = 2
sort_of (values.Text text) = 3
sort_of (values.Day day) = 4

abbrev pub number_of : Value → ℤ
number_of (values.Bool true) = pos 1
number_of (values.Int number) = number
number_of (values.Day day) = day
number_of value = pos 0

abbrev pub text_of : Value → List ℕ
text_of (values.Text text) = text
text_of value = []

abbrev pub value_order : Value → Value → Ordering
value_order a b =
    ordering_then (nat_cmp (sort_of a) (sort_of b)) (ordering_then (int_cmp (number_of a) (number_of b)) (slice_cmp nat_cmp (text_of a) (text_of b)))

abbrev pub key_order : List Value → List Value → Ordering
key_order xs ys = slice_cmp value_order xs ys
