-- Each day of the years 1 to 9999 has a date, and is printed by it.
use Rattle.std.proofs.Common.{◌≡◌, ℕ, zero, suc, ◌+◌, ◌<◌, ◌≤◌, ℤ, pos, ◌+ℤ◌, Bool, true, false, cond, int_le, unsigned_abs, refl, ap, arith, inl, inr}
use Rattle.std.proofs.lemmas.Bool.{cases_order}
use Rattle.std.proofs.lemmas.Bool.Decides.{nat_tests}
use Rattle.std.proofs.lemmas.Int.{ints}
use Rattle.jiff_core.specs.Calendar.{days_in_month, days_in_year, day_count, IsCivilDate}
use Rattle.jiff_core.proofs.CalendarLemmas.{days_from_civil-day_count, day_count_bounds, day_count-next_year, day_count-next_month, day_count-end, day_count-last_of_year, day_count-day}
use Rattle.jiff_core.proofs.SignedLemmas.{signed_arith}
use Rattle.al_values.specs.declared.scalar.Value.TheVariants as values
use Rattle.al_values.specs.Days.{is_date, is_day, day_number, day_text, date_text, year_of, month_of, place_of, last_of}
use Rattle.al_values.specs.Printed.{printed}
use Rattle.al_values.proofs.DayNumbers.{not_before, year_is, month_is, place_is, first_count}

real_date : (y m d : ℕ) → is_date y m d ≡ true → IsCivilDate (pos y) m d
real_date y m d date =
    let year : (1 ≤ y) × (y ≤ 9999) = grind (arith, nat_tests) in
    let month : (1 ≤ m) × (m ≤ 12) = grind (arith, nat_tests) in
    let day : (1 ≤ d) × (d ≤ days_in_month (pos y) m) = grind (arith, nat_tests) in
    ((omega (arith, signed_arith), omega (arith, signed_arith)), month, day)

is_date_from : (y m d : ℕ) → (1 ≤ y) × (y ≤ 9999) → (1 ≤ m) × (m ≤ 12) → (1 ≤ d) × (d ≤ days_in_month (pos y) m)
    → is_date y m d ≡ true
is_date_from y m d year month day = grind (arith, nat_tests)

from_one : (y m d : ℕ) → is_date y m d ≡ true → 1 ≤ y
from_one y m d date = grind (arith, nat_tests)

date_is_day : (y m d : ℕ) → is_date y m d ≡ true → is_day (day_number y m d) ≡ true
date_is_day y m d date =
    let real = real_date y m d date in
    let one = from_one y m d date in
    let from = not_before (pos y) m d real (omega (arith, signed_arith)) in
    let bounds = day_count_bounds (pos y) m d real in
    let is = days_from_civil-day_count (pos y) m d in
    grind (arith, ints)

pub printed_date : (y m d : ℕ) → is_date y m d ≡ true → printed (values.Day (day_number y m d)) ≡ date_text y m d
unfolding day_text
printed_date y m d date =
    let real = real_date y m d date in
    let from = from_one y m d date in
    rw (date_is_day y m d date, ← year_is y m d from real, ← month_is y m d from real, ← place_is y m d from real) refl

-- ---- and each number of such a day is that of a date

first_passes : (passes : ℕ → Bool) (most : ℕ) → passes 1 ≡ true → passes (suc most) ≡ false → 1 ≤ most
first_passes passes zero first none = absurd cc
first_passes passes (suc most) first none = omega arith

-- what the last that passes is
record IsLast (most : ℕ) (passes : ℕ → Bool) (found : ℕ) : Type 0 where
  from : 1 ≤ found
  within : found ≤ most
  here : passes found ≡ true
  none : (later : ℕ) → found < later → later ≤ most → passes later ≡ false

last_by : (most : ℕ) (passes : ℕ → Bool) (b : Bool) → passes (suc most) ≡ b → passes 1 ≡ true
    → (1 ≤ most → IsLast most passes (last_of most passes)) → IsLast (suc most) passes (cond b (suc most) (last_of most passes))
last_by most passes true here first before =
    record { from = omega arith; within = omega arith; here = here; none = λ later after up_to. absurd (omega arith) }
last_by most passes false none first before =
    let last = before (first_passes passes most first none) in
    record {
      from = last.from;
      within = omega (arith, last.within);
      here = last.here;
      none = λ later after up_to. elim (cases_order later (suc most)) [
        | inl same ↦ rw same none
        | inr (inl below) ↦ last.none later after (omega arith)
        | inr (inr above) ↦ absurd (omega arith)
      ];
    }

last_found : (most : ℕ) (passes : ℕ → Bool) → 1 ≤ most → passes 1 ≡ true → IsLast most passes (last_of most passes)
unfolding last_of
last_found zero passes some first = absurd (omega arith)
last_found (suc most) passes some first =
    last_by most passes (passes (suc most)) refl first (λ more. last_found most passes more first)

-- how many days lie before the day of this number
counted : ℤ → ℕ
counted number = unsigned_abs (number +ℤ pos 4_371_953)

-- a day of a date has come by another day where no more days lie before it
begun_by : (y m : ℕ) (number : ℤ) → is_day number ≡ true → int_le (day_number y m 1) number ≡ true → day_count (pos y) m 1 ≤ counted number
unfolding counted
begun_by y m number inside begun = let is = days_from_civil-day_count (pos y) m 1 in grind (arith, ints)

not_begun : (y m : ℕ) (number : ℤ) → is_day number ≡ true → int_le (day_number y m 1) number ≡ false → counted number < day_count (pos y) m 1
unfolding counted
not_begun y m number inside begun = let is = days_from_civil-day_count (pos y) m 1 in grind (arith, ints)

first_begun : (number : ℤ) → is_day number ≡ true → int_le (day_number 1 1 1) number ≡ true
first_begun number inside = let is = days_from_civil-day_count (pos 1) 1 1 in grind (arith, ints, first_count)

counted_most : (number : ℤ) → is_day number ≡ true → counted number < 7_304_850
unfolding counted
counted_most number inside = grind (arith, ints)

year_last : (number : ℤ) → is_day number ≡ true → IsLast 9999 (λ year. int_le (day_number year 1 1) number) (year_of number)
unfolding year_of
year_last number inside = last_found 9999 _ (omega arith) (first_begun number inside)

year_ends : (number : ℤ) → is_day number ≡ true
    → counted number < day_count (pos (year_of number)) 1 1 + days_in_year (pos (year_of number))
year_ends number inside =
    let y = year_of number in
    let last = year_last number inside in
    let next = day_count-next_year (pos y) (pos (y + 1)) (omega (arith, signed_arith)) (omega (arith, signed_arith)) in
    elim (cases_order (y + 1) 10000) [
      | inl end ↦ omega (arith, day_count-end, ap (λ year. day_count (pos year) 1 1) end, counted_most number inside)
      | inr (inl within) ↦ (let none = not_begun (y + 1) 1 number inside (last.none (y + 1) (omega arith) (omega arith)) in omega arith)
      | inr (inr past) ↦ absurd (omega (arith, last.within))
    ]

month_last : (number : ℤ) → is_day number ≡ true → IsLast 12 (λ month. int_le (day_number (year_of number) month 1) number) (month_of number)
unfolding month_of
month_last number inside = last_found 12 _ (omega arith) ((year_last number inside).here)

month_ends : (number : ℤ) → is_day number ≡ true
    → counted number < day_count (pos (year_of number)) (month_of number) 1 + days_in_month (pos (year_of number)) (month_of number)
month_ends number inside =
    let y = year_of number in
    let m = month_of number in
    let last = month_last number inside in
    let next = day_count-next_month (pos y) m last.from in
    elim (cases_order (m + 1) 13) [
      | inl end ↦ (let december : month_of number ≡ 12 = omega arith in
          rw december (omega (arith, year_ends number inside, day_count-last_of_year (pos y), day_count-day (pos y) 12 31 1 (omega arith) (omega arith))))
      | inr (inl within) ↦ (let none = not_begun y (m + 1) number inside (last.none (m + 1) (omega arith) (omega arith)) in omega arith)
      | inr (inr past) ↦ absurd (omega (arith, last.within))
    ]

place_counts : (number : ℤ) → is_day number ≡ true
    → place_of number + day_count (pos (year_of number)) (month_of number) 1 ≡ counted number + 1
unfolding place_of counted
place_counts number inside =
    let begun = (month_last number inside).here in
    let is = days_from_civil-day_count (pos (year_of number)) (month_of number) 1 in
    grind (arith, ints)

number_counts : (y m d : ℕ) (number : ℤ) → is_day number ≡ true → day_count (pos y) m d ≡ counted number → day_number y m d ≡ number
unfolding counted
number_counts y m d number inside same = let is = days_from_civil-day_count (pos y) m d in grind (arith, ints)

pub date_of_day : (number : ℤ) → is_day number ≡ true
    → (is_date (year_of number) (month_of number) (place_of number) ≡ true)
    × (day_number (year_of number) (month_of number) (place_of number) ≡ number)
date_of_day number inside =
    let y = year_of number in
    let m = month_of number in
    let d = place_of number in
    let year = year_last number inside in
    let month = month_last number inside in
    let begun = begun_by y m number inside month.here in
    let ends = month_ends number inside in
    let place = place_counts number inside in
    let year_in : (1 ≤ y) × (y ≤ 9999) = (year.from, year.within) in
    let month_in : (1 ≤ m) × (m ≤ 12) = (month.from, month.within) in
    let day_in : (1 ≤ d) × (d ≤ days_in_month (pos y) m) = (omega arith, omega arith) in
    let count = day_count-day (pos y) m d 1 day_in.0 (omega arith) in
    (is_date_from y m d year_in month_in day_in, number_counts y m d number inside (omega arith))

pub printed_day : (number : ℤ) → is_day number ≡ true
    → printed (values.Day number) ≡ date_text (year_of number) (month_of number) (place_of number)
unfolding day_text
printed_day number inside = rw inside refl
