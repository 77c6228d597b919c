-- The day of a date of the years 1 to 9999 is a day of these years.
use Rattle.std.proofs.Common.{◌≡◌, ℕ, ◌≤◌, ℤ, pos, ◌≤ℤ◌, true, refl, ap, arith}
use Rattle.std.proofs.lemmas.Bool.Decides.{nat_tests}
use Rattle.std.proofs.lemmas.Int.{ints, by_lt_z}
use Rattle.jiff_core.specs.Calendar.{days_in_month, day_count, days_of_years, days_of_months, IsCivilDate}
use Rattle.jiff_core.proofs.CalendarLemmas.{days_from_civil-day_count, day_count_bounds, day_count-lt_year, day_count-day_of_year}
use Rattle.jiff_core.proofs.SignedLemmas.{signed_arith}
use Rattle.al_values.specs.Days.{is_date, is_day, day_number}

first_count : day_count (pos 1) 1 1 ≡ 3_652_791
unfolding day_count days_of_years days_of_months
first_count = refl

-- 1 January of the year 1 is the first day of all
not_before : (y : ℤ) (m d : ℕ) → IsCivilDate y m d → pos 1 ≤ℤ y → 3_652_791 ≤ day_count y m d
not_before y m d real late =
    let first : IsCivilDate (pos 1) 1 1 =
    ((omega (arith, signed_arith), omega (arith, signed_arith)), (omega arith, omega arith), (omega arith, omega arith)) in
    by_lt_z (pos 1) y
    (λ later. omega (arith, first_count, day_count-lt_year (pos 1) 1 1 y m d first real.2.0 later))
    (λ not_later. let same : pos 1 ≡ y = omega (arith, signed_arith) in
    let place = day_count-day_of_year y m d real.2.0 in
    omega (arith, first_count, ap (λ year. day_count year 1 1) same))

real_date : (y m d : ℕ) → is_date y m d ≡ true → IsCivilDate (pos y) m d
real_date y m d date =
    let year : (1 ≤ y) × (y ≤ 9999) = grind (arith, nat_tests) in
    let month : (1 ≤ m) × (m ≤ 12) = grind (arith, nat_tests) in
    let day : (1 ≤ d) × (d ≤ days_in_month (pos y) m) = grind (arith, nat_tests) in
    ((omega (arith, signed_arith), omega (arith, signed_arith)), month, day)

from_one : (y m d : ℕ) → is_date y m d ≡ true → 1 ≤ y
from_one y m d date = grind (arith, nat_tests)

pub date_is_day : (y m d : ℕ) → is_date y m d ≡ true → is_day (day_number y m d) ≡ true
date_is_day y m d date =
    let real = real_date y m d date in
    let one = from_one y m d date in
    let from = not_before (pos y) m d real (omega (arith, signed_arith)) in
    let bounds = day_count_bounds (pos y) m d real in
    let is = days_from_civil-day_count (pos y) m d in
    grind (arith, ints)
