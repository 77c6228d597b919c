-- The year, the month and the place of a day, found again from its number.
use Rattle.std.proofs.Common.{◌≡◌, ℕ, zero, suc, ◌<◌, ◌≤◌, ℤ, pos, ◌<ℤ◌, ◌≤ℤ◌, Bool, true, false, int_le, unsigned_abs, refl, sym, ap, arith, inl, inr}
use Rattle.std.proofs.Common.{subst}
use Rattle.std.specs.Prelude.{Result, Ok, Err, Some, IfOk}
use Rattle.std.specs.Result.{result_ok}
use Rattle.std.proofs.lemmas.Bool.{cases_order}
use Rattle.std.proofs.lemmas.Int.{ints, by_lt_z}
use Rattle.jiff_core.proofs.SignedLemmas.{signed_arith}
use Rattle.jiff_core.specs.declared.civil.date.Date.{Date}
use Rattle.jiff_core.specs.Date.{epoch_day}
use Rattle.jiff_core.specs.Calendar.{day_count, days_of_years, days_of_months, IsCivilDate}
use Rattle.jiff_core.proofs.DateLemmas.{civil, epoch_day_range, days_from_civil-day}
use Rattle.jiff_core.proofs.CalendarLemmas.{days_from_civil-day_count, day_count-day_of_year, day_count-lt_year, day_count-lt_month, day_count-day}
use Rattle.al_values.specs.Days.{is_day, day_number, year_of, month_of, place_of, last_of}

last_is : (most found : ℕ) (passes : ℕ → Bool) → 1 ≤ found → found ≤ most → passes found ≡ true
    → ((later : ℕ) → found < later → later ≤ most → passes later ≡ false) → found ≡ last_of most passes
unfolding last_of
last_is zero found passes from within here none = absurd (omega arith)
last_is (suc most) found passes from within here none =
    elim (cases_order found (suc most)) [
      | inl same ↦ (let last : passes (suc most) ≡ true = rw (← same) here in rw last same)
      | inr (inl below) ↦ rw (none (suc most) below (omega arith)) (last_is most found passes from (omega arith) here (λ later after up_to. none later after (omega arith)))
      | inr (inr above) ↦ absurd (omega arith)
    ]

-- the order of day numbers is that of the counts of days
number_le : (y m d y₂ m₂ d₂ : ℕ) → day_count (pos y) m d ≤ day_count (pos y₂) m₂ d₂
    → int_le (day_number y m d) (day_number y₂ m₂ d₂) ≡ true
number_le y m d y₂ m₂ d₂ h =
    let a = days_from_civil-day_count (pos y) m d in
    let b = days_from_civil-day_count (pos y₂) m₂ d₂ in
    grind (arith, ints)

number_gt : (y m d y₂ m₂ d₂ : ℕ) → day_count (pos y) m d < day_count (pos y₂) m₂ d₂
    → int_le (day_number y₂ m₂ d₂) (day_number y m d) ≡ false
number_gt y m d y₂ m₂ d₂ h =
    let a = days_from_civil-day_count (pos y) m d in
    let b = days_from_civil-day_count (pos y₂) m₂ d₂ in
    grind (arith, ints)

pub year_is : (y m d : ℕ) → 1 ≤ y → IsCivilDate (pos y) m d → y ≡ year_of (day_number y m d)
unfolding year_of
year_is y m d from real =
    let begun : day_count (pos y) 1 1 ≤ day_count (pos y) m d = omega (arith, day_count-day_of_year (pos y) m d real.2.0) in
    last_is 9999 y _ from (omega (arith, signed_arith, real.0)) (number_le y 1 1 y m d begun)
    (λ later after up_to. number_gt y m d later 1 1 (day_count-lt_year (pos y) m d (pos later) 1 1 real (omega arith) (omega (arith, signed_arith))))

pub month_is : (y m d : ℕ) → 1 ≤ y → IsCivilDate (pos y) m d → m ≡ month_of (day_number y m d)
unfolding month_of
month_is y m d from real =
    rw (← year_is y m d from real)
    (last_is 12 m _ real.1.0 real.1.1 (number_le y m 1 y m d (omega (arith, day_count-day (pos y) m d 1 real.2.0 (omega arith))))
    (λ later after up_to. number_gt y m d y later 1 (day_count-lt_month (pos y) m d later 1 real (omega arith) after)))

pub place_is : (y m d : ℕ) → 1 ≤ y → IsCivilDate (pos y) m d → d ≡ place_of (day_number y m d)
unfolding place_of
place_is y m d from real =
    let same = days_from_civil-day (pos y) m d 1 real.2.0 (omega arith) in
    rw (← year_is y m d from real, ← month_is y m d from real) (grind (arith, ints))

pub first_count : day_count (pos 1) 1 1 ≡ 3_652_791
unfolding day_count days_of_years days_of_months
first_count = refl

pub before_year_one : (d : Date) → d.year <ℤ pos 1 → is_day (epoch_day d) ≡ false
before_year_one d early =
    let count = day_count-lt_year d.year d.month d.day (pos 1) 1 1 (civil d) (omega arith) early in
    let is = days_from_civil-day_count d.year d.month d.day in
    grind (arith, ints, first_count)

-- 1 January of the year 1 is the first day of all
pub not_before : (y : ℤ) (m d : ℕ) → IsCivilDate y m d → pos 1 ≤ℤ y → 3_652_791 ≤ day_count y m d
not_before y m d real late =
    let first : IsCivilDate (pos 1) 1 1 =
    ((omega (arith, signed_arith), omega (arith, signed_arith)), (omega arith, omega arith), (omega arith, omega arith)) in
    by_lt_z (pos 1) y
    (λ later. omega (arith, first_count, day_count-lt_year (pos 1) 1 1 y m d first real.2.0 later))
    (λ not_later. let same : pos 1 ≡ y = omega (arith, signed_arith) in
    let place = day_count-day_of_year y m d real.2.0 in
    omega (arith, first_count, ap (λ year. day_count year 1 1) same))

pub within_years : (d : Date) → pos 1 ≤ℤ d.year → is_day (epoch_day d) ≡ true
within_years d late =
    let is = days_from_civil-day_count d.year d.month d.day in
    let from = not_before d.year d.month d.day (civil d) late in
    let range = epoch_day_range d in
    grind (arith, ints)

pub parts_of : (d : Date) (number : ℤ) → epoch_day d ≡ number → pos 1 ≤ℤ d.year
    → (unsigned_abs d.year ≡ year_of number) × (d.month ≡ month_of number) × (d.day ≡ place_of number)
parts_of d number is late =
    let same : pos (unsigned_abs d.year) ≡ d.year = grind (arith, ints) in
    let real : IsCivilDate (pos (unsigned_abs d.year)) d.month d.day = rw same (civil d) in
    let from : 1 ≤ unsigned_abs d.year = grind (arith, ints) in
    let number_is : number ≡ day_number (unsigned_abs d.year) d.month d.day = rw same (sym is) in
    rw number_is (year_is _ _ _ from real, month_is _ _ _ from real, place_is _ _ _ from real)

-- what is known of the value of a result is known of it as an option
pub told : {E : Type 0} (result : Result Date E) (d : Date) (P : Date → Type 0) → Some d ≡ result_ok result → IfOk result P → P d
told (Ok value) d P is holds = let same : value ≡ d = cc in subst P same holds
told (Err cause) d P is holds = absurd cc
