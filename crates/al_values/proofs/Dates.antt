-- Days from the numbers of their year, month and day.
use Rattle.std.proofs.Common.{◌≡◌, ℕ, List, length, get_or, take, drop, pos, ◌<◌, ◌≤◌, ◌^◌, ◌-◌, Bool, true, false, refl, arith}
use Rattle.std.specs.Prelude.{Option, Some, option_map}
use Rattle.std.proofs.lemmas.Bool.Decides.{nat_tests}
use Rattle.jiff_core.specs.Calendar.{days_in_month}
use Rattle.jiff_core.proofs.CalendarLemmas.{days_in_month_bounds}
use Rattle.al_values.specs.Days.{is_date, day_number}
use Rattle.al_values.specs.Reading.{dated, date_read, unsigned_of}
use Rattle.al_values.proofs.Digits.{capped}

-- what is_date says of its numbers
pub is_date_small : (year month day : ℕ) → is_date year month day ≡ true → (year ≤ 9999) × (month ≤ 12) × (day ≤ 31)
is_date_small year month day date =
    let short = (days_in_month_bounds (pos year) month).0 in
    let small : (year ≤ 9999) × (month ≤ 12) × (day ≤ days_in_month (pos year) month) = grind (arith, nat_tests) in
    (small.0, small.1, omega arith)

-- a number that is below the cap is itself, and one that isn't is no year, month or day
uncapped : (number most : ℕ) → capped number ≤ most → most < 2 ^ 64 - 1 → capped number ≡ number
uncapped number most within below = omega arith

-- the test doesn't see the cap
same_date : (year month day : ℕ) (truth : Bool) → is_date (capped year) (capped month) (capped day) ≡ truth
    → (is_date year month day ≡ truth) × (truth ≡ true → day_number (capped year) (capped month) (capped day) ≡ day_number year month day)
same_date year month day true date =
    let small = is_date_small (capped year) (capped month) (capped day) date in
    let y = uncapped year 9999 small.0 (omega arith) in
    let m = uncapped month 12 small.1 (omega arith) in
    let d = uncapped day 31 small.2 (omega arith) in
    (rw (← y, ← m, ← d) date, λ _. cc)
same_date year month day false date = (if_date (is_date year month day) refl, λ h. absurd cc)
  where
    if_date : (b : Bool) → is_date year month day ≡ b → is_date year month day ≡ false
    if_date false is = is
    if_date true is =
        let small = is_date_small year month day is in
        let y : capped year ≡ year = omega arith in
        let m : capped month ≡ month = omega arith in
        let d : capped day ≡ day = omega arith in
        let seen : is_date (capped year) (capped month) (capped day) ≡ true = rw (y, m, d) is in
        absurd cc

under_cap : (a b c : ℕ) (truth : Bool) → is_date (capped a) (capped b) (capped c) ≡ truth
    → dated (Some a) (Some b) (Some c) ≡ dated (Some (capped a)) (Some (capped b)) (Some (capped c))
under_cap a b c true date = let same = same_date a b c true date in rw (same.0, date, same.1 refl) refl
under_cap a b c false date = let same = same_date a b c false date in rw (same.0, date) refl

pub dated_capped : (a b c : Option ℕ) (year month day : ℕ)
    → Some year ≡ option_map capped a → Some month ≡ option_map capped b → Some day ≡ option_map capped c
    → dated a b c ≡ dated (Some year) (Some month) (Some day)
dated_capped (Some a) (Some b) (Some c) year month day y m d =
    let y' : year ≡ capped a = cc in
    let m' : month ≡ capped b = cc in
    let d' : day ≡ capped c = cc in
    rw (y', m', d') (under_cap a b c (is_date (capped a) (capped b) (capped c)) refl)
dated_capped _ _ _ year month day y m d = absurd cc

pub date_form : (text : List ℕ) → length text ≡ 10 → get_or text 4 0 ≡ 45 → get_or text 7 0 ≡ 45
    → date_read text ≡ dated (unsigned_of (take 4 text)) (unsigned_of (take 2 (drop 5 text))) (unsigned_of (take 2 (drop 8 text)))
unfolding date_read
date_form text ten dash second_dash = rw (ten, dash, second_dash) refl
