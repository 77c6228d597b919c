-- Days (manual, 8.5, Date/Time Types): a day is told by how many days it lies after 1 January 1970.
use Rattle.std.specs.Prelude.{ℕ, zero, suc, ◌+◌, ◌-◌, ℤ, pos, neg_ℤ, ◌-ℤ◌, unsigned_abs, Bool, ◌&&◌, int_le, nat_le, if◌then◌else◌, List, ◌++◌, decimal, length, replicate, codes}
use Rattle.std.specs.Fmt.{signed_decimal}
use Rattle.jiff_core.specs.Calendar.{days_in_month, days_from_civil}

-- the day is one of the years 1 to 9999: from 0001-01-01 to 9999-12-31
abbrev pub is_day : ℤ → Bool
is_day day = int_le (neg_ℤ (pos 719_162)) day && int_le day (pos 2_932_896)

-- the calendar has this day, in a year from 1 to 9999
abbrev pub is_date : ℕ → ℕ → ℕ → Bool
is_date year month day =
    nat_le 1 year && nat_le year 9999 && nat_le 1 month && nat_le month 12
    && nat_le 1 day && nat_le day (days_in_month (pos year) month)

-- the number of the day
abbrev pub day_number : ℕ → ℕ → ℕ → ℤ
day_number year month day = days_from_civil (pos year) month day

-- the last of the numbers from 1 to `most` that passes, or 0
unfoldable pub last_of : ℕ → (ℕ → Bool) → ℕ
last_of zero passes = 0
last_of (suc most) passes = if passes (suc most) then suc most else last_of most passes

-- the year of a day is the last one that has begun by then, and so is the month of that year
unfoldable pub year_of : ℤ → ℕ
year_of day = last_of 9999 (λ year. int_le (day_number year 1 1) day)

unfoldable pub month_of : ℤ → ℕ
month_of day = last_of 12 (λ month. int_le (day_number (year_of day) month 1) day)

-- the place of the day in its month, from 1
unfoldable pub place_of : ℤ → ℕ
place_of day = unsigned_abs (day -ℤ day_number (year_of day) (month_of day) 1) + 1

-- the number in decimal, with zeros before it up to so many digits
abbrev pub padded_to : ℕ → ℕ → List ℕ
padded_to digits number = replicate (digits - length (decimal number)) 48 ++ decimal number

-- YYYY-MM-DD
abbrev pub date_text : ℕ → ℕ → ℕ → List ℕ
date_text year month day =
    padded_to 4 year ++ (codes "-" ++ (padded_to 2 month ++ (codes "-" ++ padded_to 2 day)))

-- a day as it is printed; one outside the years 1 to 9999, which no statement gives, by its number
unfoldable pub day_text : ℤ → List ℕ
day_text day = if is_day day then date_text (year_of day) (month_of day) (place_of day) else signed_decimal day
