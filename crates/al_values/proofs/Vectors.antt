-- Worked values of the definitions, right ones and refused ones.
use Rattle.std.proofs.Common.{◌≡◌, ◌∙◌, sym, ap, pos, negsuc, neg_ℤ, true, false, refl, codes, [], ◌∷◌}
use Rattle.std.specs.Prelude.{Ok, Err, Some, None}
use Rattle.std.specs.declared.cmp.Ordering.TheVariants.{Less, Equal, Greater}
use Rattle.std.specs.Fmt.{digits}
use Rattle.jiff_core.specs.Calendar.{days_from_civil, day_count, days_of_years, days_of_months}
use Rattle.al_values.specs.declared.scalar.Value.TheVariants as values
use Rattle.al_values.specs.declared.kinds.Kind.TheVariants as kinds
use Rattle.al_values.specs.declared.kinds.CastFault.TheVariants as faults
use Rattle.al_values.specs.Days.{day_number, day_text}
use Rattle.al_values.specs.Characters.{bytes_of}
use Rattle.al_values.specs.Reading.{read_as, skip_blanks, trimmed, digits_value, unsigned_of, boolean_read, date_read}
use Rattle.al_values.specs.Convert.{assigned, casted}
use Rattle.al_values.specs.Order.{compared}
use Rattle.al_values.specs.Printed.{printed}
use Rattle.al_values.proofs.DayLaws.{printed_date}

-- 29 February is there in 2000 and 2024, and neither in 1900 nor in 2023
leap_days : (read_as (codes "1900-02-29") kinds.Date ≡ Err faults.BadDate)
    × (read_as (codes "2000-02-29") kinds.Date ≡ Ok (values.Day (pos 11_016)))
    × (read_as (codes "2023-02-29") kinds.Date ≡ Err faults.BadDate)
    × (read_as (codes "2024-02-29") kinds.Date ≡ Ok (values.Day (pos 19_782)))
unfolding date_read unsigned_of digits_value days_from_civil day_count days_of_years days_of_months
leap_days = (refl, refl, refl, refl)

-- the first day and the last, and no day past them
end_days : (read_as (codes "0001-01-01") kinds.Date ≡ Ok (values.Day (neg_ℤ (pos 719_162))))
    × (read_as (codes "9999-12-31") kinds.Date ≡ Ok (values.Day (pos 2_932_896)))
    × (read_as (codes "0000-12-31") kinds.Date ≡ Err faults.BadDate)
    × (read_as (codes "10000-01-01") kinds.Date ≡ Err faults.BadDate)
    × (read_as (codes " 2024-02-28") kinds.Date ≡ Err faults.BadDate)
    × (read_as (codes "2024-13-01") kinds.Date ≡ Err faults.BadDate)
    × (read_as (codes "2024-1-011") kinds.Date ≡ Err faults.BadDate)
unfolding date_read unsigned_of digits_value days_from_civil day_count days_of_years days_of_months
end_days = (refl, refl, refl, refl, refl, refl, refl)

-- the same days printed, and two outside, by their numbers
number_of_leap_day : day_number 2024 2 29 ≡ pos 19_782
unfolding days_from_civil day_count days_of_years days_of_months
number_of_leap_day = refl

number_of_first_day : day_number 1 1 1 ≡ neg_ℤ (pos 719_162)
unfolding days_from_civil day_count days_of_years days_of_months
number_of_first_day = refl

printed_days : (printed (values.Day (pos 19_782)) ≡ codes "2024-02-29")
    × (printed (values.Day (neg_ℤ (pos 719_162))) ≡ codes "0001-01-01")
    × (printed (values.Day (pos 2_932_897)) ≡ codes "2932897")
    × (printed (values.Day (neg_ℤ (pos 719_163))) ≡ codes "-719163")
unfolding day_text digits
printed_days = (
  sym (ap (λ day. printed (values.Day day)) number_of_leap_day) ∙ printed_date 2024 2 29 refl ∙ refl,
  sym (ap (λ day. printed (values.Day day)) number_of_first_day) ∙ printed_date 1 1 1 refl ∙ refl,
  refl,
  refl,
)

-- a number is read whole before the kind's range is asked for
edges : (read_as (codes "9223372036854775807") kinds.Bigint ≡ Ok (values.Int (pos 9_223_372_036_854_775_807)))
    × (read_as (codes "9223372036854775808") kinds.Bigint ≡ Err faults.OutOfRange)
    × (read_as (codes "-9223372036854775808") kinds.Bigint ≡ Ok (values.Int (neg_ℤ (pos 9_223_372_036_854_775_808))))
    × (read_as (codes "18446744073709551617") kinds.Smallint ≡ Err faults.OutOfRange)
    × (read_as (codes " +0032767 ") kinds.Smallint ≡ Ok (values.Int (pos 32_767)))
    × (read_as (codes "-32769") kinds.Smallint ≡ Err faults.OutOfRange)
    × (read_as (codes "-") kinds.Integer ≡ Err faults.BadText)
    × (read_as (codes "1 2") kinds.Integer ≡ Err faults.BadText)
unfolding skip_blanks trimmed unsigned_of digits_value
edges = (refl, refl, refl, refl, refl, refl, refl, refl)

words : (read_as (codes " yEs ") kinds.Boolean ≡ Ok (values.Bool true))
    × (read_as (codes "of") kinds.Boolean ≡ Ok (values.Bool false))
    × (read_as (codes "o") kinds.Boolean ≡ Err faults.BadText)
    × (read_as (codes "") kinds.Boolean ≡ Err faults.BadText)
unfolding skip_blanks trimmed boolean_read
words = (refl, refl, refl, refl)

-- an assignment loses spaces alone, and a cast whatever it must; two bytes may be one character
lengths : (assigned (values.Text (codes "ab  ")) (kinds.Varchar 3) ≡ Ok (values.Text (codes "ab ")))
    × (assigned (values.Text (codes "abcd")) (kinds.Varchar 3) ≡ Err faults.TooLong)
    × (casted (values.Text (codes "abcd")) (kinds.Varchar 3) ≡ Ok (values.Text (codes "abc")))
    × (assigned (values.Text (195 ∷ 164 ∷ 195 ∷ 182 ∷ [])) (kinds.Varchar 2) ≡ Ok (values.Text (195 ∷ 164 ∷ 195 ∷ 182 ∷ [])))
    × (casted (values.Text (195 ∷ 164 ∷ 195 ∷ 182 ∷ [])) (kinds.Varchar 1) ≡ Ok (values.Text (195 ∷ 164 ∷ [])))
unfolding bytes_of
lengths = (refl, refl, refl, refl, refl)

-- a cast has ways that an assignment hasn't
ways : (assigned (values.Text (codes "1")) kinds.Integer ≡ Err faults.NoCast)
    × (casted (values.Text (codes "1")) kinds.Integer ≡ Ok (values.Int (pos 1)))
    × (assigned (values.Bool true) kinds.Integer ≡ Err faults.NoCast)
    × (casted (values.Bool true) kinds.Integer ≡ Ok (values.Int (pos 1)))
    × (casted (values.Bool true) kinds.Bigint ≡ Err faults.NoCast)
    × (casted (values.Int (negsuc 0)) kinds.Boolean ≡ Ok (values.Bool true))
    × (assigned (values.Bool false) kinds.Text ≡ Ok (values.Text (codes "false")))
    × (assigned (values.Int (pos 32_768)) kinds.Smallint ≡ Err faults.OutOfRange)
    × (casted values.Null kinds.Date ≡ Ok values.Null)
unfolding skip_blanks trimmed unsigned_of digits_value
ways = (refl, refl, refl, refl, refl, refl, refl, refl, refl)

orders : (compared (values.Bool false) (values.Bool true) ≡ Some Less)
    × (compared (values.Text (codes "a ")) (values.Text (codes "a")) ≡ Some Greater)
    × (compared (values.Int (negsuc 4)) (values.Int (negsuc 4)) ≡ Some Equal)
    × (compared values.Null values.Null ≡ None)
    × (compared (values.Int (pos 1)) (values.Day (pos 1)) ≡ None)
orders = (refl, refl, refl, refl, refl)
