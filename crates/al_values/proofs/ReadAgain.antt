-- What is printed is read again: each integer, and each day of the years 1 to 9999.
use Rattle.std.proofs.Common.{Bool, ◌≡◌, ℕ, zero, suc, ◌+◌, ◌-◌, ◌*◌, ◌^◌, ◌<◌, ◌≤◌, ℤ, pos, negsuc, true, false, List, [], ◌∷◌, ◌++◌, length, get_or, replicate, decimal, codes, refl, sym, ap, ◌∙◌, arith, rules}
use Rattle.std.specs.Prelude.{Some, Ok, fold}
use Rattle.std.specs.Fmt.{signed_decimal}
use Rattle.std.specs.List.{list_all}
use Rattle.std.proofs.lemmas.Str.Parse.{IsNumeralModel, numerals_by_fold}
use Rattle.std.proofs.lemmas.Fmt.{digits_decimal, digits_value-decimal, length-decimal-le, decimal_nonempty}
use Rattle.std.proofs.lemmas.List.{length-append, length-replicate}
use Rattle.al_values.specs.declared.scalar.Value.{Value}
use Rattle.al_values.specs.declared.scalar.Value.TheVariants as values
use Rattle.al_values.specs.declared.kinds.Kind.{Kind}
use Rattle.al_values.specs.Kinds.{fits}
use Rattle.std.proofs.lemmas.Int.{ints}
use Rattle.al_values.proofs.DayLaws.{date_of_day, printed_day}
use Rattle.al_values.specs.declared.kinds.Kind.TheVariants as kinds
use Rattle.al_values.specs.Days.{is_day, year_of, month_of, place_of, is_date, day_number, date_text, padded_to}
use Rattle.al_values.specs.Reading.{IsReadAgain, boolean_read, digits_value, unsigned_of, is_digit, is_blank, skip_blanks, trimmed, number_of, signed_of, ranged, read_as, date_read, dated}
use Rattle.al_values.specs.Printed.{printed}
use Rattle.al_values.proofs.Dates.{is_date_small}
use Rattle.al_values.proofs.Blanks.{back_stop}
use Rattle.std.proofs.lemmas.Bool.Decides.{nat_tests}
use Rattle.std.specs.Cmp.{first_so, second_so}
use Rattle.std.specs.Prelude.{◌==◌, option_map}
use lib.Signed.{mag}

read_on : ℕ → List ℕ → ℕ
read_on before digits = fold (λ before digit. before * 10 + (digit - 48)) before digits

own : IsNumeralModel (λ digits. list_all is_digit digits ≡ true) (read_on 0)
unfolding read_on
own = numerals_by_fold _ (search rules) read_on (search rules)

-- a number's decimal text is of digits, and they spell it
decimal_digits : (number : ℕ) → number < 2 ^ 64 → list_all is_digit (decimal number) ≡ true
decimal_digits number small = digits_decimal own number small

decimal_value : (number : ℕ) → number < 2 ^ 64 → digits_value (decimal number) ≡ number
unfolding digits_value read_on
decimal_value number small = digits_value-decimal own number small

unsigned_some : (digits : List ℕ) → 0 < length digits → list_all is_digit digits ≡ true
    → unsigned_of digits ≡ Some (digits_value digits)
unfolding unsigned_of
unsigned_some [] some all = absurd (omega arith)
unsigned_some (digit ∷ digits) some all = rw all refl

-- and zeros before it change neither
zeros_digits : (zeros : ℕ) (digits : List ℕ) → list_all is_digit digits ≡ true → list_all is_digit (replicate zeros 48 ++ digits) ≡ true
zeros_digits zero digits all = all
zeros_digits (suc zeros) digits all = zeros_digits zeros digits all

zeros_value : (zeros : ℕ) (digits : List ℕ) → digits_value (replicate zeros 48 ++ digits) ≡ digits_value digits
unfolding digits_value
zeros_value zero digits = refl
zeros_value (suc zeros) digits = zeros_value zeros digits

padded_length : (places number : ℕ) → 0 < places → number < 10 ^ places → number < 2 ^ 64 → length (padded_to places number) ≡ places
padded_length places number some fits small =
    let short = length-decimal-le places number some fits small in
    rw (length-append, length-replicate) (omega arith)

padded_number : (places number : ℕ) → 0 < places → number < 10 ^ places → number < 2 ^ 64 → unsigned_of (padded_to places number) ≡ Some number
padded_number places number some fits small =
    let long : 0 < length (padded_to places number) = rw (padded_length places number some fits small) some in
    let zeros = places - length (decimal number) in
    unsigned_some (padded_to places number) long (zeros_digits zeros (decimal number) (decimal_digits number small))
    ∙ ap Some (zeros_value zeros (decimal number) ∙ decimal_value number small)

-- ---- days

two_apart : (text : List ℕ) → length text ≡ 2 → (a : ℕ) × (b : ℕ) × (text ≡ a ∷ b ∷ [])
two_apart [] long = absurd (omega arith)
two_apart (a ∷ []) long = absurd (omega arith)
two_apart (a ∷ b ∷ []) long = (a, b, refl)
two_apart (a ∷ b ∷ c ∷ text) long = absurd (omega arith)

four_apart : (text : List ℕ) → length text ≡ 4 → (a : ℕ) × (b : ℕ) × (c : ℕ) × (d : ℕ) × (text ≡ a ∷ b ∷ c ∷ d ∷ [])
four_apart [] long = absurd (omega arith)
four_apart (a ∷ []) long = absurd (omega arith)
four_apart (a ∷ b ∷ text) long = let last = two_apart text (omega arith) in (a, b, last.0, last.1, ap (λ rest. a ∷ b ∷ rest) last.2)

date_of_parts : (year month day : List ℕ) → length year ≡ 4 → length month ≡ 2 → length day ≡ 2
    → date_read (year ++ (codes "-" ++ (month ++ (codes "-" ++ day)))) ≡ dated (unsigned_of year) (unsigned_of month) (unsigned_of day)
unfolding date_read
date_of_parts year month day four two two_too =
    let y = four_apart year four in
    let m = two_apart month two in
    let d = two_apart day two_too in
    rw (y.4, m.2, d.2) refl

pub date_read_again : (year month day : ℕ) → is_date year month day ≡ true
    → read_as (date_text year month day) kinds.Date ≡ Ok (values.Day (day_number year month day))
date_read_again year month day date =
    let small = is_date_small year month day date in
    let y : (year < 10 ^ 4) × (year < 2 ^ 64) = (omega arith, omega arith) in
    let m : (month < 10 ^ 2) × (month < 2 ^ 64) = (omega arith, omega arith) in
    let d : (day < 10 ^ 2) × (day < 2 ^ 64) = (omega arith, omega arith) in
    date_of_parts (padded_to 4 year) (padded_to 2 month) (padded_to 2 day)
    (padded_length 4 year (omega arith) y.0 y.1) (padded_length 2 month (omega arith) m.0 m.1) (padded_length 2 day (omega arith) d.0 d.1)
    ∙ rw (padded_number 4 year (omega arith) y.0 y.1, padded_number 2 month (omega arith) m.0 m.1, padded_number 2 day (omega arith) d.0 d.1, date) refl

-- ---- integers

digit_at : (digits : List ℕ) (i : ℕ) → i < length digits → list_all is_digit digits ≡ true → is_blank (get_or digits i 0) ≡ false
digit_at [] i within all = absurd (omega arith)
digit_at (digit ∷ digits) zero within all = grind (arith, nat_tests)
digit_at (digit ∷ digits) (suc i) within all = digit_at digits i (omega arith) (second_so (is_digit digit) (list_all is_digit digits) all)

trimmed_same : (text : List ℕ) → 1 ≤ length text → is_blank (get_or text 0 0) ≡ false → is_blank (get_or text (length text - 1) 0) ≡ false
    → trimmed text ≡ text
unfolding trimmed skip_blanks
trimmed_same [] some first last = absurd (omega arith)
trimmed_same (byte ∷ text) some first last = rw first (sym (back_stop (byte ∷ text) some last))

last_behind : (sign : ℕ) (digits : List ℕ) → 0 < length digits → list_all is_digit digits ≡ true
    → is_blank (get_or (sign ∷ digits) (length (sign ∷ digits) - 1) 0) ≡ false
last_behind sign [] some all = absurd (omega arith)
last_behind sign (digit ∷ digits) some all =
    let last : length (sign ∷ digit ∷ digits) - 1 ≡ suc (length digits) = omega arith in
    rw last (digit_at (digit ∷ digits) (length digits) (omega arith) all)

plain_number : (digits : List ℕ) → 0 < length digits → list_all is_digit digits ≡ true
    → number_of digits ≡ option_map (signed_of false) (unsigned_of digits)
plain_number [] some all = absurd (omega arith)
plain_number (digit ∷ digits) some all =
    let is = first_so (is_digit digit) (list_all is_digit digits) all in
    let no_minus : (digit == 45) ≡ false = grind (arith, nat_tests) in
    let no_plus : (digit == 43) ≡ false = grind (arith, nat_tests) in
    rw (no_minus, no_plus) refl

number_again : (number : ℤ) → mag number + 1 < 2 ^ 64 → number_of (trimmed (signed_decimal number)) ≡ Some number
number_again (pos number) small =
    let some = decimal_nonempty number (omega arith) in
    let all = decimal_digits number (omega arith) in
    rw (trimmed_same (decimal number) some (digit_at (decimal number) 0 some all) (digit_at (decimal number) (length (decimal number) - 1) (omega arith) all))
    (plain_number (decimal number) some all ∙ rw (unsigned_some (decimal number) some all, decimal_value number (omega arith)) refl)
number_again (negsuc number) small =
    let some = decimal_nonempty (suc number) (omega arith) in
    let all = decimal_digits (suc number) (omega arith) in
    rw (trimmed_same (45 ∷ decimal (suc number)) (omega arith) refl (last_behind 45 (decimal (suc number)) some all))
    (rw (unsigned_some (decimal (suc number)) some all, decimal_value (suc number) (omega arith)) refl)

pub integer_read_again : (number : ℤ) → mag number + 1 < 2 ^ 64
    → (read_as (printed (values.Int number)) kinds.Smallint ≡ ranged kinds.Smallint number)
    × (read_as (printed (values.Int number)) kinds.Integer ≡ ranged kinds.Integer number)
    × (read_as (printed (values.Int number)) kinds.Bigint ≡ ranged kinds.Bigint number)
integer_read_again number small =
    let again = number_again number small in
    (rw again refl, rw again refl, rw again refl)

-- ---- values

small_from_fits : (to : Kind) (number : ℤ) → fits to number ≡ true → mag number + 1 < 2 ^ 64
small_from_fits kinds.Smallint number has = grind (arith, ints)
small_from_fits kinds.Integer number has = grind (arith, ints)
small_from_fits kinds.Bigint number has = grind (arith, ints)
small_from_fits _ number has = absurd cc

fitting_again : (to : Kind) (number : ℤ) → fits to number ≡ true → read_as (printed (values.Int number)) to ≡ Ok (values.Int number)
fitting_again kinds.Smallint number has = (integer_read_again number (small_from_fits kinds.Smallint number has)).0 ∙ rw has refl
fitting_again kinds.Integer number has = (integer_read_again number (small_from_fits kinds.Integer number has)).1 ∙ rw has refl
fitting_again kinds.Bigint number has = (integer_read_again number (small_from_fits kinds.Bigint number has)).2 ∙ rw has refl
fitting_again _ number has = absurd cc

day_again : (number : ℤ) → is_day number ≡ true → read_as (printed (values.Day number)) kinds.Date ≡ Ok (values.Day number)
day_again number inside =
    let date = date_of_day number inside in
    rw (printed_day number inside)
    (date_read_again (year_of number) (month_of number) (place_of number) date.0 ∙ rw date.1 refl)

truth_again : (truth : Bool) → read_as (printed (values.Bool truth)) kinds.Boolean ≡ Ok (values.Bool truth)
unfolding skip_blanks trimmed boolean_read
truth_again true = refl
truth_again false = refl

pub read_again : (value : Value) (text : List ℕ) → text ≡ printed value → IsReadAgain value text
read_again values.Null text is = tt
read_again (values.Bool truth) text is = rw is (truth_again truth)
read_again (values.Int number) text is = λ to has. rw is (fitting_again to number has)
read_again (values.Text bytes) text is = rw is refl
read_again (values.Day number) text is = λ inside. rw is (day_again number inside)
