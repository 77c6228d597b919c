-- What a text is read as (manual, 4.1.2.7, Constants of Other Types; 8.1, 8.5 and 8.6 for what each kind takes).
use Rattle.std.specs.Prelude.{◌≡◌, ℕ, ◌+◌, ◌-◌, ◌*◌, ℤ, pos, neg_ℤ, Bool, true, false, ◌&&◌, ◌||◌, ◌==◌, nat_le, if◌then◌else◌, List, [], ◌∷◌, map, reverse, length, take, drop, fold, slice_index, bytes_eq, Option, Some, None, option_map, Result, Ok, Err, codes}
use Rattle.std.specs.List.{list_all, list_any}
use Rattle.std.specs.Char.{to_ascii_lowercase}
use Rattle.al_values.specs.declared.scalar.Value.{Value}
use Rattle.al_values.specs.declared.scalar.Value.TheVariants as values
use Rattle.al_values.specs.declared.kinds.Kind.{Kind}
use Rattle.al_values.specs.declared.kinds.Kind.TheVariants as kinds
use Rattle.al_values.specs.declared.kinds.CastFault.{CastFault}
use Rattle.al_values.specs.declared.kinds.CastFault.TheVariants as faults
use Rattle.al_values.specs.Kinds.{fits}
use Rattle.al_values.specs.Characters.{first_characters, only_spaces_after}
use Rattle.al_values.specs.Days.{is_day, is_date, day_number}

-- space, tab, line feed, vertical tab, form feed, carriage return
abbrev pub is_blank : ℕ → Bool
is_blank byte = byte == 32 || (nat_le 9 byte && nat_le byte 13)

-- without the blanks at the front
unfoldable pub skip_blanks : List ℕ → List ℕ
skip_blanks [] = []
skip_blanks (byte ∷ text) = if is_blank byte then skip_blanks text else byte ∷ text

-- without the blanks at both ends
unfoldable pub trimmed : List ℕ → List ℕ
trimmed text = reverse (skip_blanks (reverse (skip_blanks text)))

abbrev pub is_digit : ℕ → Bool
is_digit byte = nat_le 48 byte && nat_le byte 57

-- the number that the digits spell, however long
unfoldable pub digits_value : List ℕ → ℕ
digits_value digits = fold (λ before digit. before * 10 + (digit - 48)) 0 digits

-- digits, one or more of them
unfoldable pub unsigned_of : List ℕ → Option ℕ
unsigned_of [] = None
unsigned_of digits = if list_all is_digit digits then Some (digits_value digits) else None

abbrev pub signed_of : Bool → ℕ → ℤ
signed_of minus number = if minus then neg_ℤ (pos number) else pos number

-- digits with a sign before them, or none
abbrev pub number_of : List ℕ → Option ℤ
number_of [] = None
number_of (byte ∷ text) =
    if byte == 45 then option_map (signed_of true) (unsigned_of text)
    else (if byte == 43 then option_map (signed_of false) (unsigned_of text)
    else option_map (signed_of false) (unsigned_of (byte ∷ text)))

-- the number, where the kind has it
abbrev pub ranged : Kind → ℤ → Result Value CastFault
ranged to number = if fits to number then Ok (values.Int number) else Err faults.OutOfRange

-- a number of an integer kind
abbrev pub number_read : Kind → Option ℤ → Result Value CastFault
number_read to (Some number) = ranged to number
number_read to None = Err faults.BadText

-- the words for true and for false, in small letters
abbrev pub true_words : List (List ℕ)
true_words = codes "t" ∷ codes "tr" ∷ codes "tru" ∷ codes "true" ∷ codes "y" ∷ codes "ye" ∷ codes "yes" ∷ codes "on" ∷ codes "1" ∷ []

abbrev pub false_words : List (List ℕ)
false_words = codes "f" ∷ codes "fa" ∷ codes "fal" ∷ codes "fals" ∷ codes "false" ∷ codes "n" ∷ codes "no" ∷ codes "of" ∷ codes "off" ∷ codes "0" ∷ []

abbrev pub is_among : List (List ℕ) → List ℕ → Bool
is_among words word = list_any (bytes_eq word) words

-- a boolean, without regard to case
unfoldable pub boolean_read : List ℕ → Result Value CastFault
boolean_read word =
    if is_among true_words (map to_ascii_lowercase word) then Ok (values.Bool true)
    else (if is_among false_words (map to_ascii_lowercase word) then Ok (values.Bool false) else Err faults.BadText)

-- the day, where the calendar has it
abbrev pub dated : Option ℕ → Option ℕ → Option ℕ → Result Value CastFault
dated (Some year) (Some month) (Some day) =
    if is_date year month day then Ok (values.Day (day_number year month day)) else Err faults.BadDate
dated _ _ _ = Err faults.BadDate

-- ten bytes, YYYY-MM-DD
unfoldable pub date_read : List ℕ → Result Value CastFault
date_read text =
    if length text == 10 && slice_index text 4 == 45 && slice_index text 7 == 45
    then dated (unsigned_of (take 4 text)) (unsigned_of (take 2 (drop 5 text))) (unsigned_of (take 2 (drop 8 text)))
    else Err faults.BadDate

-- a text that is stored with at most so many characters: past them it may have spaces alone, which go
abbrev pub stored_text : ℕ → List ℕ → Result Value CastFault
stored_text most text =
    if only_spaces_after most text then Ok (values.Text (first_characters most text)) else Err faults.TooLong

-- what the text is read as, by the kind
abbrev pub read_as : List ℕ → Kind → Result Value CastFault
read_as text kinds.Smallint = number_read kinds.Smallint (number_of (trimmed text))
read_as text kinds.Integer = number_read kinds.Integer (number_of (trimmed text))
read_as text kinds.Bigint = number_read kinds.Bigint (number_of (trimmed text))
read_as text kinds.Boolean = boolean_read (trimmed text)
read_as text kinds.Text = Ok (values.Text text)
read_as text (kinds.Varchar most) = stored_text most text
read_as text kinds.Date = date_read text

-- the text is read as the value again, by each kind that has it
abbrev pub IsReadAgain : Value → List ℕ → Type 0
IsReadAgain values.Null text = Unit {0}
IsReadAgain (values.Bool truth) text = read_as text kinds.Boolean ≡ Ok (values.Bool truth)
IsReadAgain (values.Int number) text = (to : Kind) → fits to number ≡ true → read_as text to ≡ Ok (values.Int number)
IsReadAgain (values.Text bytes) text = read_as text kinds.Text ≡ Ok (values.Text bytes)
IsReadAgain (values.Day day) text = is_day day ≡ true → read_as text kinds.Date ≡ Ok (values.Day day)
