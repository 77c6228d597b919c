-- What conversions give is a value of the kind.
use Rattle.std.proofs.Common.{◌≡◌, ℕ, suc, ◌+◌, ◌-◌, ◌≤◌, ℤ, Bool, true, false, List, [], ◌∷◌, take, drop, Option, Some, None, Result, Ok, Err, refl, ap, ◌∙◌, arith}
use Rattle.std.specs.Prelude.{if◌then◌else◌, ◌==◌, ◌&&◌, nat_le, length, slice_index, map}
use Rattle.std.proofs.lemmas.Bool.Decides.{nat_tests}
use Rattle.std.proofs.lemmas.List.Recursion.{is_count_by}
use Rattle.std.specs.Char.{to_ascii_lowercase}
use Rattle.al_values.specs.declared.kinds.Kind.{Kind}
use Rattle.al_values.specs.declared.kinds.Kind.TheVariants as kinds
use Rattle.al_values.specs.declared.kinds.CastFault.{CastFault}
use Rattle.al_values.specs.declared.kinds.CastFault.TheVariants as cast_faults
use Rattle.al_values.specs.declared.scalar.Value.{Value}
use Rattle.al_values.specs.declared.scalar.Value.TheVariants as values
use Rattle.al_values.specs.Characters.{begins_character, bytes_of, characters, first_characters, only_spaces_after}
use Rattle.al_values.specs.Convert.{text_of, assigned, casted}
use Rattle.al_values.specs.Days.{is_date, day_number}
use Rattle.al_values.specs.Kinds.{fits}
use Rattle.al_values.specs.Reading.{ranged, number_read, number_of, trimmed, boolean_read, is_among, true_words, false_words, dated, date_read, stored_text, read_as, unsigned_of}
use Rattle.al_expr.specs.declared.kinds.Typed.{Typed}
use Rattle.al_expr.specs.declared.kinds.Typed.TheVariants as types
use Rattle.al_expr.specs.Kinds.{is_castable, cast_kind}
use Rattle.al_expr.specs.Roots.{is_stored}
use Rattle.al_expr.specs.Rows.{is_of, is_written, is_typed, is_sound}
use Rattle.al_expr.specs.Values.{Outcome, text_bytes, bounded, converted}
use Rattle.al_expr.proofs.DatesOfDays.{date_is_day}

-- ---- a choice

pub by_if : {A : Type 0} (P : A → Type 0) (b : Bool) (x y : A) → (b ≡ true → P x) → P y → P (if b then x else y)
by_if P true x y here there = here refl
by_if P false x y here there = there

-- ---- the first characters are no more than was asked

one_more : (n : ℕ) (byte : ℕ) (text : List ℕ) → take (1 + n) (byte ∷ text) ≡ byte ∷ take n text
one_more n byte text = let is : 1 + n ≡ suc n = omega arith in ap (λ k. take k (byte ∷ text)) is

begun : List ℕ → ℕ
begun [] = 0
begun (byte ∷ text) = if begins_character byte then 1 + begun text else begun text

begun_all : (text : List ℕ) → begun text ≡ characters text
unfolding begun
begun_all text = is_count_by begun begins_character refl (λ _ _. refl) text

begun_more : (byte : ℕ) (text : List ℕ) (b : Bool) → begins_character byte ≡ b →
    begun (byte ∷ text) ≡ (if b then 1 + begun text else begun text)
unfolding begun
begun_more byte text b is = ap (λ x. if x then 1 + begun text else begun text) is

begun_none : begun [] ≡ 0
unfolding begun
begun_none = refl

cut : (most : ℕ) (byte : ℕ) (text : List ℕ) (begins empty : Bool) → begins_character byte ≡ begins → (most == 0) ≡ empty →
    begun (take (bytes_of (most - 1) text) text) ≤ most - 1 → begun (take (bytes_of most text) text) ≤ most →
    begun (take (if begins then (if empty then 0 else 1 + bytes_of (most - 1) text) else 1 + bytes_of most text) (byte ∷ text)) ≤ most
cut most byte text true true begins empty less same = omega (arith, begun_none)
cut most byte text true false begins empty less same =
    let some : 1 ≤ most = grind (arith, nat_tests) in
    let here = ap begun (one_more (bytes_of (most - 1) text) byte text) ∙ begun_more byte (take (bytes_of (most - 1) text) text) true begins in
    omega (arith, here)
cut most byte text false empty begins none less same =
    let here = ap begun (one_more (bytes_of most text) byte text) ∙ begun_more byte (take (bytes_of most text) text) false begins in
    omega (arith, here)

first_short : (most : ℕ) (text : List ℕ) → begun (take (bytes_of most text) text) ≤ most
unfolding bytes_of
first_short most [] = omega (arith, begun_none)
first_short most (byte ∷ text) =
    cut most byte text (begins_character byte) (most == 0) refl refl (first_short (most - 1) text) (first_short most text)

short : (most : ℕ) (text : List ℕ) → is_of (kinds.Varchar most) (values.Text (first_characters most text)) ≡ true
short most text = let within = first_short most text in let all = begun_all (take (bytes_of most text) text) in grind (arith, nat_tests)

-- ---- what a conversion gives

abbrev pub is_read : Kind → Result Value CastFault → Bool
is_read kind (Ok value) = is_of kind value
is_read kind (Err cast_faults.NoCast) = false
is_read kind (Err fault) = true

abbrev IsRead : Kind → Result Value CastFault → Type 0
IsRead kind result = is_read kind result ≡ true

ranged_sound : (to : Kind) (number : ℤ) → IsRead to (ranged to number)
ranged_sound to number = by_if (IsRead to) (fits to number) (Ok (values.Int number)) (Err cast_faults.OutOfRange) (λ here. here) refl

number_sound : (to : Kind) (found : Option ℤ) → IsRead to (number_read to found)
number_sound to (Some number) = ranged_sound to number
number_sound to None = refl

boolean_sound : (word : List ℕ) → IsRead kinds.Boolean (boolean_read word)
unfolding boolean_read
boolean_sound word =
    by_if (IsRead kinds.Boolean) (is_among true_words (map to_ascii_lowercase word)) (Ok (values.Bool true)) _ (λ _. refl)
    (by_if (IsRead kinds.Boolean) (is_among false_words (map to_ascii_lowercase word)) (Ok (values.Bool false)) (Err cast_faults.BadText) (λ _. refl) refl)

dated_sound : (year month day : Option ℕ) → IsRead kinds.Date (dated year month day)
dated_sound (Some year) (Some month) (Some day) =
    by_if (IsRead kinds.Date) (is_date year month day) (Ok (values.Day (day_number year month day))) (Err cast_faults.BadDate)
    (date_is_day year month day) refl
dated_sound (Some year) (Some month) None = refl
dated_sound (Some year) None day = refl
dated_sound None month day = refl

date_sound : (text : List ℕ) → IsRead kinds.Date (date_read text)
unfolding date_read
date_sound text =
    by_if (IsRead kinds.Date) (length text == 10 && slice_index text 4 == 45 && slice_index text 7 == 45)
    (dated (unsigned_of (take 4 text)) (unsigned_of (take 2 (drop 5 text))) (unsigned_of (take 2 (drop 8 text))))
    (Err cast_faults.BadDate)
    (λ _. dated_sound (unsigned_of (take 4 text)) (unsigned_of (take 2 (drop 5 text))) (unsigned_of (take 2 (drop 8 text)))) refl

stored_sound : (most : ℕ) (text : List ℕ) → IsRead (kinds.Varchar most) (stored_text most text)
stored_sound most text =
    by_if (IsRead (kinds.Varchar most)) (only_spaces_after most text) (Ok (values.Text (first_characters most text))) (Err cast_faults.TooLong)
    (λ _. short most text) refl

pub read_sound : (text : List ℕ) (to : Kind) → is_read to (read_as text to) ≡ true
read_sound text kinds.Smallint = number_sound kinds.Smallint (number_of (trimmed text))
read_sound text kinds.Integer = number_sound kinds.Integer (number_of (trimmed text))
read_sound text kinds.Bigint = number_sound kinds.Bigint (number_of (trimmed text))
read_sound text kinds.Boolean = boolean_sound (trimmed text)
read_sound text kinds.Text = refl
read_sound text (kinds.Varchar most) = stored_sound most text
read_sound text kinds.Date = date_sound text

-- ---- casts

cast_whole : (from to : Kind) (number : ℤ) → is_castable from to ≡ true → is_of from (values.Int number) ≡ true → IsRead to (casted (values.Int number) to)
cast_whole from kinds.Smallint number castable is = ranged_sound kinds.Smallint number
cast_whole from kinds.Integer number castable is = ranged_sound kinds.Integer number
cast_whole from kinds.Bigint number castable is = ranged_sound kinds.Bigint number
cast_whole from kinds.Boolean number castable is = refl
cast_whole from kinds.Text number castable is = refl
cast_whole from (kinds.Varchar most) number castable is = short most _
cast_whole kinds.Smallint kinds.Date number castable is = absurd cc
cast_whole kinds.Integer kinds.Date number castable is = absurd cc
cast_whole kinds.Bigint kinds.Date number castable is = absurd cc
cast_whole from kinds.Date number castable is = absurd cc

cast_truth : (from to : Kind) (truth : Bool) → is_castable from to ≡ true → is_of from (values.Bool truth) ≡ true → IsRead to (casted (values.Bool truth) to)
cast_truth kinds.Boolean kinds.Boolean truth castable is = refl
cast_truth kinds.Boolean kinds.Integer true castable is = refl
cast_truth kinds.Boolean kinds.Integer false castable is = refl
cast_truth kinds.Boolean kinds.Text truth castable is = refl
cast_truth kinds.Boolean (kinds.Varchar most) truth castable is = short most _
cast_truth from to truth castable is = absurd cc

cast_day : (from to : Kind) (day : ℤ) → is_castable from to ≡ true → is_of from (values.Day day) ≡ true → IsRead to (casted (values.Day day) to)
cast_day kinds.Date kinds.Date day castable is = is
cast_day kinds.Date kinds.Text day castable is = refl
cast_day kinds.Date (kinds.Varchar most) day castable is = short most _
cast_day from to day castable is = absurd cc

cast_text : (to : Kind) (text : List ℕ) → IsRead to (casted (values.Text text) to)
cast_text kinds.Smallint text = read_sound text kinds.Smallint
cast_text kinds.Integer text = read_sound text kinds.Integer
cast_text kinds.Bigint text = read_sound text kinds.Bigint
cast_text kinds.Boolean text = read_sound text kinds.Boolean
cast_text kinds.Text text = refl
cast_text (kinds.Varchar most) text = short most _
cast_text kinds.Date text = read_sound text kinds.Date

cast_known : (from to : Kind) (value : Value) → is_castable from to ≡ true → is_of from value ≡ true → IsRead to (casted value to)
cast_known from to values.Null castable is = refl
cast_known from to (values.Bool truth) castable is = cast_truth from to truth castable is
cast_known from to (values.Int number) castable is = cast_whole from to number castable is
cast_known from to (values.Text text) castable is = cast_text to text
cast_known from to (values.Day day) castable is = cast_day from to day castable is

cast_written : (to : Kind) (value : Value) → is_written value ≡ true → IsRead to (casted value to)
cast_written to values.Null is = refl
cast_written to (values.Text text) is = cast_text to text
cast_written to value is = absurd cc

castable_of : (from to next : Kind) (b : Bool) → is_castable from to ≡ b → (if b then Some to else None) ≡ Some next → (is_castable from to ≡ true) × (to ≡ next)
castable_of from to next true is found = (is, cc)
castable_of from to next false is found = absurd cc

pub cast_sound : (typed : Typed) (to next : Kind) (value : Value) → cast_kind typed to ≡ Some next → is_typed typed value ≡ true →
    (to ≡ next) × (is_read to (casted value to) ≡ true)
cast_sound (types.Known from) to next value found is =
    let there = castable_of from to next (is_castable from to) refl found in
    (there.1, cast_known from to value there.0 is)
cast_sound types.Untyped to next value found is = (cc, cast_written to value is)

-- ---- assignments

assign_whole : (from to : Kind) (number : ℤ) → is_stored from to ≡ true → is_of from (values.Int number) ≡ true → IsRead to (assigned (values.Int number) to)
assign_whole from kinds.Smallint number there is = ranged_sound kinds.Smallint number
assign_whole from kinds.Integer number there is = ranged_sound kinds.Integer number
assign_whole from kinds.Bigint number there is = ranged_sound kinds.Bigint number
assign_whole from kinds.Text number there is = refl
assign_whole from (kinds.Varchar most) number there is = stored_sound most (text_of (values.Int number))
assign_whole kinds.Smallint to number there is = absurd cc
assign_whole kinds.Integer to number there is = absurd cc
assign_whole kinds.Bigint to number there is = absurd cc
assign_whole from to number there is = absurd cc

assign_truth : (from to : Kind) (truth : Bool) → is_stored from to ≡ true → is_of from (values.Bool truth) ≡ true → IsRead to (assigned (values.Bool truth) to)
assign_truth kinds.Boolean kinds.Boolean truth there is = refl
assign_truth kinds.Boolean kinds.Text truth there is = refl
assign_truth kinds.Boolean (kinds.Varchar most) truth there is = stored_sound most (text_of (values.Bool truth))
assign_truth from to truth there is = absurd cc

assign_day : (from to : Kind) (day : ℤ) → is_stored from to ≡ true → is_of from (values.Day day) ≡ true → IsRead to (assigned (values.Day day) to)
assign_day kinds.Date kinds.Date day there is = is
assign_day kinds.Date kinds.Text day there is = refl
assign_day kinds.Date (kinds.Varchar most) day there is = stored_sound most (text_of (values.Day day))
assign_day from to day there is = absurd cc

assign_text : (from to : Kind) (text : List ℕ) → is_stored from to ≡ true → is_of from (values.Text text) ≡ true → IsRead to (assigned (values.Text text) to)
assign_text kinds.Text kinds.Text text there is = refl
assign_text kinds.Text (kinds.Varchar most) text there is = stored_sound most text
assign_text (kinds.Varchar own) kinds.Text text there is = refl
assign_text (kinds.Varchar own) (kinds.Varchar most) text there is = stored_sound most text
assign_text from to text there is = absurd cc

pub assigned_sound : (from to : Kind) (value : Value) → is_stored from to ≡ true → is_of from value ≡ true → is_read to (assigned value to) ≡ true
assigned_sound from to values.Null there is = refl
assigned_sound from to (values.Bool truth) there is = assign_truth from to truth there is
assigned_sound from to (values.Int number) there is = assign_whole from to number there is
assigned_sound from to (values.Text text) there is = assign_text from to text there is
assigned_sound from to (values.Day day) there is = assign_day from to day there is

-- ---- what is made of it: a text of too many bytes is a fault

pub bounded_sound : (kind : Kind) (value : Value) → is_of kind value ≡ true → is_sound (types.Known kind) (bounded value) ≡ true
bounded_sound kind value is =
    by_if (λ (x : Outcome). is_sound (types.Known kind) x ≡ true) (nat_le (text_bytes value) 8192) (Ok value) _ (λ _. is) refl

pub converted_sound : (kind : Kind) (result : Result Value CastFault) → is_read kind result ≡ true → is_sound (types.Known kind) (converted result) ≡ true
converted_sound kind (Ok value) is = bounded_sound kind value is
converted_sound kind (Err cast_faults.NoCast) is = absurd cc
converted_sound kind (Err fault) is = refl
