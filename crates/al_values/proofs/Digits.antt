-- Numbers from digits, one more at a time.
use Rattle.std.proofs.Common.{◌≡◌, ℕ, ◌+◌, ◌-◌, ◌*◌, ◌<◌, ◌≤◌, ◌^◌, min, true, false, List, [], ◌∷◌, length, take, get_or, refl, ◌∙◌, arith}
use Rattle.std.specs.Prelude.{Some, None, option_map, ◌==◌}
use Rattle.std.specs.List.{list_all}
use Rattle.std.proofs.lemmas.List.Sums.{fold_more}
use Rattle.std.proofs.lemmas.List.{take_all}
use Rattle.std.proofs.lemmas.Bool.Decides.{nat_tests}
use Rattle.std.proofs.lemmas.List.Folds.{list_all_more, list_all_at}
use Rattle.al_values.specs.Reading.{digits_value, unsigned_of, is_digit}

-- the greatest number of 64 bits stands for all from it on
abbrev pub capped : ℕ → ℕ
capped number = min (2 ^ 64 - 1) number

pub no_digits : (text : List ℕ) → (length text == 0) ≡ true → None ≡ option_map capped (unsigned_of text)
unfolding unsigned_of
no_digits [] none = refl
no_digits (byte ∷ text) none = absurd (grind (arith, nat_tests))

pub digits_more : (text : List ℕ) (i : ℕ) → i < length text
    → digits_value (take (i + 1) text) ≡ digits_value (take i text) * 10 + (get_or text i 0 - 48)
unfolding digits_value
digits_more text i within = fold_more _ 0 text i 0 within

pub capped_more : (before digit : ℕ)
    → min (min (capped before * 10) (2 ^ 64 - 1) + digit) (2 ^ 64 - 1) ≡ capped (before * 10 + digit)
capped_more before digit = omega arith

pub no_value : digits_value [] ≡ 0
unfolding digits_value
no_value = refl

pub all_digits : (text : List ℕ) (i : ℕ) → (length text == 0) ≡ false → length text ≤ i
    → list_all is_digit (take i text) ≡ true
    → option_map capped (unsigned_of text) ≡ Some (capped (digits_value (take i text)))
unfolding unsigned_of
all_digits [] i some past digits = absurd (grind (arith, nat_tests))
all_digits (byte ∷ text) i some past digits =
    let whole = take_all i (byte ∷ text) past in
    let all : list_all is_digit (byte ∷ text) ≡ true = cc in
    rw (whole, all) refl

with_other : (text : List ℕ) → list_all is_digit text ≡ false → None ≡ option_map capped (unsigned_of text)
unfolding unsigned_of
with_other [] other = refl
with_other (byte ∷ text) other = rw other refl

pub not_all_digits : (text : List ℕ) (i : ℕ) → i < length text → is_digit (get_or text i 0) ≡ false
    → None ≡ option_map capped (unsigned_of text)
not_all_digits text i within other = with_other text (list_all_at is_digit text i 0 within other)

pub still_digits : (text : List ℕ) (i : ℕ) → i < length text → list_all is_digit (take i text) ≡ true
    → is_digit (get_or text i 0) ≡ true → list_all is_digit (take (i + 1) text) ≡ true
still_digits text i within before digit = list_all_more is_digit text i 0 within ∙ cc
