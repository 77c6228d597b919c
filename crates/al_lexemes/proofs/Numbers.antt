-- Numbers of 64 bits.
use Rattle.std.proofs.Common.{◌≡◌, ℕ, ◌+◌, ◌*◌, ◌<◌, ◌≤◌, ◌-◌, ◌^◌, min, true, false, List, [], length, take, get_or, refl, arith}
use Rattle.std.proofs.lemmas.List.Sums.{fold_more}
use Rattle.al_values.specs.Reading.{digits_value}
use Rattle.std.proofs.lemmas.Bool.{lt-ltb}
use Rattle.std.proofs.lemmas.Bool.Decides.{nat_tests}
use Rattle.al_lexemes.specs.Classes.{is_wide}

-- ---- one digit more

-- the greatest number of 64 bits stands for all from it on
abbrev pub capped : ℕ → ℕ
capped number = min (2 ^ 64 - 1) number

pub digits_more : (text : List ℕ) (i : ℕ) → i < length text → digits_value (take (i + 1) text) ≡ digits_value (take i text) * 10 + (get_or text i 0 - 48)
unfolding digits_value
digits_more text i within = fold_more _ 0 text i 0 within

pub capped_more : (before digit : ℕ) → min (min (capped before * 10) (2 ^ 64 - 1) + digit) (2 ^ 64 - 1) ≡ capped (before * 10 + digit)
capped_more before digit = omega arith

pub no_digits : capped (digits_value []) ≡ 0
unfolding digits_value
no_digits = refl

-- what 64 bits cap is as wide as the number, and else the number
pub wide : (n m : ℕ) → m ≡ min (2 ^ 64 - 1) n → 9223372036854775807 < m → is_wide n ≡ true
wide n m e lt = lt-ltb 9223372036854775807 n (omega arith)

pub fits_too : (n m : ℕ) → m ≡ min (2 ^ 64 - 1) n → m ≤ 9223372036854775807 → m ≡ n
fits_too n m e le = omega arith

pub not_wide : (n m : ℕ) → m ≡ min (2 ^ 64 - 1) n → m ≤ 9223372036854775807 → is_wide n ≡ false
not_wide n m e le = grind (arith, nat_tests)
