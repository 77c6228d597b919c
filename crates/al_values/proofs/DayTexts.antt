-- A day's text from the formats that the code writes it with.
use Rattle.std.proofs.Common.{◌≡◌, ℕ, ℤ, ◌∷◌, ◌++◌, true, false, refl}
use Rattle.std.specs.Prelude.{◌==◌}
use Rattle.std.proofs.Math.Nat.{sub-zero}
use Rattle.std.proofs.lemmas.List.{append-nil}
use Rattle.std.specs.Fmt.{styled_decimal, signed_decimal, format_spec, padded_integral, char_count}
use Rattle.al_values.specs.Days.{day_text, is_day, year_of, month_of, place_of, padded_to}

zeros : (digits number : ℕ) → (digits == 0) ≡ false
    → styled_decimal (format_spec 32 0 4 digits 18446744073709551615) number ≡ padded_to digits number
unfolding padded_integral char_count
zeros digits number some = rw some (simp (sub-zero, append-nil))

pub dated_text : (day : ℤ) (year month place : ℕ)
    → is_day day ≡ true → year ≡ year_of day → month ≡ month_of day → place ≡ place_of day
    → day_text day ≡ styled_decimal (format_spec 32 0 4 4 18446744073709551615) year
    ++ 45 ∷ (styled_decimal (format_spec 32 0 4 2 18446744073709551615) month
    ++ 45 ∷ styled_decimal (format_spec 32 0 4 2 18446744073709551615) place)
unfolding day_text
dated_text day year month place inside y m d =
    rw (inside, y, m, d, zeros 4 (year_of day) refl, zeros 2 (month_of day) refl, zeros 2 (place_of day) refl) refl

pub number_text : (day : ℤ) → is_day day ≡ false → day_text day ≡ signed_decimal day
unfolding day_text
number_text day outside = rw outside refl
