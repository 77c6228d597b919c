-- Kinds in a row, by their bounds.
use Rattle.std.proofs.Common.{◌≡◌, ℕ, zero, suc, ◌+◌, ◌≤◌, ◌<◌, Bool, true, false, ◌||◌, ◌==◌, refl, arith}
use Rattle.al_grammar.specs.Kinds.{among, span}
use Rattle.al_grammar.proofs.FirstTokens.{clash, or_cases}

in_by : (n low count : ℕ) (b : Bool) → (n == low) ≡ b → low ≤ n → n < low + suc count → (low + 1 ≤ n → among n (span (low + 1) count) ≡ true) → (b || among n (span (low + 1) count)) ≡ true
in_by n low count true e a z h = refl
in_by n low count false e a z h = h (grind (arith, e))

-- a kind between the bounds stands in the row
pub in_span : (n low count : ℕ) → low ≤ n → n < low + count → among n (span low count) ≡ true
in_span n low zero a z = absurd (omega (arith, a, z))
in_span n low (suc count) a z =
    in_by n low count (n == low) refl a z (λ next. in_span n (low + 1) count next (omega (arith, z)))

-- and what stands there is between them
pub span_bounds : (n low count : ℕ) → among n (span low count) ≡ true → (low ≤ n) × (n < low + count)
span_bounds n low zero h = absurd (clash h refl)
span_bounds n low (suc count) h =
    or_cases (n == low) (among n (span (low + 1) count)) ((low ≤ n) × (n < low + suc count)) h
    (λ e. let same : n ≡ low = grind (arith, e) in (omega (arith, same), omega (arith, same)))
    (λ more. let rest = span_bounds n (low + 1) count more in (omega (arith, rest.0), omega (arith, rest.1)))
