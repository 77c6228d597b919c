-- The kinds that may be names, by their bounds.
use Rattle.std.proofs.Common.{◌≡◌, ℕ, ◌≤◌, ◌<◌, Bool, true, false, refl, arith}
use Rattle.al_grammar.specs.Kinds.{among}
use Rattle.al_grammar.proofs.Spans.{in_span, span_bounds}
use Rattle.al_phrases.specs.Kinds.{names, column_names}

pub name_kinds : (k : ℕ) → 60 ≤ k → k < 135 → among k names ≡ true
name_kinds k low high = in_span k 60 75 low (omega (arith, high))

not_in : (k : ℕ) (b : Bool) → among k names ≡ b → (60 ≤ k → k < 135 → ⊥) → b ≡ false
not_in k true e out = let both = span_bounds k 60 75 e in absurd (out both.0 (omega (arith, both.1)))
not_in k false e out = refl

pub below_names : (k : ℕ) → k < 60 → among k names ≡ false
below_names k less = not_in k (among k names) refl (λ low high. omega (arith, low, less))

pub above_names : (k : ℕ) → 134 < k → among k names ≡ false
above_names k more = not_in k (among k names) refl (λ low high. omega (arith, high, more))

pub column_kinds : (k : ℕ) → 60 ≤ k → k < 131 → among k column_names ≡ true
column_kinds k low high = in_span k 60 71 low (omega (arith, high))

not_column : (k : ℕ) (b : Bool) → among k column_names ≡ b → (60 ≤ k → k < 131 → ⊥) → b ≡ false
not_column k true e out = let both = span_bounds k 60 71 e in absurd (out both.0 (omega (arith, both.1)))
not_column k false e out = refl

pub below_columns : (k : ℕ) → k < 60 → among k column_names ≡ false
below_columns k less = not_column k (among k column_names) refl (λ low high. omega (arith, low, less))

pub above_columns : (k : ℕ) → 130 < k → among k column_names ≡ false
above_columns k more = not_column k (among k column_names) refl (λ low high. omega (arith, high, more))
