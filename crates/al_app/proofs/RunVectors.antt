-- Worked terms of runs, by computation.
use Rattle.std.proofs.Common.{◌≡◌, ◌≢◌, ℕ, List, [], ◌∷◌, refl, arith}
use Rattle.al_spec.specs.declared.spec.Spec.{Spec}
use Rattle.al_app.specs.Runs.{journal_weight}

abbrev spec_of : List (List ℕ) → Spec
spec_of permutations = record { sessions = []; blocks = []; permutations = permutations }

-- up to four permutations, each journal may weigh a fourth
one_run : journal_weight (spec_of ([] ∷ [])) ≡ 2000000
one_run = refl

four_runs : journal_weight (spec_of ([] ∷ [] ∷ [] ∷ [] ∷ [])) ≡ 2000000
four_runs = refl

five_runs : journal_weight (spec_of ([] ∷ [] ∷ [] ∷ [] ∷ [] ∷ [])) ≡ 1600000
five_runs = refl

-- rounded down
seven_runs : journal_weight (spec_of ([] ∷ [] ∷ [] ∷ [] ∷ [] ∷ [] ∷ [] ∷ [])) ≡ 1142857
seven_runs = refl

one_run_has_not_all : journal_weight (spec_of ([] ∷ [])) ≢ 8000000
one_run_has_not_all e = let same : 2000000 ≡ 8000000 = e in omega (arith, same)
