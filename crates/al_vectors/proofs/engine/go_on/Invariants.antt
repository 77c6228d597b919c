use Rattle.std.proofs.Common.{◌≡◌, ℕ}
use Rattle.al_history.specs.Hand.{closed}
use Rattle.al_vectors.proofs.engine.go_on.Given as goal

abbrev pub invariant-loop : goal.invariant-loop
invariant-loop l = ((s : ℕ) → closed l.engine.past s ≡ closed l.initial.engine.past s) × (l.engine.terms ≡ l.initial.engine.terms)
