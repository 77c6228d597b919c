use Rattle.std.proofs.Common.{◌≡◌, ℕ, false}
use Rattle.al_history.specs.Hand.{closed}
use Rattle.al_vectors.proofs.engine.insert_often.Given as goal

abbrev pub invariant-loop : goal.invariant-loop
invariant-loop l = ((s : ℕ) → closed l.engine.past s ≡ false) × (l.engine.terms ≡ l.initial.engine.terms)
