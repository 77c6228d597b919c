use Rattle.std.proofs.Common.{◌≡◌, false}
use Rattle.al_history.specs.Hand.{closed}
use Rattle.al_bench.proofs.turn.go_on.Given as goal

abbrev pub invariant-loop : goal.invariant-loop
invariant-loop l = (closed l.engine.past 0 ≡ false) × (l.engine.terms ≡ l.initial.engine.terms)
