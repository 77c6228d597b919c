use Rattle.std.proofs.Common.{◌≡◌, false}
use Rattle.al_history.specs.Hand.{closed}
use Rattle.al_bench.proofs.turn.run_block.Given as goal

abbrev pub invariant-loop-turn : goal.invariant-loop-turn
invariant-loop-turn l = (closed l.engine.past 0 ≡ false) × (l.engine.terms ≡ l.initial.engine.terms)
