use Rattle.std.proofs.Common.{◌≡◌, ◌+◌, drop}
use Rattle.al_history.specs.Weight.{rows_weight}
use Rattle.al_engine.proofs.weights.rows_weight.Given as goal

abbrev pub invariant-loop-row : goal.invariant-loop-row
invariant-loop-row l = l.weight + rows_weight (drop l.row-index l.rows) ≡ rows_weight l.rows
