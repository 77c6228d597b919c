use Rattle.std.proofs.Common.{◌≡◌, ◌≤◌, [], take, drop}
use Rattle.al_history.specs.Cause.{columns_cause}
use Rattle.al_engine.proofs.causes.columns_cause.Given as goal

abbrev pub invariant-loop-at : goal.invariant-loop-at
invariant-loop-at l = (l.at ≤ 200) × (columns_cause [] l.names ≡ columns_cause (take l.at l.names) (drop l.at l.names))
