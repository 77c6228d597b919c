use Rattle.std.proofs.Common.{◌≡◌, ◌≤◌, ◌∷◌, [], length}
use Rattle.al_sql.specs.Tables.{targets_from}
use Rattle.al_sql.proofs.locks.more_targets.Given as goal

abbrev pub invariant-targets : goal.invariant-targets
invariant-targets l = record {
  read : targets_from (l.fn.first ∷ []) l.fn.tokens ≡ targets_from l.all l.rest;
  shorter : length l.rest ≤ length l.fn.tokens;
}

abbrev pub decreases-targets : goal.decreases-targets
decreases-targets l = length l.rest
