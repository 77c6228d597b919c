use Rattle.std.proofs.Common.{◌≡◌, ◌≤◌, ◌∷◌, [], length}
use Rattle.al_sql.specs.Rows.{assignments_from}
use Rattle.al_sql.proofs.changes.more_assignments.Given as goal

abbrev pub invariant-assignments : goal.invariant-assignments
invariant-assignments l = record {
  read : assignments_from l.fn.depth (l.fn.first ∷ []) l.fn.tokens ≡ assignments_from l.fn.depth l.all l.rest;
  shorter : length l.rest ≤ length l.fn.tokens;
}

abbrev pub decreases-assignments : goal.decreases-assignments
decreases-assignments l = length l.rest
