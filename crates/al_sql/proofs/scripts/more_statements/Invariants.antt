use Rattle.std.proofs.Common.{◌≡◌, ◌≤◌, length}
use Rattle.al_sql.specs.Scripts.{statements_from}
use Rattle.al_sql.proofs.scripts.more_statements.Given as goal

abbrev pub invariant-statements : goal.invariant-statements
invariant-statements l = record {
  read : statements_from l.fn.depth l.fn.first l.fn.tokens ≡ statements_from l.fn.depth l.all l.rest;
  shorter : length l.rest ≤ length l.fn.tokens;
}

abbrev pub decreases-statements : goal.decreases-statements
decreases-statements l = length l.rest
