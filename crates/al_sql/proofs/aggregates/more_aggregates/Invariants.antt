use Rattle.std.proofs.Common.{◌≡◌, ◌≤◌, ◌∷◌, [], length}
use Rattle.al_sql.specs.Queries.{aggregates_from}
use Rattle.al_sql.proofs.aggregates.more_aggregates.Given as goal

abbrev pub invariant-aggregates : goal.invariant-aggregates
invariant-aggregates l = record {
  read : aggregates_from l.fn.depth (l.fn.first ∷ []) l.fn.tokens ≡ aggregates_from l.fn.depth l.all l.rest;
  shorter : length l.rest ≤ length l.fn.tokens;
}

abbrev pub decreases-aggregates : goal.decreases-aggregates
decreases-aggregates l = length l.rest
