use Rattle.std.proofs.Common.{◌≡◌, ◌≤◌, ◌∷◌, [], length}
use Rattle.al_sql.specs.Rows.{values_from}
use Rattle.al_sql.proofs.inserts.more_values.Given as goal

abbrev pub invariant-values : goal.invariant-values
invariant-values l = record {
  read : values_from l.fn.depth (l.fn.first ∷ []) l.fn.tokens ≡ values_from l.fn.depth l.all l.rest;
  shorter : length l.rest ≤ length l.fn.tokens;
}

abbrev pub decreases-values : goal.decreases-values
decreases-values l = length l.rest
