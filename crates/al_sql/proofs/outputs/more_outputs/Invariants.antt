use Rattle.std.proofs.Common.{◌≡◌, ◌≤◌, ◌∷◌, [], length}
use Rattle.al_sql.specs.Queries.{outputs_from}
use Rattle.al_sql.proofs.outputs.more_outputs.Given as goal

abbrev pub invariant-outputs : goal.invariant-outputs
invariant-outputs l = record {
  read : outputs_from l.fn.depth (l.fn.first ∷ []) l.fn.tokens ≡ outputs_from l.fn.depth l.all l.rest;
  shorter : length l.rest ≤ length l.fn.tokens;
}

abbrev pub decreases-outputs : goal.decreases-outputs
decreases-outputs l = length l.rest
