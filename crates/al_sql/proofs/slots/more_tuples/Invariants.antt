use Rattle.std.proofs.Common.{◌≡◌, ◌≤◌, ◌∷◌, [], length}
use Rattle.al_sql.specs.Rows.{tuples_from}
use Rattle.al_sql.proofs.slots.more_tuples.Given as goal

abbrev pub invariant-tuples : goal.invariant-tuples
invariant-tuples l = record {
  read : tuples_from l.fn.depth (l.fn.first ∷ []) l.fn.tokens ≡ tuples_from l.fn.depth l.all l.rest;
  shorter : length l.rest ≤ length l.fn.tokens;
}

abbrev pub decreases-tuples : goal.decreases-tuples
decreases-tuples l = length l.rest
