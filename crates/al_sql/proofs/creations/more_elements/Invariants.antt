use Rattle.std.proofs.Common.{◌≡◌, ◌≤◌, ◌∷◌, [], length}
use Rattle.al_sql.specs.Tables.{elements_from}
use Rattle.al_sql.proofs.creations.more_elements.Given as goal

abbrev pub invariant-elements : goal.invariant-elements
invariant-elements l = record {
  read : elements_from l.fn.depth (l.fn.first ∷ []) l.fn.tokens ≡ elements_from l.fn.depth l.all l.rest;
  shorter : length l.rest ≤ length l.fn.tokens;
}

abbrev pub decreases-elements : goal.decreases-elements
decreases-elements l = length l.rest
