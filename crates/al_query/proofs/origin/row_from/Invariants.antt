use Rattle.std.proofs.Common.{◌≡◌, ◌++◌, drop}
use Rattle.al_query.specs.Origins.{row_from}
use Rattle.al_query.proofs.origin.row_from.Given as goal

abbrev pub invariant-loop-origin : goal.invariant-loop-origin
invariant-loop-origin l = l.row ++ row_from (drop l.origin-index l.origins) l.stored ≡ row_from l.origins l.stored
