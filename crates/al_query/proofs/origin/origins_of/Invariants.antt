use Rattle.std.proofs.Common.{◌≡◌, ◌++◌, drop}
use Rattle.al_query.specs.Origins.{origins_of, origins_from}
use Rattle.al_query.proofs.origin.origins_of.Given as goal

abbrev pub invariant-loop-at : goal.invariant-loop-at
invariant-loop-at l = l.origins ++ origins_from l.at (drop l.at l.slots) ≡ origins_of l.slots
