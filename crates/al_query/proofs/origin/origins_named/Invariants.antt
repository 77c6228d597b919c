use Rattle.std.proofs.Common.{◌≡◌, ◌++◌, drop}
use Rattle.al_query.specs.Origins.{origins_named}
use Rattle.al_query.proofs.origin.origins_named.Given as goal

abbrev pub invariant-loop-name : goal.invariant-loop-name
invariant-loop-name l = l.origins ++ origins_named l.shape.slots (drop l.name-index l.names) ≡ origins_named l.shape.slots l.names
