use Rattle.std.proofs.Common.{◌≡◌, ◌++◌, drop}
use Rattle.al_schema.specs.Constraints.{involving}
use Rattle.al_schema.proofs.shape.places_of.Given as goal

abbrev pub invariant-loop-at : goal.invariant-loop-at
invariant-loop-at l = l.places ++ involving l.at l.slot l.name (drop l.at l.constraints) ≡ involving 0 l.slot l.name l.constraints
