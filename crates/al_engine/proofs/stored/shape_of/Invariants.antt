use Rattle.std.proofs.Common.{◌≡◌, take}
use Rattle.al_history.specs.Change.{shape_of}
use Rattle.al_engine.proofs.stored.shape_of.Given as goal

abbrev pub invariant-loop-name : goal.invariant-loop-name
invariant-loop-name l = l.shape ≡ shape_of (take l.name-index l.names)
