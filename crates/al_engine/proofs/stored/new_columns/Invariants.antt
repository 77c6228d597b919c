use Rattle.std.proofs.Common.{◌≡◌, take, map}
use Rattle.al_history.specs.Change.{shape_of}
use Rattle.al_history.specs.Store.{slots_of}
use Rattle.al_engine.specs.Stored.{slot_of}
use Rattle.al_engine.proofs.stored.new_columns.Given as goal

abbrev pub invariant-loop-name : goal.invariant-loop-name
invariant-loop-name l = map slot_of l.columns ≡ slots_of l.maker (shape_of (take l.name-index l.names))
