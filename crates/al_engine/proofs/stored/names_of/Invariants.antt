use Rattle.std.proofs.Common.{◌≡◌, take}
use Rattle.al_engine.specs.Stored.{names_of}
use Rattle.al_engine.proofs.stored.names_of.Given as goal

abbrev pub invariant-loop-column : goal.invariant-loop-column
invariant-loop-column l = l.names ≡ names_of (take l.column-index l.columns)
