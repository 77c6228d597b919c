use Rattle.std.proofs.Common.{◌≡◌, ◌++◌, drop}
use Rattle.al_schema.specs.Slots.{columns_of}
use Rattle.al_schema.proofs.rows.columns_of.Given as goal

abbrev pub invariant-loop-slot : goal.invariant-loop-slot
invariant-loop-slot l = l.columns ++ columns_of (drop l.slot-index l.slots) ≡ columns_of l.slots
