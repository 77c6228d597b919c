use Rattle.std.proofs.Common.{[], ◌≡◌, drop}
use Rattle.al_app.specs.Built.{all_from, slot_value}
use Rattle.al_app.proofs.built.slot_values.Given as goal

abbrev pub invariant-loop-slot : goal.invariant-loop-slot
invariant-loop-slot l = all_from slot_value [] l.slots ≡ all_from slot_value l.row (drop l.slot-index l.slots)
