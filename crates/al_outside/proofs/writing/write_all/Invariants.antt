use Rattle.std.proofs.Common.{◌≡◌, ◌≤◌, ◌-◌, length, take}
use Rattle.al_outside.specs.Holding.{Grows}
use Rattle.al_outside.proofs.writing.write_all.Given as goal

abbrev pub invariant-writes : goal.invariant-writes
invariant-writes g l = record {
  within : l.at ≤ length l.text;
  grown : Grows (g.S.Sink.held l.initial.sink) (g.S.Sink.held l.sink) (take l.at l.text);
  still : g.S.Sink.faults l.sink ≡ g.S.Sink.faults l.initial.sink;
}

abbrev pub decreases-writes : goal.decreases-writes
decreases-writes g l = length l.text - l.at
