use Rattle.std.proofs.Common.{◌-◌, ◌≡◌, ◌≤◌, ◌<◌, slice_range}
use Rattle.al_spec.specs.Bytes.{at, cut_back}
use Rattle.al_spec.proofs.bytes.cut_to.Given as goal

abbrev pub invariant-loop-to : goal.invariant-loop-to
invariant-loop-to l = record {
  from : l.from ≤ l.to;
  to : l.to ≤ l.close;
  cut : cut_back (slice_range l.text l.from l.close) ≡ cut_back (slice_range l.text l.from l.to);
  small : at l.text l.to < 128;
}

abbrev pub decreases-loop-to : goal.decreases-loop-to
decreases-loop-to l = l.to - l.from
