use Rattle.std.proofs.Common.{◌-◌, ◌≡◌, ◌≤◌, slice_range}
use Rattle.std.specs.Prelude.{IsCharBoundary}
use Rattle.al_spec.specs.Bytes.{cut_front}
use Rattle.al_spec.proofs.bytes.cut_from.Given as goal

abbrev pub invariant-loop-from : goal.invariant-loop-from
invariant-loop-from l = record {
  rises : l.from ≤ l.close;
  cut : cut_front (slice_range l.text l.start l.close) ≡ cut_front (slice_range l.text l.from l.close);
  boundary : IsCharBoundary l.text l.from;
}

abbrev pub decreases-loop-from : goal.decreases-loop-from
decreases-loop-from l = l.close - l.from
