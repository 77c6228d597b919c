use Rattle.std.proofs.Common.{◌≡◌, ℕ, ◌≤◌, ◌<◌, ◌-◌, true, length}
use Rattle.al_spec.specs.Bytes.{at, goes_on}
use Rattle.al_spec.proofs.bytes.run_end.Given as goal

abbrev pub invariant-loop-end : goal.invariant-loop-end
invariant-loop-end l = record {
  rises : l.from ≤ l.end;
  within : l.end ≤ length l.text;
  each : (k : ℕ) → l.from ≤ k → k < l.end → goes_on (at l.text k) ≡ true;
}

abbrev pub decreases-loop-end : goal.decreases-loop-end
decreases-loop-end l = length l.text - l.end
