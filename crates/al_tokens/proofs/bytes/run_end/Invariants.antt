use Rattle.std.proofs.Common.{◌≡◌, ℕ, ◌≤◌, ◌<◌, ◌-◌, true, length}
use Rattle.al_tokens.specs.Bytes.{at, is_of}
use Rattle.al_tokens.proofs.bytes.run_end.Given as goal

abbrev pub invariant-loop-end : goal.invariant-loop-end
invariant-loop-end l = record {
  rises : l.from ≤ l.end;
  within : l.end ≤ length l.text;
  each : (k : ℕ) → l.from ≤ k → k < l.end → is_of l.class (at l.text k) ≡ true;
}

abbrev pub decreases-loop-end : goal.decreases-loop-end
decreases-loop-end l = length l.text - l.end
