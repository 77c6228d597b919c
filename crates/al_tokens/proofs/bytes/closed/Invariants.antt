use Rattle.std.proofs.Common.{ℕ, ◌≤◌, ◌-◌, length}
use Rattle.al_tokens.specs.Bytes.{Closed}
use Rattle.al_tokens.proofs.bytes.closed.Given as goal

abbrev pub invariant-loop-place : goal.invariant-loop-place
invariant-loop-place l = record {
  rises : l.from ≤ l.place;
  within : l.place ≤ length l.text;
  to : (end : ℕ) → Closed l.quote l.text end l.place → Closed l.quote l.text end l.from;
  back : (end : ℕ) → Closed l.quote l.text end l.from → Closed l.quote l.text end l.place;
}

abbrev pub decreases-loop-place : goal.decreases-loop-place
decreases-loop-place l = length l.text - l.place
