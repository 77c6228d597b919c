use Rattle.std.proofs.Common.{◌≤◌, ◌-◌, length}
use Rattle.al_tokens.specs.Tokens.{Reads}
use Rattle.al_tokens.proofs.read.read.Given as goal

abbrev pub invariant-loop-place : goal.invariant-loop-place
invariant-loop-place l = record {
  within : l.place ≤ length l.text;
  reads : Reads l.text l.place 0 l.tokens;
}

abbrev pub decreases-loop-place : goal.decreases-loop-place
decreases-loop-place l = length l.text - l.place
