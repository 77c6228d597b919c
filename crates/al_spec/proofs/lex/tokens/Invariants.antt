use Rattle.std.proofs.Common.{length, ◌-◌, ◌≤◌}
use Rattle.std.specs.Prelude.{IsCharBoundary}
use Rattle.al_spec.specs.Tokens.{Reads}
use Rattle.al_spec.proofs.lex.tokens.Given as goal

abbrev pub invariant-loop-place : goal.invariant-loop-place
invariant-loop-place l = record {
  within : l.place ≤ length l.text;
  boundary : IsCharBoundary l.text l.place;
  reads : Reads l.text l.place 0 l.tokens;
}

abbrev pub decreases-loop-place : goal.decreases-loop-place
decreases-loop-place l = length l.text - l.place
