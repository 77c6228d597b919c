use Rattle.std.proofs.Common.{◌≡◌, ◌≤◌, length}
use Rattle.al_phrases.specs.Reading.{ors_from}
use Rattle.al_phrases.proofs.levels.Levels.more_ors.Given as goal

abbrev pub invariant-links : goal.invariant-links
invariant-links g l = record {
  read : ors_from l.self.depth l.fn.first l.fn.tokens ≡ ors_from l.self.depth l.left l.rest;
  shorter : length l.rest ≤ length l.fn.tokens;
}

abbrev pub decreases-links : goal.decreases-links
decreases-links g l = length l.rest
