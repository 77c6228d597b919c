use Rattle.std.proofs.Common.{◌≡◌, ◌≤◌, length}
use Rattle.al_phrases.specs.Reading.{casts_from}
use Rattle.al_phrases.proofs.atoms.more_casts.Given as goal

abbrev pub invariant-casts : goal.invariant-casts
invariant-casts l = record {
  read : casts_from l.fn.first l.fn.tokens ≡ casts_from l.left l.rest;
  shorter : length l.rest ≤ length l.fn.tokens;
}

abbrev pub decreases-casts : goal.decreases-casts
decreases-casts l = length l.rest
