use Rattle.std.proofs.Common.{◌≡◌, ◌≤◌, length}
use Rattle.al_phrases.specs.Reading.{tests_from}
use Rattle.al_phrases.proofs.ranges.more_tests.Given as goal

abbrev pub invariant-tests : goal.invariant-tests
invariant-tests l = record {
  read : tests_from l.fn.first l.fn.tokens ≡ tests_from l.left l.rest;
  shorter : length l.rest ≤ length l.fn.tokens;
}

abbrev pub decreases-tests : goal.decreases-tests
decreases-tests l = length l.rest
