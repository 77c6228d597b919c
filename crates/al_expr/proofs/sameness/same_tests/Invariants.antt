use Rattle.std.proofs.Common.{◌≡◌, take}
use Rattle.al_expr.proofs.sameness.same_tests.Given as goal

abbrev pub invariant-loop-at : goal.invariant-loop-at
invariant-loop-at l = take l.at l.tests ≡ take l.at l.others
