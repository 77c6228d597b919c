use Rattle.std.proofs.Common.{◌≡◌, drop}
use Rattle.al_expr.specs.Evaluation.{tests_value}
use Rattle.al_expr.proofs.evaluation.valued_tests.Given as goal

abbrev pub invariant-loop-negated : goal.invariant-loop-negated
invariant-loop-negated l = tests_value l.fn.inner l.tests ≡ tests_value l.value (drop l.negated-index l.tests)
