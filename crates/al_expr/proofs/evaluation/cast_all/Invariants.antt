use Rattle.std.proofs.Common.{◌≡◌, drop}
use Rattle.al_expr.specs.Evaluation.{casts_value}
use Rattle.al_expr.proofs.evaluation.cast_all.Given as goal

abbrev pub invariant-loop-to : goal.invariant-loop-to
invariant-loop-to l = casts_value l.fn.inner l.casts ≡ casts_value l.value (drop l.to-index l.casts)
