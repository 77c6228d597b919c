use Rattle.std.proofs.Common.{◌≡◌, drop}
use Rattle.al_expr.specs.Evaluation.{prefixed_value}
use Rattle.al_expr.proofs.evaluation.prefixed.Given as goal

abbrev pub invariant-loop-prefix : goal.invariant-loop-prefix
invariant-loop-prefix l =
    prefixed_value l.fn.inner_type l.fn.inner l.prefixes ≡ prefixed_value l.typed l.value (drop l.prefix-index l.prefixes)
