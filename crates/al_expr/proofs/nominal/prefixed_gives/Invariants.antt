use Rattle.std.proofs.Common.{◌≡◌, drop}
use Rattle.al_expr.specs.Nominal.{prefixed_gives}
use Rattle.al_expr.proofs.nominal.prefixed_gives.Given as goal

abbrev pub invariant-loop-prefix : goal.invariant-loop-prefix
invariant-loop-prefix l = prefixed_gives l.fn.inner l.prefixes ≡ prefixed_gives l.typed (drop l.prefix-index l.prefixes)
