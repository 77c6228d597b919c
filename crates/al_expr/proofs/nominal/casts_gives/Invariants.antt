use Rattle.std.proofs.Common.{◌≡◌, drop}
use Rattle.al_expr.specs.Nominal.{casts_gives}
use Rattle.al_expr.proofs.nominal.casts_gives.Given as goal

abbrev pub invariant-loop-to : goal.invariant-loop-to
invariant-loop-to l = casts_gives l.fn.inner l.casts ≡ casts_gives l.typed (drop l.to-index l.casts)
