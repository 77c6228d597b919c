use Rattle.std.proofs.Common.{◌≡◌, drop}
use Rattle.al_expr.specs.Nominal.{casts_gives}
use Rattle.al_expr.specs.Typing.{casts_kind}
use Rattle.al_expr.proofs.typing.typed_casts.Given as goal

abbrev pub invariant-loop-place : goal.invariant-loop-place
invariant-loop-place l =
    (casts_kind l.fn.inner l.casts ≡ casts_kind l.typed (drop l.place-index l.casts))
    × (casts_gives l.fn.inner l.casts ≡ casts_gives l.typed (drop l.place-index l.casts))
