use Rattle.std.proofs.Common.{◌≡◌, drop}
use Rattle.al_expr.specs.Nominal.{prefixed_gives}
use Rattle.al_expr.specs.Typing.{prefixed_kind}
use Rattle.al_expr.proofs.typing.typed_prefixes.Given as goal

abbrev pub invariant-loop-place : goal.invariant-loop-place
invariant-loop-place l =
    (prefixed_kind l.fn.inner l.prefixes ≡ prefixed_kind l.typed (drop l.place-index l.prefixes))
    × (prefixed_gives l.fn.inner l.prefixes ≡ prefixed_gives l.typed (drop l.place-index l.prefixes))
