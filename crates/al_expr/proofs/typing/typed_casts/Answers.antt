use Rattle.std.proofs.Common.{arith, sym, ◌∙◌}
use Rattle.std.proofs.lemmas.Grind.{common_steps}
use Rattle.al_expr.proofs.NominalLemmas.{casts_more}
use Rattle.al_expr.proofs.typing.typed_casts.Goals as goal

pub loop-place-preserved : goal.loop-place-preserved
loop-place-preserved c = (
  grind (arith, common_steps),
  c.loop-place.invariant.1
      ∙ casts_more c.args.casts.now c.loop-place.place-index _ c.loop-place.typed c.in_ok-typed.typed c.cast_kind.result c.loop-place-test.true
      c.cast_kind.ensures (sym c.in_ok-typed.ensures),
)
