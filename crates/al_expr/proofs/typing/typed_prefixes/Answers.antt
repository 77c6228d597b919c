use Rattle.std.proofs.Common.{arith, sym, ◌∙◌}
use Rattle.std.proofs.lemmas.Grind.{common_steps}
use Rattle.al_expr.proofs.NominalLemmas.{prefixes_more}
use Rattle.al_expr.proofs.typing.typed_prefixes.Goals as goal

pub loop-place-preserved : goal.loop-place-preserved
loop-place-preserved c = (
  grind (arith, common_steps),
  c.loop-place.invariant.1
      ∙ prefixes_more c.args.prefixes.now c.loop-place.place-index _ c.loop-place.typed c.in_ok-typed.typed c.prefix_kind.result
      c.loop-place-test.true c.prefix_kind.ensures (sym c.in_ok-typed.ensures),
)
