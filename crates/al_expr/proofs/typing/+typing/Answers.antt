use Rattle.std.proofs.Common.{arith, sym, ◌∙◌}
use Rattle.std.proofs.lemmas.Grind.{common_steps}
use Rattle.al_expr.specs.Typing.{links_kinds}
use Rattle.al_expr.proofs.NominalLemmas.{links_more}
use Rattle.al_expr.proofs.typing.+typing.Goals as goal

pub typed_chain-loop-link-preserved : goal.typed_chain-loop-link-preserved
unfolding links_kinds
typed_chain-loop-link-preserved t c = (
  grind (arith, common_steps),
  c.loop-link.invariant.1
      ∙ links_more c.args.columns.now c.args.links.now c.loop-link.link-index c.link-item.result c.loop-link.left c.in_ok-right.right c.in_ok-left.left
      c.operator_kind.result c.loop-link-test.true c.link-item.is c.in_ok-right.ensures.nominal c.operator_kind.ensures (sym c.in_ok-left.ensures),
)
