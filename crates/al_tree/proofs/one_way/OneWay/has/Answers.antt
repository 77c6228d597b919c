use Rattle.std.proofs.Common.{◌∙◌, refl, sym}
use Rattle.al_tree.proofs.Circles.{is-link}
use Rattle.al_tree.proofs.one_way.OneWay.has.Goals as goal

pub returns : goal.returns
returns c = c.is_among.ensures ∙ sym (is-link c.args.self.now c.args.child c.args.parent _ _ c.children.ensures.value c.as_slice.ensures refl)
