use Rattle.al_tree.proofs.Families.{family-listed}
use Rattle.al_tree.proofs.one_way.OneWay.family.Goals as goal

pub returns : goal.returns
returns c =
    family-listed c.args.self.now c.args.table c.listed.result _ _ _ _ c.self.view_is c.deref.ensures.value c.in_ok-met.ensures.ascends c.in_ok-met.ensures.met c.deref-2.ensures.value c.listed.ensures
