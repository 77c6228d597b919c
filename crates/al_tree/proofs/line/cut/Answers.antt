use Rattle.std.proofs.Common.{◌∙◌}
use Rattle.al_tree.proofs.Sorted.{removed, none-removed}
use Rattle.al_tree.proofs.line.cut.Goals as goal

pub returns-in-Some : goal.returns-in-Some
returns-in-Some c = c.remove.ensures.items ∙ removed c.args.number _ _ _ _ c.deref.ensures.value c.place_of.ensures c.in-Some.is c.requires

pub returns-in_default : goal.returns-in_default
returns-in_default c = none-removed c.args.number _ _ _ c.deref.ensures.value c.place_of.ensures c.in_default.is
