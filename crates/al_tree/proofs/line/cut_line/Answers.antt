use Rattle.std.proofs.Common.{sym, subst}
use Rattle.al_tree.specs.Ascending.{Ascends, without}
use Rattle.al_tree.proofs.LineLemmas.{ascend-in, changed-line, children-found, none-changed}
use Rattle.al_tree.proofs.line.cut_line.Goals as goal

pub returns-in-Some : goal.returns-in-Some
returns-in-Some c =
    changed-line c.args.parent (without c.args.child) _ _ _ _ _ _ c.deref.ensures.value c.line_of.ensures c.in-Some.is c.index_mut.ensures.value c.cut_child.ensures

pub returns-in_default : goal.returns-in_default
returns-in_default c = sym (none-changed c.args.parent (without c.args.child) _ _ _ c.deref.ensures.value c.line_of.ensures c.in_default.is)

pub cut_child-requires : goal.cut_child-requires
cut_child-requires c =
    subst Ascends (sym (children-found c.args.parent _ _ _ _ _ c.deref.ensures.value c.line_of.ensures c.in-Some.is c.index_mut.ensures.value)) (ascend-in c.args.parent _ c.requires.children)
