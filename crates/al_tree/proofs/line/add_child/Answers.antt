use Rattle.std.proofs.Common.{sym, subst}
use Rattle.std.proofs.lemmas.Result.{on_ok_weaker}
use Rattle.al_tree.specs.Ascending.{Ascends, put}
use Rattle.al_tree.proofs.LineLemmas.{ascend-in, changed-line, children-found, none-changed}
use Rattle.al_tree.proofs.line.add_child.Goals as goal

pub returns-in-Some-clause-ok : goal.returns-in-Some-clause-ok
returns-in-Some-clause-ok c =
    on_ok_weaker c.put_child.result
    (λ e. changed-line c.args.parent (put c.args.child) _ _ _ _ _ _ c.deref.ensures.value c.line_of.ensures c.in-Some.is c.index_mut.ensures.value e) c.put_child.ensures.ok

pub returns-in-None-clause-ok : goal.returns-in-None-clause-ok
returns-in-None-clause-ok c = sym (none-changed c.args.parent (put c.args.child) _ _ _ c.deref.ensures.value c.line_of.ensures c.in-None.is)

pub put_child-requires : goal.put_child-requires
put_child-requires c =
    subst Ascends (sym (children-found c.args.parent _ _ _ _ _ c.deref.ensures.value c.line_of.ensures c.in-Some.is c.index_mut.ensures.value)) (ascend-in c.args.parent _ c.requires.children)
