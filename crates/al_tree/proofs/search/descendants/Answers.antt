use Rattle.al_tree.proofs.Searches.{begins, goes-on, nothing-left, ends}
use Rattle.al_tree.proofs.search.descendants.Goals as goal

pub loop-next-init : goal.loop-next-init
loop-next-init c = begins c.args.lines.now c.args.table _ _ _ c.new-met.ensures.items c.in_ok-push.ensures.items c.new-todo.ensures.items

pub loop-next-preserved : goal.loop-next-preserved
loop-next-preserved c =
    goes-on c.args.lines.now c.args.table c.in-Some.next _ _ _ _ _ c.requires c.loop-next.invariant c.in-Some.ensures.items c.in_ok-find_children.ensures.ok

pub returns-clause-met : goal.returns-clause-met
returns-clause-met c =
    ends c.args.lines.now c.args.table _ _ c.requires c.loop-next.invariant
    (nothing-left _ _ _ c.in_default.ensures.items c.in_default.ensures.rest c.in_default.ensures.cases.0)
