use Rattle.std.proofs.lemmas.Bool.{iff_false}
use Rattle.al_tree.proofs.Circles.{no-fault, more-no-circle}
use Rattle.al_tree.proofs.tree.Tree.link.Goals as goal

pub returns-clause-circles : goal.returns-clause-circles
returns-clause-circles c =
    more-no-circle _ _ c.args.child c.args.parent c.in_ok-note.ensures.ok (iff_false c.in_ok-closes.ensures (no-fault _ _ _ c.fault_of.ensures c.in_default.is))
