use Rattle.al_tree.proofs.Turned.{ancestor-turned}
use Rattle.al_tree.proofs.tree.Tree.is_ancestor.Goals as goal

pub returns : goal.returns
returns c = ancestor-turned c.args.self.now _ _ c.args.table c.args.of c.descends.result c.self.view_is c.self.invariant c.descends.ensures
