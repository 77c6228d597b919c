use Rattle.std.proofs.Common.{subst}
use Rattle.al_tree.specs.Links.{HasOneLess}
use Rattle.al_tree.proofs.Circles.{less-no-circle}
use Rattle.al_tree.proofs.tree.Tree.unlink.Goals as goal

pub returns-clause-circles : goal.returns-clause-circles
returns-clause-circles c =
    less-no-circle c.args.self.now c.unlink-2.new.self c.args.child c.args.parent (subst (λ links. HasOneLess links c.unlink-2.new.self c.args.child c.args.parent) c.self.view_is c.unlink-2.ensures.links)
