use Rattle.std.proofs.Common.{sym, subst, List}
use Rattle.al_tree.specs.declared.line.Line.{Line}
use Rattle.al_tree.specs.Ascending.{without}
use Rattle.al_tree.specs.Links.{Inherits, HasOneLess}
use Rattle.al_tree.specs.Lines.{AreLines, links_in, with_children}
use Rattle.al_tree.proofs.Circles.{less-are_lines, less-links}
use Rattle.al_tree.proofs.one_way.OneWay.unlink.Goals as goal

pub invariant_of-self : goal.invariant_of-self
invariant_of-self c = (subst AreLines (sym c.cut_line.ensures) (less-are_lines c.self.inside.lines.items c.args.child c.args.parent c.self.invariant.0), c.self.invariant.1)

pub returns-clause-links : goal.returns-clause-links
returns-clause-links c =
    subst (λ (ls : List Line). HasOneLess c.args.self.now (links_in ls) c.args.child c.args.parent) (sym c.cut_line.ensures)
    (subst (λ (links : List Inherits). HasOneLess links (links_in (with_children c.args.parent (without c.args.child) c.self.inside.lines.items)) c.args.child c.args.parent) c.self.view_is
    (less-links c.self.inside.lines.items c.args.child c.args.parent c.self.invariant.0))
