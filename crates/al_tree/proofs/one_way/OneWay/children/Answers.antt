use Rattle.std.proofs.Common.{◌∙◌, sym, ap, subst, List}
use Rattle.al_tree.specs.Ascending.{Ascends}
use Rattle.al_tree.specs.Links.{Inherits, children_of}
use Rattle.al_tree.proofs.LineLemmas.{children-found, children-none, children-are, ascend-in}
use Rattle.al_tree.proofs.one_way.OneWay.children.Goals as goal

pub returns-in-Some-clause-value : goal.returns-in-Some-clause-value
returns-in-Some-clause-value c =
    children-found c.args.table _ _ _ _ _ c.deref.ensures.value c.line_of.ensures c.in-Some.is c.index.ensures
    ∙ sym (children-are c.args.table _ c.self.invariant.0.tables) ∙ ap (λ (ls : List Inherits). children_of ls c.args.table) c.self.view_is

pub returns-in-Some-clause-ascends : goal.returns-in-Some-clause-ascends
returns-in-Some-clause-ascends c =
    subst Ascends (sym (children-found c.args.table _ _ _ _ _ c.deref.ensures.value c.line_of.ensures c.in-Some.is c.index.ensures))
    (ascend-in c.args.table _ c.self.invariant.0.children)

pub returns-in-None-clause-value : goal.returns-in-None-clause-value
returns-in-None-clause-value c =
    c.self.invariant.1 ∙ sym (children-none c.args.table _ _ _ c.deref.ensures.value c.line_of.ensures c.in-None.is)
    ∙ sym (children-are c.args.table _ c.self.invariant.0.tables) ∙ ap (λ (ls : List Inherits). children_of ls c.args.table) c.self.view_is
