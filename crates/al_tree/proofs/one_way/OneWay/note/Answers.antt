use Rattle.std.proofs.Common.{◌≡◌, ◌∙◌, sym, ap, subst, false, List}
use Rattle.std.proofs.lemmas.Result.{on_ok_weaker, on_err_weaker}
use Rattle.al_tree.specs.declared.line.Line.{Line}
use Rattle.al_tree.specs.Links.{has_link, HasOneMore}
use Rattle.al_tree.specs.Lines.{AreLines, links_in}
use Rattle.al_tree.proofs.Circles.{Lined, lined, Noted, noted, there-already, kept-either, told-err}
use Rattle.al_tree.proofs.one_way.OneWay.note.Goals as goal

pub returns-then-has-clause-ok : goal.returns-then-has-clause-ok
returns-then-has-clause-ok c =
    there-already c.args.self.now c.args.child c.args.parent (sym c.has.ensures ∙ c.if-has.true)

pub invariant_of-self-in_err-add_line-2 : goal.invariant_of-self-in_err-add_line-2
invariant_of-self-in_err-add_line-2 c =
    let one : Lined c.self.inside.lines.items c.add_line.new.lines.items c.args.child = lined _ _ _ c.in_ok-add_line.ensures.ok c.self.invariant.0 in
    (subst AreLines (sym c.in_err-add_line-2.ensures.err) one.are, c.self.invariant.1)

pub returns-in_err-add_line-2-clause-err : goal.returns-in_err-add_line-2-clause-err
returns-in_err-add_line-2-clause-err c =
    let one : Lined c.self.inside.lines.items c.add_line.new.lines.items c.args.child = lined _ _ _ c.in_ok-add_line.ensures.ok c.self.invariant.0 in
    told-err c.from_residual-in_err-add_line-2.result (ap links_in c.in_err-add_line-2.ensures.err ∙ one.links ∙ c.self.view_is)

pub invariant_of-self-2 : goal.invariant_of-self-2
invariant_of-self-2 c =
    let out : has_link c.args.self.now c.args.child c.args.parent ≡ false = sym c.has.ensures ∙ c.if-has.false in
    let one : Lined c.self.inside.lines.items c.add_line.new.lines.items c.args.child = lined _ _ _ c.in_ok-add_line.ensures.ok c.self.invariant.0 in
    let two : Lined c.add_line.new.lines.items c.add_line-2.new.lines.items c.args.parent = lined _ _ _ c.in_ok-add_line-2.ensures.ok one.are in
    let n : Noted c.args.self.now c.add_line-2.new.lines.items c.args.child c.args.parent = noted _ _ _ _ _ _ c.self.invariant.0 c.self.view_is out one two in
    (kept-either c.add_child.result AreLines _ _ _ c.add_child.ensures.ok c.add_child.ensures.err n.more_are n.are, c.self.invariant.1)

pub returns-clause-ok : goal.returns-clause-ok
returns-clause-ok c =
    let out : has_link c.args.self.now c.args.child c.args.parent ≡ false = sym c.has.ensures ∙ c.if-has.false in
    let one : Lined c.self.inside.lines.items c.add_line.new.lines.items c.args.child = lined _ _ _ c.in_ok-add_line.ensures.ok c.self.invariant.0 in
    let two : Lined c.add_line.new.lines.items c.add_line-2.new.lines.items c.args.parent = lined _ _ _ c.in_ok-add_line-2.ensures.ok one.are in
    let n : Noted c.args.self.now c.add_line-2.new.lines.items c.args.child c.args.parent = noted _ _ _ _ _ _ c.self.invariant.0 c.self.view_is out one two in
    on_ok_weaker c.add_child.result (λ e. subst (λ (ls : List Line). HasOneMore c.args.self.now (links_in ls) c.args.child c.args.parent) (sym e) n.more) c.add_child.ensures.ok

pub returns-clause-err : goal.returns-clause-err
returns-clause-err c =
    let out : has_link c.args.self.now c.args.child c.args.parent ≡ false = sym c.has.ensures ∙ c.if-has.false in
    let one : Lined c.self.inside.lines.items c.add_line.new.lines.items c.args.child = lined _ _ _ c.in_ok-add_line.ensures.ok c.self.invariant.0 in
    let two : Lined c.add_line.new.lines.items c.add_line-2.new.lines.items c.args.parent = lined _ _ _ c.in_ok-add_line-2.ensures.ok one.are in
    let n : Noted c.args.self.now c.add_line-2.new.lines.items c.args.child c.args.parent = noted _ _ _ _ _ _ c.self.invariant.0 c.self.view_is out one two in
    on_err_weaker c.add_child.result (λ e. ap links_in e ∙ n.same) c.add_child.ensures.err

pub add_line-requires-2 : goal.add_line-requires-2
add_line-requires-2 c =
    let one : Lined c.self.inside.lines.items c.add_line.new.lines.items c.args.child = lined _ _ _ c.in_ok-add_line.ensures.ok c.self.invariant.0 in
    one.are.tables

pub add_child-requires-clause-tables : goal.add_child-requires-clause-tables
add_child-requires-clause-tables c =
    let one : Lined c.self.inside.lines.items c.add_line.new.lines.items c.args.child = lined _ _ _ c.in_ok-add_line.ensures.ok c.self.invariant.0 in
    let two : Lined c.add_line.new.lines.items c.add_line-2.new.lines.items c.args.parent = lined _ _ _ c.in_ok-add_line-2.ensures.ok one.are in
    two.are.tables

pub add_child-requires-clause-children : goal.add_child-requires-clause-children
add_child-requires-clause-children c =
    let one : Lined c.self.inside.lines.items c.add_line.new.lines.items c.args.child = lined _ _ _ c.in_ok-add_line.ensures.ok c.self.invariant.0 in
    let two : Lined c.add_line.new.lines.items c.add_line-2.new.lines.items c.args.parent = lined _ _ _ c.in_ok-add_line-2.ensures.ok one.are in
    two.are.children
