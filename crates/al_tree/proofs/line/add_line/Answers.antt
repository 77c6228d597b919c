use Rattle.std.proofs.Common.{◌≡◌, ◌∙◌, sym, ap, true, false, ℕ, List}
use Rattle.std.proofs.lemmas.Bool.{cond-true, cond-false}
use Rattle.al_tree.specs.Lines.{has_line, put_line}
use Rattle.al_tree.proofs.LineLemmas.{has-line_is, placed}
use Rattle.al_tree.proofs.line.add_line.Goals as goal

pub returns-then-is_some-clause-ok : goal.returns-then-is_some-clause-ok
returns-then-is_some-clause-ok c =
    let there : has_line c.args.lines.now.items c.args.table ≡ true = has-line_is c.args.table _ _ _ c.deref.ensures.value c.line_of.ensures (sym c.is_some.ensures ∙ c.if-is_some.true) in
    sym (cond-true _ _ _ there)

pub returns-clause-ok : goal.returns-clause-ok
returns-clause-ok c =
    let none : has_line c.args.lines.now.items c.args.table ≡ false = has-line_is c.args.table _ _ _ c.deref.ensures.value c.line_of.ensures (sym c.is_some.ensures ∙ c.if-is_some.false) in
    c.in_ok-insert.ensures.items ∙ placed (record { table = c.args.table; children = c.new.result }) _ _ _ c.deref-2.ensures.value c.place_for-at.ensures.value ∙ ap (λ (cs : List ℕ). put_line (record { table = c.args.table; children = cs }) c.args.lines.now.items) c.new.ensures ∙ sym (cond-false _ _ _ none)
