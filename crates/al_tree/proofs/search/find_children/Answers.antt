use Rattle.std.proofs.Common.{◌≡◌, ◌∙◌, ℕ, List, fold, refl, sym, ap}
use Rattle.std.proofs.lemmas.Result.{on_ok_weaker}
use Rattle.al_tree.specs.declared.line.Line.{Line}
use Rattle.al_tree.specs.Lines.{children_in}
use Rattle.al_tree.specs.Met.{Search, found}
use Rattle.al_tree.proofs.LineLemmas.{children-found, children-none}
use Rattle.al_tree.proofs.Searches.{worked}
use Rattle.al_tree.proofs.search.find_children.Goals as goal

pub returns-in-Some-clause-ok : goal.returns-in-Some-clause-ok
returns-in-Some-clause-ok c =
    let before : Search = record { met = c.args.met.now.items; todo = c.args.todo.now.items } in
    let all : c.as_slice.result.now ≡ children_in c.args.lines.now c.args.table =
    c.as_slice.ensures ∙ ap (λ (line : Line). line.children) (sym c.index-lines-at.is)
    ∙ children-found c.args.table c.args.lines.now c.args.lines.now _ _ _ refl c.line_of.ensures c.in-Some.is c.index-lines-at.is in
    on_ok_weaker c.find_each.result (λ e. ap (λ (cs : List ℕ). fold found before cs) (sym all) ∙ e) c.find_each.ensures.ok

pub returns-in-Some-clause-work : goal.returns-in-Some-clause-work
returns-in-Some-clause-work c = worked c.find_each.result c.args.lines.now c.args.table _ _ c.requires.lines (returns-in-Some-clause-ok c)

pub returns-in-None-clause-ok : goal.returns-in-None-clause-ok
returns-in-None-clause-ok c =
    let before : Search = record { met = c.args.met.now.items; todo = c.args.todo.now.items } in
    ap (λ (cs : List ℕ). fold found before cs) (children-none c.args.table c.args.lines.now c.args.lines.now _ refl c.line_of.ensures c.in-None.is)
