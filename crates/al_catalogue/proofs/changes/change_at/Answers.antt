use Rattle.std.proofs.Common.{◌∙◌, sym, ap, subst, List, Option, slice_set}
use Rattle.al_catalogue.specs.declared.entry.Own.{Own}
use Rattle.al_catalogue.specs.declared.entry.Kept.{Kept}
use Rattle.al_catalogue.specs.Indexed.{AreExact, AreExactBut, named_in, with_own}
use Rattle.al_catalogue.proofs.Indexing.{set-at_place}
use Rattle.al_catalogue.proofs.Exact.{got, exact-replaced, exact-first}
use Rattle.al_catalogue.proofs.changes.change_at.Goals as goal

pub returns-in-Some-clause-tables : goal.returns-in-Some-clause-tables
returns-in-Some-clause-tables c =
    let kept : Kept = c.index_mut.result.now in
    ap (λ (o : Option Own). slice_set c.args.tables.now.items c.args.at (record { number = kept.number; committed = kept.committed; own = o })) c.replace-before.ensures.after
    ∙ set-at_place (with_own c.args.own) c.args.tables.now.items c.args.at kept c.requires c.index_mut.ensures.value

pub returns-in_default-clause-tables : goal.returns-in_default-clause-tables
returns-in_default-clause-tables c =
    let kept : Kept = c.index_mut.result.now in
    ap (λ (o : Option Own). slice_set c.args.tables.now.items c.args.at (record { number = kept.number; committed = kept.committed; own = o })) c.replace-before.ensures.after
    ∙ set-at_place (with_own c.args.own) c.args.tables.now.items c.args.at kept c.requires c.index_mut.ensures.value

pub returns-in-Some-clause-exact : goal.returns-in-Some-clause-exact
returns-in-Some-clause-exact c = λ but.
    let kept : Kept = c.index_mut.result.now in
    let e = ap (λ (o : Option Own). slice_set c.args.tables.now.items c.args.at (record { number = kept.number; committed = kept.committed; own = o })) c.replace-before.ensures.after
    ∙ set-at_place (with_own c.args.own) c.args.tables.now.items c.args.at kept c.requires c.index_mut.ensures.value in
    subst (λ (ts : List Kept). AreExact ts (named_in c.forget.new.names)) c.deref.ensures.value
    (c.forget.ensures.exact (subst (λ (ts : List Kept). AreExactBut ts (named_in c.args.names.now) c.args.at c.in-Some.own.entry) (sym (c.deref.ensures.value ∙ e))
    (exact-replaced c.args.tables.now.items (named_in c.args.names.now) c.args.at c.args.own c.in-Some.own kept
    (got c.args.tables.now.items c.args.at kept c.requires c.index_mut.ensures.value) (sym c.replace-before.ensures.value ∙ c.in-Some.is) but)))

pub returns-in_default-clause-exact : goal.returns-in_default-clause-exact
returns-in_default-clause-exact c = λ but.
    let kept : Kept = c.index_mut.result.now in
    let e = ap (λ (o : Option Own). slice_set c.args.tables.now.items c.args.at (record { number = kept.number; committed = kept.committed; own = o })) c.replace-before.ensures.after
    ∙ set-at_place (with_own c.args.own) c.args.tables.now.items c.args.at kept c.requires c.index_mut.ensures.value in
    subst (λ (ts : List Kept). AreExact ts (named_in c.args.names.now)) (sym e)
    (exact-first c.args.tables.now.items (named_in c.args.names.now) c.args.at c.args.own kept
    (got c.args.tables.now.items c.args.at kept c.requires c.index_mut.ensures.value) (sym c.replace-before.ensures.value ∙ c.in_default.is) but)
