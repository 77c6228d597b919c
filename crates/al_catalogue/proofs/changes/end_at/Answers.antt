use Rattle.std.proofs.Common.{◌≡◌, ◌∙◌, sym, ap, subst, List, None, arith, slice_set, length, ◌<◌}
use Rattle.std.proofs.lemmas.Grind.{common_steps}
use Rattle.al_catalogue.specs.declared.entry.Kept.{Kept}
use Rattle.al_catalogue.specs.Changes.{ended}
use Rattle.al_catalogue.specs.Indexed.{AreExact, AreExactBut, AreNamed, named_in, at_place}
use Rattle.al_catalogue.proofs.Indexing.{set-at_place, past-at_place}
use Rattle.al_catalogue.proofs.Ends.{named-ended}
use Rattle.al_catalogue.proofs.Exact.{got, exact-changed, exact-over}
use Rattle.al_catalogue.proofs.changes.end_at.Goals as goal

pub returns-then-at-len-clause-tables : goal.returns-then-at-len-clause-tables
returns-then-at-len-clause-tables c =
    ap (slice_set c.args.tables.now.items c.args.at) c.end-gone.ensures.kept
    ∙ set-at_place (ended c.args.x c.args.fate) c.args.tables.now.items c.args.at c.index_mut.result.now (grind (arith, common_steps)) c.index_mut.ensures.value

pub returns-then-at-len-clause-named : goal.returns-then-at-len-clause-named
returns-then-at-len-clause-named c =
    let e = ap (slice_set c.args.tables.now.items c.args.at) c.end-gone.ensures.kept
    ∙ set-at_place (ended c.args.x c.args.fate) c.args.tables.now.items c.args.at c.index_mut.result.now (grind (arith, common_steps)) c.index_mut.ensures.value in
    let same : c.deref.result.now ≡ at_place (ended c.args.x c.args.fate) c.args.at c.args.tables.now.items = c.deref.ensures.value ∙ e in
    λ names. subst (λ (ts : List Kept). AreNamed ts (named_in c.forget.new.names)) c.deref.ensures.value
    (c.forget.ensures.named (subst (λ (ts : List Kept). AreNamed ts (named_in c.args.names.now)) (sym same)
    (named-ended c.args.x c.args.fate c.args.tables.now.items (named_in c.args.names.now) c.args.at names)))

pub returns-else-at-len-clause-tables : goal.returns-else-at-len-clause-tables
returns-else-at-len-clause-tables c = sym (past-at_place (ended c.args.x c.args.fate) c.args.tables.now.items c.args.at (grind (arith, common_steps)))

pub returns-then-at-len-clause-exact : goal.returns-then-at-len-clause-exact
returns-then-at-len-clause-exact c =
    let within : c.args.at < length c.args.tables.now.items = grind (arith, common_steps) in
    let e = ap (slice_set c.args.tables.now.items c.args.at) c.end-gone.ensures.kept
    ∙ set-at_place (ended c.args.x c.args.fate) c.args.tables.now.items c.args.at c.index_mut.result.now within c.index_mut.ensures.value in
    λ exact. subst (λ (ts : List Kept). AreExact ts (named_in c.forget.new.names)) c.deref.ensures.value
    (c.forget.ensures.exact (subst (λ (ts : List Kept). AreExactBut ts (named_in c.args.names.now) c.args.at c.end-gone.result) (sym (c.deref.ensures.value ∙ e))
    (exact-changed (ended c.args.x c.args.fate) c.args.tables.now.items (named_in c.args.names.now) c.args.at None c.end-gone.result c.index_mut.result.now
    (got c.args.tables.now.items c.args.at c.index_mut.result.now within c.index_mut.ensures.value) c.end-gone.ensures.gone
    (exact-over c.args.tables.now.items (named_in c.args.names.now) c.args.at exact))))
