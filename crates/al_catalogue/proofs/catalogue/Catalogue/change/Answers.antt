use Rattle.std.proofs.Common.{◌≡◌, ◌∙◌, sym, ap, subst, List, ℕ, true, false, nat_eq, slice_get}
use Rattle.std.specs.Map.{lookup}
use Rattle.std.specs.Option.{option_map_or}
use Rattle.al_catalogue.specs.declared.entry.Own.{Own}
use Rattle.al_catalogue.specs.declared.entry.Kept.{Kept}
use Rattle.al_catalogue.specs.Indexed.{AreNamed, named_in, owned_in, is_listed, is_own, at_place, with_own}
use Rattle.al_catalogue.proofs.Indexing.{index-changed, named-changed, owner-listed}
use Rattle.al_catalogue.proofs.Exact.{exact-but}
use Rattle.al_catalogue.proofs.catalogue.Catalogue.change.Goals as goal

pub invariant_of-self-2 : goal.invariant_of-self-2
invariant_of-self-2 c =
    let i = c.self.inside in
    let own : Own = record { xact = c.args.x; entry = c.args.entry } in
    let e : c.change_at.new.tables.items ≡ at_place (with_own own) c.args.at i.tables.items = c.change_at.ensures.tables in
    let before : AreNamed (at_place (with_own own) c.args.at i.tables.items) (named_in c.list_name.new.names) =
    named-changed i.tables.items (named_in i.names) (named_in c.list_name.new.names) c.args.at own c.self.invariant.0.names c.in_ok-list_name.ensures.keeps c.in_ok-list_name.ensures.there in
    let names : AreNamed (at_place (with_own own) c.args.at i.tables.items) (named_in c.change_at.new.names) =
    subst (λ (ts : List Kept). AreNamed ts (named_in c.change_at.new.names)) e (c.change_at.ensures.named (subst (λ (ts : List Kept). AreNamed ts (named_in c.list_name.new.names)) (sym e) before)) in
    let listed : is_listed c.args.at (owned_in c.list_owner.new.owners.entries c.args.x) ≡ true =
    owner-listed i.tables.items (λ (n : ℕ). lookup (nat_eq n) i.numbers.entries) (named_in i.names) (owned_in i.owners.entries) (owned_in c.list_owner.new.owners.entries) c.args.x c.args.at c.self.invariant.0
    c.in_ok-list_owner.ensures.keeps
    (λ out. c.in_ok-list_owner.ensures.there (ap (λ (ts : List Kept). option_map_or (is_own c.args.x) (slice_get ts c.args.at) false) c.deref.ensures.value ∙ out)) in (
      rw e
          (index-changed i.tables.items (λ (n : ℕ). lookup (nat_eq n) i.numbers.entries) (named_in i.names) (named_in c.change_at.new.names) (owned_in i.owners.entries) (owned_in c.list_owner.new.owners.entries)
          c.args.at own c.self.invariant.0 names c.in_ok-list_owner.ensures.keeps listed),
      c.change_at.ensures.exact (exact-but i.tables.items (named_in i.names) (named_in c.list_name.new.names) c.args.at c.args.entry c.self.invariant.1 c.in_ok-list_name.ensures.listed),
      c.change_at.ensures.filled (c.in_ok-list_name.ensures.filled c.self.invariant.2),
    )
