use Rattle.std.proofs.Common.{◌≡◌, ◌∙◌, ap, subst, List, ℕ, Some, None, true, false, cond, nat_eq, length, arith, slice_get}
use Rattle.std.proofs.lemmas.Grind.{common_steps}
use Rattle.std.specs.Map.{lookup}
use Rattle.std.specs.Option.{option_map_or}
use Rattle.al_catalogue.specs.declared.entry.Kept.{Kept}
use Rattle.al_catalogue.specs.Names.{is_called}
use Rattle.al_catalogue.specs.Indexed.{ListsMore, named_in, owned_in, is_listed, is_own, numbers_of, place_in}
use Rattle.al_catalogue.proofs.Indexing.{index-pushed, owner-listed}
use Rattle.al_catalogue.proofs.Exact.{exact-but, exact-pushed, ok-holds}
use Rattle.al_catalogue.proofs.catalogue.Catalogue.add.Goals as goal

pub invariant_of-self-2 : goal.invariant_of-self-2
invariant_of-self-2 c =
    let i = c.self.inside in
    let at : c.len-at.result ≡ length i.tables.items = grind (arith, common_steps) in
    let out : place_in (numbers_of i.tables.items) c.args.table ≡ None = rw (← c.self.view_is) at c.requires in
    let listed : is_listed c.len-at.result (owned_in c.list_owner.new.owners.entries c.args.x) ≡ true =
    owner-listed i.tables.items (λ (n : ℕ). lookup (nat_eq n) i.numbers.entries) (named_in i.names) (owned_in i.owners.entries) (owned_in c.list_owner.new.owners.entries) c.args.x c.len-at.result c.self.invariant.0
    c.in_ok-list_owner.ensures.keeps
    (λ out. c.in_ok-list_owner.ensures.there (ap (λ (ts : List Kept). option_map_or (is_own c.args.x) (slice_get ts c.len-at.result) false) (c.deref.ensures.value ∙ c.reserve.ensures.items) ∙ out)) in
    let there : (name : List ℕ) → is_called name c.args.entry ≡ true → is_listed c.len-at.result (named_in c.list_name.new.names name) ≡ true = ok-holds c.list_name.result _ c.in_default.is c.list_name.ensures.there in
    let more : ListsMore (named_in i.names) (named_in c.list_name.new.names) c.len-at.result c.args.entry = ok-holds c.list_name.result _ c.in_default.is c.list_name.ensures.listed in
    rw (c.push_reserved.ensures.items, c.first_change.ensures, c.reserve.ensures.items) (
      index-pushed i.tables.items (λ (n : ℕ). lookup (nat_eq n) i.numbers.entries) (λ (n : ℕ). lookup (nat_eq n) c.insert.new.self.entries) (named_in i.names) (named_in c.list_name.new.names)
          (owned_in i.owners.entries) (owned_in c.list_owner.new.owners.entries) c.args.table (record { xact = c.args.x; entry = c.args.entry }) c.self.invariant.0 out
          (λ asked. c.in_ok-insert.ensures.updates.0 asked ∙ ap (λ (n : ℕ). cond (nat_eq c.args.table asked) (Some n) (lookup (nat_eq asked) i.numbers.entries)) at)
          c.list_name.ensures.keeps (λ name called. subst (λ (n : ℕ). is_listed n (named_in c.list_name.new.names name) ≡ true) at (there name called))
          c.in_ok-list_owner.ensures.keeps (subst (λ (n : ℕ). is_listed n (owned_in c.list_owner.new.owners.entries c.args.x) ≡ true) at listed),
      exact-pushed i.tables.items (named_in c.list_name.new.names) c.len-at.result c.args.table (record { xact = c.args.x; entry = c.args.entry }) at
          (exact-but i.tables.items (named_in i.names) (named_in c.list_name.new.names) c.len-at.result c.args.entry c.self.invariant.1 more),
      c.list_name.ensures.filled c.self.invariant.2,
    )
