use Rattle.std.proofs.Common.{◌≡◌, ◌∙◌, sym, ap, subst, List, ℕ, Bool, map, Option, Some, None, nat_eq, cond, unwrap_or, []}
use Rattle.std.specs.Map.{lookup}
use Rattle.al_catalogue.specs.declared.entry.Kept.{Kept}
use Rattle.al_catalogue.specs.Changes.{ended}
use Rattle.al_catalogue.specs.Indexed.{AreNamed, named_in, owned_in, is_listed}
use Rattle.al_catalogue.proofs.Ends.{AreOwned, all-ended, none-ended, index-ended}
use Rattle.al_catalogue.proofs.catalogue.Catalogue.finish.Goals as goal

pub invariant_of-self : goal.invariant_of-self
invariant_of-self c =
    let i = c.self.inside in
    let v : Some c.in-Some.places ≡ lookup (nat_eq c.number.result) i.owners.entries = c.in-Some.ensures.value in
    let places : c.as_slice.result.now ≡ owned_in i.owners.entries c.args.x = c.as_slice.ensures ∙ ap (λ (o : Option (List ℕ)). unwrap_or o []) v ∙ ap (owned_in i.owners.entries) c.number.ensures in
    let listed : AreOwned c.args.x i.tables.items c.as_slice.result.now = λ at kept got h. ap (is_listed at) places ∙ c.self.invariant.0.owners c.args.x at kept got h in
    let e : c.end_all.new.tables.items ≡ map (ended c.args.x c.args.fate) i.tables.items = c.end_all.ensures.tables ∙ all-ended c.args.x c.args.fate c.as_slice.result.now i.tables.items listed in (
      rw e
          (index-ended c.args.x c.args.fate i.tables.items (λ (n : ℕ). lookup (nat_eq n) i.numbers.entries) (named_in i.names) (named_in c.end_all.new.names) (owned_in i.owners.entries) (owned_in c.remove.new.self.entries)
          c.self.invariant.0 (subst (λ (ts : List Kept). AreNamed ts (named_in c.end_all.new.names)) e c.end_all.ensures.named)
          (λ y apart. ap (λ (o : Option (List ℕ)). unwrap_or o [])
          (c.in-Some.ensures.updates.0 y ∙ ap (λ (b : Bool). cond b None (lookup (nat_eq y) i.owners.entries)) (ap (λ (n : ℕ). nat_eq n y) c.number.ensures ∙ apart)))),
      c.end_all.ensures.exact,
      c.end_all.ensures.filled,
    )

pub returns-in-Some : goal.returns-in-Some
returns-in-Some c =
    let i = c.self.inside in
    let v : Some c.in-Some.places ≡ lookup (nat_eq c.number.result) i.owners.entries = c.in-Some.ensures.value in
    let places : c.as_slice.result.now ≡ owned_in i.owners.entries c.args.x = c.as_slice.ensures ∙ ap (λ (o : Option (List ℕ)). unwrap_or o []) v ∙ ap (owned_in i.owners.entries) c.number.ensures in
    let listed : AreOwned c.args.x i.tables.items c.as_slice.result.now = λ at kept got h. ap (is_listed at) places ∙ c.self.invariant.0.owners c.args.x at kept got h in
    c.end_all.ensures.tables ∙ all-ended c.args.x c.args.fate c.as_slice.result.now i.tables.items listed ∙ ap (map (ended c.args.x c.args.fate)) c.self.view_is

pub returns-in_default : goal.returns-in_default
returns-in_default c =
    let i = c.self.inside in
    let v : None ≡ lookup (nat_eq c.number.result) i.owners.entries = c.in_default.ensures.value in
    let none : [] ≡ owned_in i.owners.entries c.args.x = ap (λ (o : Option (List ℕ)). unwrap_or o []) v ∙ ap (owned_in i.owners.entries) c.number.ensures in
    sym (none-ended c.args.x c.args.fate i.tables.items (λ at kept got h. ap (is_listed at) none ∙ c.self.invariant.0.owners c.args.x at kept got h))
    ∙ ap (map (ended c.args.x c.args.fate)) c.self.view_is
