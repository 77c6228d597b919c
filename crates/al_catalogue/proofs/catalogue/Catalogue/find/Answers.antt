use Rattle.std.proofs.Common.{◌∙◌, sym, ap, List, slice_get}
use Rattle.std.specs.Option.{option_map}
use Rattle.al_catalogue.specs.declared.entry.Kept.{Kept}
use Rattle.al_catalogue.specs.declared.search.Sought.TheVariants.{Found}
use Rattle.al_catalogue.specs.Names.{find_in}
use Rattle.al_catalogue.specs.Indexed.{named_in}
use Rattle.al_catalogue.proofs.Nearest.{search-none, search-some, find-none, find-some}
use Rattle.al_catalogue.proofs.catalogue.Catalogue.find.Goals as goal

pub returns-in-Some : goal.returns-in-Some
returns-in-Some c =
    let ts : List Kept = c.self.inside.tables.items in
    c.number_at.ensures
    ∙ ap (λ (ks : List Kept). option_map (λ (kept : Kept). kept.number) (slice_get ks c.in-Some.at)) c.deref-in-Some.ensures.value
    ∙ find-some c.args.name.now c.args.x ts c.in-Some.at
    (search-some Found c.args.name.now c.args.x ts c.deref.result.now _ _ c.in-Some.at (named_in c.self.inside.names) c.self.invariant.0.names c.deref.ensures.value c.named-places.ensures c.first_among.ensures c.in-Some.is)
    ∙ ap (λ (ks : List Kept). find_in ks c.args.name.now c.args.x) c.self.view_is

pub returns-in-None : goal.returns-in-None
returns-in-None c =
    let ts : List Kept = c.self.inside.tables.items in
    sym (find-none c.args.name.now c.args.x ts
    (search-none Found c.args.name.now c.args.x ts c.deref.result.now _ _ (named_in c.self.inside.names) c.self.invariant.0.names c.deref.ensures.value c.named-places.ensures c.first_among.ensures c.in-None.is))
    ∙ ap (λ (ks : List Kept). find_in ks c.args.name.now c.args.x) c.self.view_is
