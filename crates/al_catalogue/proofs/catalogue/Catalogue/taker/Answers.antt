use Rattle.std.proofs.Common.{◌∙◌, sym, ap, List, slice_get}
use Rattle.std.specs.Option.{option_and_then}
use Rattle.al_catalogue.specs.declared.entry.Kept.{Kept}
use Rattle.al_catalogue.specs.declared.search.Sought.TheVariants.{Moved}
use Rattle.al_catalogue.specs.Names.{taker_of, taker_in}
use Rattle.al_catalogue.specs.Indexed.{named_in}
use Rattle.al_catalogue.proofs.Nearest.{search-none, search-some, taker-none, taker-some}
use Rattle.al_catalogue.proofs.catalogue.Catalogue.taker.Goals as goal

pub returns-in-Some : goal.returns-in-Some
returns-in-Some c =
    let ts : List Kept = c.self.inside.tables.items in
    c.taker_at.ensures
    ∙ ap (λ (ks : List Kept). option_and_then (λ (kept : Kept). taker_of c.args.name.now c.args.x kept.committed kept.own) (slice_get ks c.in-Some.at)) c.deref-in-Some.ensures.value
    ∙ taker-some c.args.name.now c.args.x ts c.in-Some.at
    (search-some Moved c.args.name.now c.args.x ts c.deref.result.now _ _ c.in-Some.at (named_in c.self.inside.names) c.self.invariant.0.names c.deref.ensures.value c.named-places.ensures c.first_among.ensures c.in-Some.is)
    ∙ ap (λ (ks : List Kept). taker_in ks c.args.name.now c.args.x) c.self.view_is

pub returns-in-None : goal.returns-in-None
returns-in-None c =
    let ts : List Kept = c.self.inside.tables.items in
    sym (taker-none c.args.name.now c.args.x ts
    (search-none Moved c.args.name.now c.args.x ts c.deref.result.now _ _ (named_in c.self.inside.names) c.self.invariant.0.names c.deref.ensures.value c.named-places.ensures c.first_among.ensures c.in-None.is))
    ∙ ap (λ (ks : List Kept). taker_in ks c.args.name.now c.args.x) c.self.view_is
