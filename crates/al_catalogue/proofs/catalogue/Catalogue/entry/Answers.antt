use Rattle.std.proofs.Common.{◌∙◌, sym, ap, List, slice_get}
use Rattle.std.specs.Option.{option_and_then}
use Rattle.al_catalogue.specs.declared.entry.Kept.{Kept}
use Rattle.al_catalogue.specs.Tables.{seen}
use Rattle.al_catalogue.proofs.Found.{entry-at, entry-none}
use Rattle.al_catalogue.proofs.catalogue.Catalogue.entry.Goals as goal

pub returns-in-Some : goal.returns-in-Some
returns-in-Some c =
    c.seen_at.ensures
    ∙ ap (λ (ts : List Kept). option_and_then (seen c.args.x) (slice_get ts c.in-Some.at)) (c.deref.ensures.value ∙ c.self.view_is)
    ∙ entry-at c.args.table c.args.x c.args.self.now c.in-Some.at (sym c.place_of.ensures ∙ c.in-Some.is)

pub returns-in-None : goal.returns-in-None
returns-in-None c = sym (entry-none c.args.table c.args.x c.args.self.now (sym c.place_of.ensures ∙ c.in-None.is))
