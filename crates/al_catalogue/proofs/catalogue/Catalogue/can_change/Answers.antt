use Rattle.std.proofs.Common.{◌∙◌, sym, ap, true, List, slice_get}
use Rattle.std.specs.Option.{option_map_or}
use Rattle.al_catalogue.specs.declared.entry.Kept.{Kept}
use Rattle.al_catalogue.specs.Changes.{is_mine}
use Rattle.al_catalogue.proofs.Found.{free-at, free-none}
use Rattle.al_catalogue.proofs.catalogue.Catalogue.can_change.Goals as goal

pub returns-in-Some : goal.returns-in-Some
returns-in-Some c =
    c.is_mine_at.ensures
    ∙ ap (λ (ts : List Kept). option_map_or (λ (kept : Kept). is_mine c.args.x kept.own) (slice_get ts c.in-Some.at) true) (c.deref.ensures.value ∙ c.self.view_is)
    ∙ free-at c.args.table c.args.x c.args.self.now c.in-Some.at (sym c.place_of.ensures ∙ c.in-Some.is)

pub returns-in-None : goal.returns-in-None
returns-in-None c = sym (free-none c.args.table c.args.x c.args.self.now (sym c.place_of.ensures ∙ c.in-None.is))
