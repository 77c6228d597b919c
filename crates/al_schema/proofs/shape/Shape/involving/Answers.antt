use Rattle.std.proofs.Common.{◌≡◌, ◌<◌, length, subst, sym, List}
use Rattle.al_schema.specs.Constraints.{involving}
use Rattle.al_schema.proofs.Lists.{slot-within, places-made}
use Rattle.al_schema.proofs.shape.Shape.involving.Goals as goal

pub returns : goal.returns
returns c =
    let within : c.args.slot < length c.self.inside.slots.items = slot-within _ c.self.inside.constraints.items _ _ c.self.view_is c.requires in
    places-made c.places_of.result c.self.inside.slots.items c.self.inside.constraints.items _ c.args.slot (involving 0 c.args.slot) c.index.result.now _ c.self.view_is within c.index.ensures c.deref.ensures.value c.places_of.ensures
