use Rattle.std.proofs.Common.{◌≡◌, ◌<◌, length}
use Rattle.al_schema.specs.Slots.{retyped}
use Rattle.al_schema.proofs.Lists.{slot-within, slot-changed, slots-made}
use Rattle.al_schema.proofs.shape.Shape.retype_column.Goals as goal

pub returns : goal.returns
returns c =
    let within : c.args.slot < length c.self.inside.slots.items = slot-within _ c.self.inside.constraints.items _ _ c.self.view_is c.requires in
    slots-made c.of.result c.self.inside.slots.items _ c.self.inside.constraints.items c.args.slot (retyped c.args.kind) _ c.self.view_is
    (slot-changed c.self.inside.slots.items c.args.slot c.index_mut.result.now (retyped c.args.kind) within c.index_mut.ensures.value) c.of.ensures
