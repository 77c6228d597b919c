use Rattle.std.proofs.Common.{◌≡◌, ◌<◌, length, refl}
use Rattle.al_schema.specs.Slots.{with_own}
use Rattle.al_schema.proofs.Lists.{slot-changed, slot-within, slots-hold, slots-layout}
use Rattle.al_schema.proofs.shape.Shape.set_own.Goals as goal

pub invariant_of-self : goal.invariant_of-self
invariant_of-self c =
    let within : c.args.slot < length c.self.inside.slots.items = slot-within _ c.self.inside.constraints.items _ _ c.self.view_is c.requires in
    slots-hold _ c.self.inside.slots.items _ _ c.args.slot (with_own c.args.mark) (λ s rest. refl) c.self.invariant (slot-changed c.self.inside.slots.items c.args.slot c.index_mut.result.now (with_own c.args.mark) within c.index_mut.ensures.value)

pub returns : goal.returns
returns c =
    let within : c.args.slot < length c.self.inside.slots.items = slot-within _ c.self.inside.constraints.items _ _ c.self.view_is c.requires in
    slots-layout c.self.inside.slots.items _ _ c.args.slot (with_own c.args.mark) _ c.self.view_is (slot-changed c.self.inside.slots.items c.args.slot c.index_mut.result.now (with_own c.args.mark) within c.index_mut.ensures.value)
