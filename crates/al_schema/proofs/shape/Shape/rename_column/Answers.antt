use Rattle.std.proofs.Common.{◌≡◌, ◌<◌, length, List, ℕ}
use Rattle.al_schema.specs.Slots.{renamed_to}
use Rattle.al_schema.specs.Constraints.{column_renamed}
use Rattle.al_schema.proofs.Lists.{slot-within, slot-changed, both-made}
use Rattle.al_schema.proofs.shape.Shape.rename_column.Goals as goal

pub returns : goal.returns
returns c =
    let within : c.args.slot < length c.self.inside.slots.items = slot-within _ c.self.inside.constraints.items _ _ c.self.view_is c.requires in
    both-made c.of.result c.self.inside.slots.items _ _ _ c.args.slot (renamed_to c.args.name) (λ (name : List ℕ). column_renamed name c.args.name) c.index.result.now _ c.self.view_is within c.index.ensures
    (slot-changed c.self.inside.slots.items c.args.slot c.index_mut.result.now (renamed_to c.args.name) within c.index_mut.ensures.value) c.in_ok-rename_in_rules.ensures c.of.ensures
