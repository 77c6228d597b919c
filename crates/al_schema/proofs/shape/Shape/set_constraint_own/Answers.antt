use Rattle.std.proofs.Common.{◌≡◌, ◌<◌, length}
use Rattle.al_schema.specs.Constraints.{marked_own}
use Rattle.al_schema.proofs.Lists.{constraint-changed, constraint-within, constraints-layout}
use Rattle.al_schema.proofs.shape.Shape.set_constraint_own.Goals as goal

pub returns : goal.returns
returns c =
    let within : c.args.at < length c.self.inside.constraints.items = constraint-within c.self.inside.slots.items _ _ _ c.self.view_is c.requires in
    constraints-layout _ c.self.inside.constraints.items _ c.args.at (marked_own c.args.mark) _ c.self.view_is (constraint-changed c.self.inside.constraints.items c.args.at c.index_mut.result.now (marked_own c.args.mark) within c.index_mut.ensures.value)
