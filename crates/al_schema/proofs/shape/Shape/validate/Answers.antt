use Rattle.std.proofs.Common.{◌≡◌, ◌<◌, length}
use Rattle.al_schema.specs.Constraints.{as_valid}
use Rattle.al_schema.proofs.Lists.{constraint-changed, constraint-within, constraints-layout}
use Rattle.al_schema.proofs.shape.Shape.validate.Goals as goal

pub returns : goal.returns
returns c =
    let within : c.args.at < length c.self.inside.constraints.items = constraint-within c.self.inside.slots.items _ _ _ c.self.view_is c.requires in
    constraints-layout _ c.self.inside.constraints.items _ c.args.at (as_valid) _ c.self.view_is (constraint-changed c.self.inside.constraints.items c.args.at c.index_mut.result.now (as_valid) within c.index_mut.ensures.value)
