use Rattle.al_schema.proofs.Lists.{width-is}
use Rattle.al_schema.proofs.shape.Shape.row_of.Goals as goal

pub returns-clause-width : goal.returns-clause-width
returns-clause-width c = width-is c.row_by.result c.self.inside.slots.items _ c.self.inside.constraints.items _ _ c.self.view_is c.deref.ensures.value c.row_by.ensures
