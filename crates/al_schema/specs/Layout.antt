-- What a shape is.
use Rattle.std.specs.Prelude.{List}
use Rattle.al_schema.specs.declared.slot.Slot.{Slot}
use Rattle.al_schema.specs.declared.constraint.Constraint.{Constraint}

-- a table's slots, and its constraints
pub record Layout : Type 0 where
  pub slots : List Slot
  pub constraints : List Constraint
