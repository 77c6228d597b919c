use Rattle.std.proofs.Common.{◌≡◌, ◌++◌, drop}
use Rattle.al_schema.specs.Slots.{row_by}
use Rattle.al_schema.proofs.rows.row_by.Given as goal

abbrev pub invariant-loop-at : goal.invariant-loop-at
invariant-loop-at l = l.row ++ row_by (drop l.at l.slots) (drop l.at l.stored) ≡ row_by l.slots l.stored
