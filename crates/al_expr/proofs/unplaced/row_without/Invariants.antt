use Rattle.std.proofs.Common.{◌≡◌, take}
use Rattle.al_expr.specs.Unplaced.{row_unplaced}
use Rattle.al_expr.proofs.unplaced.row_without.Given as goal

abbrev pub invariant-loop-item : goal.invariant-loop-item
invariant-loop-item g l = l.copies ≡ row_unplaced (take l.item-index l.row)
