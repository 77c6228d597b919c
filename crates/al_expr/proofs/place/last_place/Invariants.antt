use Rattle.std.proofs.Common.{◌≡◌, drop}
use Rattle.al_expr.specs.Places.{last_place}
use Rattle.al_expr.proofs.place.last_place.Given as goal

abbrev pub invariant-loop-item : goal.invariant-loop-item
invariant-loop-item g l = last_place l.fn.before l.row ≡ last_place l.place (drop l.item-index l.row)
