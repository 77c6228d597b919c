use Rattle.std.proofs.Common.{◌≡◌, take}
use Rattle.al_expr.specs.Unplaced.{links_unplaced, items_unplaced}
use Rattle.al_expr.proofs.unplaced.+unplacing.Given as goal

abbrev pub invariant-items_without-loop-item : goal.invariant-items_without-loop-item
invariant-items_without-loop-item l = l.copies ≡ items_unplaced (take l.item-index l.items)

abbrev pub invariant-links_without-loop-link : goal.invariant-links_without-loop-link
invariant-links_without-loop-link l = l.copies ≡ links_unplaced (take l.link-index l.links)
