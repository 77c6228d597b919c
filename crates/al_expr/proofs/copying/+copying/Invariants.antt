use Rattle.std.proofs.Common.{◌≡◌, take}
use Rattle.al_expr.proofs.copying.+copying.Given as goal

abbrev pub invariant-copies_of-loop-item : goal.invariant-copies_of-loop-item
invariant-copies_of-loop-item l = l.copies ≡ take l.item-index l.items

abbrev pub invariant-copy_of_links-loop-link : goal.invariant-copy_of_links-loop-link
invariant-copy_of_links-loop-link l = l.copies ≡ take l.link-index l.links
