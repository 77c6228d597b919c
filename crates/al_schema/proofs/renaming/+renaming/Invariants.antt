use Rattle.std.proofs.Common.{◌≡◌, take}
use Rattle.al_schema.specs.Naming.{links_renamed, items_renamed}
use Rattle.al_schema.proofs.renaming.+renaming.Given as goal

abbrev pub invariant-items_renamed-loop-item : goal.invariant-items_renamed-loop-item
invariant-items_renamed-loop-item l = l.copies ≡ items_renamed l.from l.to (take l.item-index l.items)

abbrev pub invariant-links_renamed-loop-link : goal.invariant-links_renamed-loop-link
invariant-links_renamed-loop-link l = l.copies ≡ links_renamed l.from l.to (take l.link-index l.links)
