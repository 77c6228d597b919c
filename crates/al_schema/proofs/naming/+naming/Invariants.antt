use Rattle.std.proofs.Common.{◌≡◌, drop}
use Rattle.al_schema.specs.Naming.{in_chain, in_list, links_naming, items_naming}
use Rattle.al_schema.proofs.naming.+naming.Given as goal

abbrev pub invariant-names_in_links-loop-link : goal.invariant-names_in_links-loop-link
invariant-names_in_links-loop-link l =
    in_chain l.fn.before (links_naming l.name l.links) ≡ in_chain l.found (links_naming l.name (drop l.link-index l.links))

abbrev pub invariant-names_in_items-loop-item : goal.invariant-names_in_items-loop-item
invariant-names_in_items-loop-item l =
    in_list l.fn.before (items_naming l.name l.items) ≡ in_list l.found (items_naming l.name (drop l.item-index l.items))
