use Rattle.std.proofs.Common.{◌≡◌, drop}
use Rattle.al_expr.specs.Nominal.{chain_gives, shared_by, links_nominal, items_nominal}
use Rattle.al_expr.proofs.nominal.+nominal.Given as goal

abbrev pub invariant-nominal_chain-loop-link : goal.invariant-nominal_chain-loop-link
invariant-nominal_chain-loop-link l =
    chain_gives l.fn.first (links_nominal l.columns l.links) ≡ chain_gives l.left (links_nominal l.columns (drop l.link-index l.links))

abbrev pub invariant-nominal_items-loop-item : goal.invariant-nominal_items-loop-item
invariant-nominal_items-loop-item l =
    shared_by l.fn.first (items_nominal l.columns l.items) ≡ shared_by l.before (items_nominal l.columns (drop l.item-index l.items))
