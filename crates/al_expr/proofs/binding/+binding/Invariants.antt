use Rattle.std.proofs.Common.{◌≡◌, ◌++◌, take, drop}
use Rattle.al_expr.specs.Nominal.{chain_gives, links_nominal}
use Rattle.al_expr.specs.Binding.{links_joints, items_as}
use Rattle.al_expr.proofs.binding.+binding.Given as goal

abbrev pub invariant-bind_joints-loop-link : goal.invariant-bind_joints-loop-link
invariant-bind_joints-loop-link l =
    (chain_gives l.fn.first (links_nominal l.columns l.links) ≡ chain_gives l.left (links_nominal l.columns (drop l.link-index l.links)))
    × (links_joints l.columns l.fn.first l.links ≡ l.joints ++ links_joints l.columns l.left (drop l.link-index l.links))

abbrev pub invariant-bind_items-loop-item : goal.invariant-bind_items-loop-item
invariant-bind_items-loop-item l = l.bounds ≡ items_as l.kind l.columns (take l.item-index l.items)
