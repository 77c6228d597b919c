use Rattle.std.proofs.Common.{◌≡◌, drop}
use Rattle.al_expr.specs.Nominal.{chain_gives, shared_by, links_nominal, items_nominal}
use Rattle.al_expr.specs.Typing.{chain_kind, shared_kind, links_kinds, items_kinds}
use Rattle.al_expr.proofs.typing.+typing.Given as goal

abbrev pub invariant-typed_chain-loop-link : goal.invariant-typed_chain-loop-link
invariant-typed_chain-loop-link l =
    (chain_kind l.fn.first (links_kinds l.columns l.links) ≡ chain_kind l.left (links_kinds l.columns (drop l.link-index l.links)))
    × (chain_gives l.fn.first (links_nominal l.columns l.links) ≡ chain_gives l.left (links_nominal l.columns (drop l.link-index l.links)))

abbrev pub invariant-typed_items-loop-item : goal.invariant-typed_items-loop-item
invariant-typed_items-loop-item l =
    (shared_kind l.fn.first (items_kinds l.columns l.items) ≡ shared_kind l.before (items_kinds l.columns (drop l.item-index l.items)))
    × (shared_by l.fn.first (items_nominal l.columns l.items) ≡ shared_by l.before (items_nominal l.columns (drop l.item-index l.items)))
