use Rattle.std.proofs.Common.{◌≡◌, drop, false}
use Rattle.al_values.specs.declared.scalar.Value.TheVariants as values
use Rattle.al_expr.specs.Nominal.{chain_gives, links_nominal}
use Rattle.al_expr.specs.Evaluation.{known, chain_value, links_sides, items_sides, in_value, coalesce_value}
use Rattle.al_expr.proofs.evaluation.+valuing.Given as goal

abbrev pub invariant-valued_chain-loop-link : goal.invariant-valued_chain-loop-link
invariant-valued_chain-loop-link l =
    known (chain_gives l.fn.first_type (links_nominal l.columns l.links)) (chain_value l.fn.first_type l.fn.first (links_sides l.columns l.row l.links))
    ≡ known (chain_gives l.typed (links_nominal l.columns (drop l.link-index l.links))) (chain_value l.typed l.left (links_sides l.columns l.row (drop l.link-index l.links)))

abbrev pub invariant-valued_among-loop-item : goal.invariant-valued_among-loop-item
invariant-valued_among-loop-item l =
    in_value l.kind l.fn.value (values.Bool false) (items_sides l.columns l.row l.items)
    ≡ in_value l.kind l.fn.value l.found (items_sides l.columns l.row (drop l.item-index l.items))

abbrev pub invariant-valued_coalesce-loop-item : goal.invariant-valued_coalesce-loop-item
invariant-valued_coalesce-loop-item l =
    coalesce_value l.kind (items_sides l.columns l.row l.items)
    ≡ coalesce_value l.kind (items_sides l.columns l.row (drop l.item-index l.items))
