use Rattle.std.proofs.Common.{◌≡◌, drop, false}
use Rattle.al_values.specs.declared.scalar.Value.TheVariants as values
use Rattle.al_expr.specs.Bound.{joints_value, among, first_of, links_bound, items_bound}
use Rattle.al_expr.proofs.bound_rows.+bound_valuing.Given as goal

abbrev pub invariant-valued_joints-loop-link : goal.invariant-valued_joints-loop-link
invariant-valued_joints-loop-link l =
    joints_value l.fn.first (links_bound l.row l.links) ≡ joints_value l.left (links_bound l.row (drop l.link-index l.links))

abbrev pub invariant-valued_among-loop-item : goal.invariant-valued_among-loop-item
invariant-valued_among-loop-item l =
    among l.fn.value (values.Bool false) (items_bound l.row l.items) ≡ among l.fn.value l.found (items_bound l.row (drop l.item-index l.items))

abbrev pub invariant-valued_first-loop-item : goal.invariant-valued_first-loop-item
invariant-valued_first-loop-item l = first_of (items_bound l.row l.items) ≡ first_of (items_bound l.row (drop l.item-index l.items))
