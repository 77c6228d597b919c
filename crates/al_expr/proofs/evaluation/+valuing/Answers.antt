use Rattle.std.proofs.Common.{◌≡◌, false, Ok, Err, rules, ap, ◌∙◌}
use Rattle.al_expr.specs.declared.tree.Comparison.TheVariants as comparisons
use Rattle.al_expr.specs.Then.{◌>>=◌}
use Rattle.al_expr.specs.Nominal.{nominal, operator_gives}
use Rattle.al_expr.specs.Values.{decides, denied_if, related}
use Rattle.al_expr.specs.Evaluation.{value_of, known, sides_value, side_value, below_high}
use Rattle.al_expr.proofs.ChainLemmas.{chain_goes_on, chain_stops, passes_on}
use Rattle.al_values.specs.declared.kinds.Kind.TheVariants as kinds
use Rattle.al_expr.specs.declared.kinds.Typed.TheVariants as types
use Rattle.al_expr.proofs.NominalNodes.{nominal_between}
use Rattle.al_expr.proofs.OperatorLemmas.{side, operator_ends, between_ends, between_fault}
use Rattle.al_expr.proofs.evaluation.+valuing.Goals as goal

pub valued_chain-returns-in_err-next_type : goal.valued_chain-returns-in_err-next_type
valued_chain-returns-in_err-next_type t c =
    passes_on c.in_err-next_type.field-0.0 _ _ _ (search rules) c.in_err-next_type.ensures
    (λ fault is. c.loop-link.invariant
    ∙ chain_stops c.args.columns.now c.args.row.now c.args.links.now c.loop-link.link-index c.link-item.result
    c.loop-link.typed c.loop-link.left fault c.loop-link-test.true c.link-item.is is)

pub valued_chain-loop-link-preserved : goal.valued_chain-loop-link-preserved
valued_chain-loop-link-preserved t c =
    c.loop-link.invariant
    ∙ chain_goes_on c.args.columns.now c.args.row.now c.args.links.now c.loop-link.link-index c.link-item.result
    c.loop-link.typed c.in_ok-next_type.next_type c.loop-link.left c.in_ok-next_type.next c.loop-link-test.true c.link-item.is
    c.in_ok-next_type.ensures

pub valued_operator-returns-in_err-value : goal.valued_operator-returns-in_err-value
valued_operator-returns-in_err-value t c =
    let goes : decides c.args.operator c.in_ok-left.left ≡ false = cc in
    passes_on c.in_err-value.field-0.0 _ _ _ (search rules) c.in_err-value.ensures
    (λ fault is. operator_ends c.args.operator c.args.left_type (nominal c.args.right.now c.args.columns.now)
    c.in_ok-right_type.right_type c.args.left c.in_ok-left.left c.in_ok-right_type.right
    (value_of c.args.right.now c.args.columns.now c.args.row.now)
    c.in_ok-left.ensures goes c.in_ok-right_type.ensures
    ∙ ap (known (operator_gives c.args.operator c.args.left_type c.in_ok-right_type.right_type)) is)

pub valued_operator-returns : goal.valued_operator-returns
valued_operator-returns t c =
    let goes : decides c.args.operator c.in_ok-left.left ≡ false = cc in
    let ends = operator_ends c.args.operator c.args.left_type (nominal c.args.right.now c.args.columns.now)
    c.in_ok-right_type.right_type c.args.left c.in_ok-left.left c.in_ok-right_type.right
    (value_of c.args.right.now c.args.columns.now c.args.row.now)
    c.in_ok-left.ensures goes c.in_ok-right_type.ensures in
    let gave : sides_value c.args.operator c.args.left_type c.in_ok-left.left c.in_ok-right_type.right_type c.in_ok-right_type.right ≡ Ok c.in_ok-value.value = c.in_ok-value.ensures in
    ends ∙ ap (known (operator_gives c.args.operator c.args.left_type c.in_ok-right_type.right_type)) gave ∙ cc

pub valued-returns-in_err-low-in-Between : goal.valued-returns-in_err-low-in-Between
valued-returns-in_err-low-in-Between t c =
    passes_on c.in_err-low-in-Between.field-0.0 _ _ _ (search rules) c.in_err-low-in-Between.ensures
    (λ fault is. ap (known (nominal c.args.expr.now c.args.columns.now))
    (between_fault c.args.expr.now c.in-Between.value c.in-Between.low c.in-Between.high c.in-Between.field-0 c.in-Between.negated
    c.args.columns.now c.args.row.now c.between_kind-kind.result c.in_ok-value-in-Between.value fault c.in-Between.is (search rules)
    (search rules) (search rules)))

pub valued-returns-in_err-truth-in-Between : goal.valued-returns-in_err-truth-in-Between
valued-returns-in_err-truth-in-Between t c =
    passes_on c.in_err-truth-in-Between.field-0.0 _ _ _ (search rules) c.in_err-truth-in-Between.ensures
    (λ fault is. let here : (below_high c.in_ok-value-in-Between.value (related comparisons.GreaterOrEqual c.in_ok-value-in-Between.value c.in_ok-low-in-Between.low)
    (side_value c.between_kind-kind.result (side c.args.columns.now c.args.row.now c.in-Between.high))) ≡ Err fault = cc in
    ap (known (nominal c.args.expr.now c.args.columns.now))
    (between_ends c.args.expr.now c.in-Between.value c.in-Between.low c.in-Between.high c.in-Between.field-0 c.in-Between.negated
    c.args.columns.now c.args.row.now c.between_kind-kind.result c.in_ok-value-in-Between.value c.in_ok-low-in-Between.low
    c.in-Between.is (search rules) (search rules) (search rules)
    ∙ ap (λ x. x >>= (λ truth. Ok (denied_if c.in-Between.negated truth))) here))

pub valued-returns-in_ok-truth-in-Between : goal.valued-returns-in_ok-truth-in-Between
valued-returns-in_ok-truth-in-Between t c =
    let kind : nominal c.args.expr.now c.args.columns.now ≡ types.Known kinds.Boolean =
    ap (λ x. nominal x c.args.columns.now) c.in-Between.is
    ∙ nominal_between c.in-Between.field-0 c.in-Between.negated c.in-Between.value c.in-Between.low c.in-Between.high c.args.columns.now in
    let truth : (below_high c.in_ok-value-in-Between.value (related comparisons.GreaterOrEqual c.in_ok-value-in-Between.value c.in_ok-low-in-Between.low)
    (side_value c.between_kind-kind.result (side c.args.columns.now c.args.row.now c.in-Between.high))) ≡ Ok c.in_ok-truth-in-Between.truth = rw (← c.get-in-Between-6.ensures) c.in_ok-truth-in-Between.ensures in
    let ends = between_ends c.args.expr.now c.in-Between.value c.in-Between.low c.in-Between.high c.in-Between.field-0 c.in-Between.negated
    c.args.columns.now c.args.row.now c.between_kind-kind.result c.in_ok-value-in-Between.value c.in_ok-low-in-Between.low
    c.in-Between.is (search rules) (search rules) (search rules) in
    ap (known (nominal c.args.expr.now c.args.columns.now))
    (ends ∙ ap (λ x. x >>= (λ truth. Ok (denied_if c.in-Between.negated truth))) truth)
    ∙ cc
