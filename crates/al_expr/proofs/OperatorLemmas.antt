-- One operator, and BETWEEN, step by step.
use Rattle.std.proofs.Common.{◌≡◌, ℕ, Bool, false, List, Ok, Err, sym, ap, ◌∙◌}
use Rattle.std.specs.Prelude.{if◌then◌else◌}
use Rattle.al_values.specs.declared.kinds.Kind.{Kind}
use Rattle.al_values.specs.declared.scalar.Value.{Value}
use Rattle.al_expr.specs.declared.column.Column.{Column}
use Rattle.al_expr.specs.declared.kinds.Typed.{Typed}
use Rattle.al_expr.specs.declared.fault.EvalFault.{EvalFault}
use Rattle.al_expr.specs.declared.tree.Operator.{Operator}
use Rattle.al_expr.specs.declared.tree.Comparison.TheVariants as comparisons
use Rattle.al_expr.specs.declared.tree.Expr.{Expr}
use Rattle.al_expr.specs.declared.tree.Expr.TheVariants as e
use Rattle.al_expr.specs.Then.{◌>>=◌}
use Rattle.al_expr.specs.Kinds.{common, common_with}
use Rattle.al_expr.specs.Nominal.{nominal, met, operator_gives}
use Rattle.al_expr.specs.Values.{Outcome, read_in, operand_kind, decides, denied_if, related}
use Rattle.al_expr.specs.Evaluation.{Side, value_of, known, sides_value, decided_value, right_value, operator_value, side_value, between_value, below_high}
use Rattle.al_expr.proofs.ChainLemmas.{known_kind, known_value}
use Rattle.al_expr.proofs.ValueNodes.{value_between}

-- both sides are evaluated
pub operator_ends : (operator : Operator) (left_type kind right_type : Typed) (left a right : Value) (outcome : Outcome) →
    read_in (operand_kind operator left_type kind) left_type left ≡ Ok a →
    decides operator a ≡ false →
    known kind outcome ≡ Ok (right_type, right) →
    known (operator_gives operator left_type kind) (operator_value operator left_type left (kind, outcome))
    ≡ known (operator_gives operator left_type right_type) (sides_value operator left_type a right_type right)
operator_ends operator left_type kind right_type left a right outcome reads goes gave =
    ap (λ x. known (operator_gives operator left_type kind) (x >>= (λ y. decided_value operator left_type y (kind, outcome)))) reads
    ∙ ap (λ x. known (operator_gives operator left_type kind) (if x then Ok a else right_value operator left_type a (kind, outcome))) goes
    ∙ ap (λ x. known (operator_gives operator left_type kind) (x >>= (λ value. sides_value operator left_type a kind value)))
    (known_value kind right_type outcome right gave)
    ∙ ap (λ x. known (operator_gives operator left_type x) (sides_value operator left_type a x right))
    (known_kind kind right_type outcome right gave)

-- an operand with its kind
abbrev pub side : List Column → List Value → Expr → Side
side columns row expr = (nominal expr columns, value_of expr columns row)

-- BETWEEN, its value and lower end evaluated
pub between_ends : (expr value low high : Expr) (place : ℕ) (negated : Bool) (columns : List Column) (row : List Value) (kind : Kind) (a b : Value) →
    expr ≡ e.Between place negated value low high →
    kind ≡ met (common_with (common (nominal value columns) (nominal low columns)) (nominal high columns)) →
    side_value kind (nominal value columns, value_of value columns row) ≡ Ok a →
    side_value kind (nominal low columns, value_of low columns row) ≡ Ok b →
    value_of expr columns row
    ≡ (below_high a (related comparisons.GreaterOrEqual a b) (side_value kind (nominal high columns, value_of high columns row))
    >>= (λ truth. Ok (denied_if negated truth)))
between_ends expr value low high place negated columns row kind a b is kinds first second =
    ap (λ x. value_of x columns row) is ∙ value_between place negated value low high columns row
    ∙ ap (λ x. between_value x (side columns row value) (side columns row low) (side columns row high) >>= (λ truth. Ok (denied_if negated truth))) (sym kinds)
    ∙ ap (λ x. (x >>= (λ y. side_value kind (side columns row low) >>= (λ z. below_high y (related comparisons.GreaterOrEqual y z) (side_value kind (side columns row high)))))
    >>= (λ truth. Ok (denied_if negated truth))) first
    ∙ ap (λ x. (x >>= (λ z. below_high a (related comparisons.GreaterOrEqual a z) (side_value kind (side columns row high)))) >>= (λ truth. Ok (denied_if negated truth))) second

pub between_fault : (expr value low high : Expr) (place : ℕ) (negated : Bool) (columns : List Column) (row : List Value) (kind : Kind) (a : Value) (fault : EvalFault) →
    expr ≡ e.Between place negated value low high →
    kind ≡ met (common_with (common (nominal value columns) (nominal low columns)) (nominal high columns)) →
    side_value kind (side columns row value) ≡ Ok a →
    side_value kind (side columns row low) ≡ Err fault →
    value_of expr columns row ≡ Err fault
between_fault expr value low high place negated columns row kind a fault is kinds first second =
    ap (λ x. value_of x columns row) is ∙ value_between place negated value low high columns row
    ∙ ap (λ x. between_value x (side columns row value) (side columns row low) (side columns row high) >>= (λ truth. Ok (denied_if negated truth))) (sym kinds)
    ∙ ap (λ x. (x >>= (λ y. side_value kind (side columns row low)
    >>= (λ z. below_high y (related comparisons.GreaterOrEqual y z) (side_value kind (side columns row high)))))
    >>= (λ truth. Ok (denied_if negated truth))) first
    ∙ ap (λ x. (x >>= (λ z. below_high a (related comparisons.GreaterOrEqual a z) (side_value kind (side columns row high)))) >>= (λ truth. Ok (denied_if negated truth))) second
