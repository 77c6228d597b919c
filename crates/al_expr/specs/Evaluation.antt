-- The value of an expression on a row, or the first fault that evaluation meets (manual, chapter 9; 4.2.14, Expression
-- Evaluation Rules, for what is left out: operands go from left to right here).
use Rattle.std.specs.Prelude.{ℕ, Bool, false, if◌then◌else◌, List, [], ◌∷◌, map, Some, Result, Ok}
use Rattle.al_values.specs.declared.kinds.Kind.{Kind}
use Rattle.al_values.specs.declared.kinds.Kind.TheVariants as kinds
use Rattle.al_values.specs.declared.scalar.Value.{Value}
use Rattle.al_values.specs.declared.scalar.Value.TheVariants as values
use Rattle.al_values.specs.Convert.{casted}
use Rattle.al_values.specs.Reading.{read_as}
use Rattle.al_expr.specs.declared.column.Column.{Column}
use Rattle.al_expr.specs.declared.kinds.Typed.{Typed}
use Rattle.al_expr.specs.declared.kinds.Typed.TheVariants as types
use Rattle.al_expr.specs.declared.fault.EvalFault.{EvalFault}
use Rattle.al_expr.specs.declared.tree.Operator.{Operator}
use Rattle.al_expr.specs.declared.tree.Operator.TheVariants as operators
use Rattle.al_expr.specs.declared.tree.Comparison.TheVariants as comparisons
use Rattle.al_expr.specs.declared.tree.Prefix.{Prefix}
use Rattle.al_expr.specs.declared.tree.Expr.{Expr}
use Rattle.al_expr.specs.declared.tree.Expr.TheOpen.{Expr-F}
use Rattle.al_expr.specs.declared.tree.Expr.TheFolds.{para-Expr}
use Rattle.al_expr.specs.Then.{◌>>=◌}
use Rattle.al_expr.specs.Columns.{column_value}
use Rattle.al_expr.specs.Kinds.{common, common_with, settled}
use Rattle.al_expr.specs.Nominal.{operator_gives, prefix_gives, shared_by, met, nominal}
use Rattle.al_expr.specs.Values.{Outcome, converted, literal_value, read_in, both, either, denied_if, is_null, decides, related, absolute, measured, tested, operated, operand_kind, prefix_value}

-- an operand: its kind, and its outcome
abbrev pub Side : Type 0
Side = Typed × Outcome

-- an operator on the values of its sides, of which the left one is read
abbrev pub sides_value : Operator → Typed → Value → Typed → Value → Outcome
sides_value operator left_type left right_type right =
    read_in (operand_kind operator left_type right_type) right_type right
    >>= (λ b. operated operator (settled (operator_gives operator left_type right_type)) left b)

-- an operator on the value of its left side: that is read, it may decide, and then the right side is evaluated
abbrev pub right_value : Operator → Typed → Value → Side → Outcome
right_value operator typed left right = right.1 >>= (λ value. sides_value operator typed left right.0 value)

abbrev pub decided_value : Operator → Typed → Value → Side → Outcome
decided_value operator typed left right = if decides operator left then Ok left else right_value operator typed left right

abbrev pub operator_value : Operator → Typed → Value → Side → Outcome
operator_value operator typed left right =
    read_in (operand_kind operator typed right.0) typed left >>= (λ a. decided_value operator typed a right)

-- operators in a row, from the left
abbrev pub chain_value : Typed → Value → List (ℕ × Operator × Side) → Outcome
chain_value typed left [] = Ok left
chain_value typed left (link ∷ links) =
    operator_value link.1 typed left link.2
    >>= (λ value. chain_value (operator_gives link.1 typed link.2.0) value links)

-- NOTs and signs in a row, from the inside
abbrev pub prefixed_value : Typed → Value → List (ℕ × Prefix) → Outcome
prefixed_value typed value [] = Ok value
prefixed_value typed value (prefix ∷ prefixes) =
    prefix_value prefix.1 typed value >>= (λ outer. prefixed_value (prefix_gives prefix.1 typed) outer prefixes)

-- casts in a row, from the inside
abbrev pub casts_value : Value → List (ℕ × Kind) → Outcome
casts_value value [] = Ok value
casts_value value (to ∷ casts) = converted (casted value to.1) >>= (λ outer. casts_value outer casts)

-- IS NULL and IS NOT NULL in a row, from the inside
abbrev pub tests_value : Value → List (ℕ × Bool) → Value
tests_value value [] = value
tests_value value (test ∷ tests) = tests_value (tested test.1 value) tests

-- an operand, read as the kind
abbrev pub side_value : Kind → Side → Outcome
side_value kind side = side.1 >>= (λ value. read_in kind side.0 value)

-- `value >= low AND value <= high`
abbrev pub below_high : Value → Value → Outcome → Outcome
below_high value above high =
    if decides operators.And above then Ok above
    else high >>= (λ end. Ok (both above (related comparisons.LessOrEqual value end)))

abbrev pub between_value : Kind → Side → Side → Side → Outcome
between_value kind value low high =
    side_value kind value >>= (λ a. side_value kind low >>= (λ b.
    below_high a (related comparisons.GreaterOrEqual a b) (side_value kind high)))

-- `value = item OR value = item OR ..`, after what the items so far gave
abbrev pub or_more : Value → Outcome → Outcome
or_more so_far more = if decides operators.Or so_far then Ok so_far else more

abbrev pub in_value : Kind → Value → Value → List Side → Outcome
in_value kind value so_far [] = Ok so_far
in_value kind value so_far (item ∷ items) =
    side_value kind item >>= (λ b.
    let found = either so_far (related comparisons.Equal value b) in
    or_more found (in_value kind value found items))

abbrev pub in_items : Kind → Side → List Side → Outcome
in_items kind value items = side_value kind value >>= (λ a. in_value kind a (values.Bool false) items)

-- the first value that isn't null
abbrev pub unless_null : Value → Outcome → Outcome
unless_null value rest = if is_null value then rest else Ok value

abbrev pub coalesce_value : Kind → List Side → Outcome
coalesce_value kind [] = Ok values.Null
coalesce_value kind (item ∷ items) = side_value kind item >>= (λ value. unless_null value (coalesce_value kind items))

-- an operand of a node, and operands in a row and in a list
abbrev pub side_of : List Column → Expr × Outcome → Side
side_of columns operand = (nominal operand.0 columns, operand.1)

abbrev pub sides_of : List Column → List (Expr × Outcome) → List Side
sides_of columns operands = map (side_of columns) operands

abbrev pub link_of : List Column → ℕ × Operator × (Expr × Outcome) → ℕ × Operator × Side
link_of columns link = (link.0, link.1, side_of columns link.2)

abbrev pub kinds_of : List Side → List Typed
kinds_of sides = map (λ side. side.0) sides

-- one node, with each operand and its outcome
abbrev pub value_step : List Column → List Value → Expr-F (Expr × Outcome) → Outcome
value_step columns row (Expr-F.Literal place value) = literal_value value
value_step columns row (Expr-F.Date place text) = converted (read_as text kinds.Date)
value_step columns row (Expr-F.Column place name) = Ok (column_value columns row name)
value_step columns row (Expr-F.Chain first links) =
    first.1 >>= (λ left. chain_value (nominal first.0 columns) left (map (link_of columns) links))
value_step columns row (Expr-F.Prefixed operand prefixes) =
    operand.1 >>= (λ value. prefixed_value (nominal operand.0 columns) value prefixes)
value_step columns row (Expr-F.Casts operand casts) = operand.1 >>= (λ value. casts_value value casts)
value_step columns row (Expr-F.IsNull operand tests) =
    side_value kinds.Text (side_of columns operand) >>= (λ value. Ok (tests_value value tests))
value_step columns row (Expr-F.Between place negated value low high) =
    let kind = met (common_with (common (nominal value.0 columns) (nominal low.0 columns)) (nominal high.0 columns)) in
    between_value kind (side_of columns value) (side_of columns low) (side_of columns high)
    >>= (λ truth. Ok (denied_if negated truth))
value_step columns row (Expr-F.In place negated value items) =
    let kind = met (shared_by (Some (nominal value.0 columns)) (kinds_of (sides_of columns items))) in
    in_items kind (side_of columns value) (sides_of columns items) >>= (λ truth. Ok (denied_if negated truth))
value_step columns row (Expr-F.Coalesce place items) =
    coalesce_value (met (shared_by (Some types.Untyped) (kinds_of (sides_of columns items)))) (sides_of columns items)
value_step columns row (Expr-F.Abs place operand) = operand.1 >>= (λ value. absolute (settled (nominal operand.0 columns)) value)
value_step columns row (Expr-F.Length place operand) = side_value kinds.Text (side_of columns operand) >>= measured

-- the value
unfoldable pub value_of : Expr → List Column → List Value → Outcome
value_of expr columns row = para-Expr Outcome (value_step columns row) expr

-- the same of the right sides of operators in a row, and of operands in a list, each with its kind
unfoldable pub links_sides : List Column → List Value → List (ℕ × Operator × Expr) → List (ℕ × Operator × Side)
links_sides columns row links =
    map (λ link. (link.0, link.1, (nominal link.2 columns, value_of link.2 columns row))) links

unfoldable pub items_sides : List Column → List Value → List Expr → List Side
items_sides columns row items = map (λ item. (nominal item columns, value_of item columns row)) items

-- a value with its kind
abbrev pub known : Typed → Outcome → Result (Typed × Value) EvalFault
known typed outcome = outcome >>= (λ value. Ok (typed, value))

-- what comes of a value, where there is one
abbrev pub followed : Outcome → (Value → Outcome) → Outcome
followed value step = value >>= step
