-- How an expression is bound to columns: each name to its column's place, each node to what the kinds of its operands say.
use Rattle.std.specs.Prelude.{ℕ, ◌+◌, if◌then◌else◌, List, [], ◌∷◌, map, Option, Some, None, Ok, Err}
use Rattle.al_values.specs.declared.kinds.Kind.{Kind}
use Rattle.al_values.specs.declared.kinds.Kind.TheVariants as kinds
use Rattle.al_values.specs.declared.scalar.Value.{Value}
use Rattle.al_values.specs.declared.scalar.Value.TheVariants as values
use Rattle.al_values.specs.Reading.{read_as}
use Rattle.al_expr.specs.declared.bound.Bound.{Bound}
use Rattle.al_expr.specs.declared.bound.Bound.TheVariants as b
use Rattle.al_expr.specs.declared.bound.Joint.{Joint}
use Rattle.al_expr.specs.declared.column.Column.{Column}
use Rattle.al_expr.specs.declared.kinds.Typed.{Typed}
use Rattle.al_expr.specs.declared.kinds.Typed.TheVariants as types
use Rattle.al_expr.specs.declared.tree.Operator.{Operator}
use Rattle.al_expr.specs.declared.tree.Expr.{Expr}
use Rattle.al_expr.specs.declared.tree.Expr.TheOpen.{Expr-F}
use Rattle.al_expr.specs.declared.tree.Expr.TheFolds.{fold-Expr, para-Expr}
use Rattle.al_expr.specs.Then.{◌>>=◌}
use Rattle.al_expr.specs.Columns.{same_name}
use Rattle.al_expr.specs.Kinds.{common, common_with, settled}
use Rattle.al_expr.specs.Nominal.{nominal, items_nominal, operator_gives, shared_by, met}
use Rattle.al_expr.specs.Values.{Outcome, converted, literal_value, operand_kind, read_in}

-- the place of the first column of the name, where the first of them all is counted so
abbrev pub place_from : ℕ → List Column → List ℕ → Option ℕ
place_from at [] name = None
place_from at (column ∷ columns) name = if same_name column.name name then Some at else place_from (at + 1) columns name

abbrev pub bound_place : Option ℕ → Bound
bound_place (Some place) = b.Place place
bound_place None = b.Fixed values.Null

-- an outcome that no row changes
abbrev pub bound_outcome : Outcome → Bound
bound_outcome (Ok value) = b.Fixed value
bound_outcome (Err fault) = b.Faulty fault

-- the value of a literal, where the expression is one
abbrev pub written_step : Expr-F (Option Value) → Option Value
written_step (Expr-F.Literal place value) = Some value
written_step node = None

unfoldable pub written : Expr → Option Value
written expr = fold-Expr (Option Value) written_step expr

-- an operand that is read as the kind: what has a kind of its own stays, a literal is read at once
abbrev pub literal_read : Kind → Value → Outcome
literal_read kind value = literal_value value >>= (λ literal. read_in kind types.Untyped literal)

abbrev pub read_untyped : Kind → Option Value → Bound → Bound
read_untyped kind (Some value) bound = bound_outcome (literal_read kind value)
read_untyped kind None bound = b.Read kind bound

abbrev pub read_bound : Kind → Typed → Option Value → Bound → Bound
read_bound kind (types.Known own) literal bound = bound
read_bound kind types.Untyped literal bound = read_untyped kind literal bound

-- an operand with its tree
abbrev pub Operand : Type 0
Operand = Expr × Bound

abbrev pub operand_bound : Kind → List Column → Operand → Bound
operand_bound kind columns operand = read_bound kind (nominal operand.0 columns) (written operand.0) operand.1

-- operators in a row
abbrev pub joint_of : Operator → Typed → Typed → Joint
joint_of operator left right =
    record { operator = operator; left = left; operands = operand_kind operator left right; gives = settled (operator_gives operator left right) }

abbrev pub joints_of : List Column → Typed → List (ℕ × Operator × Operand) → List (Joint × Bound)
joints_of columns left [] = []
joints_of columns left (link ∷ links) =
    (joint_of link.1 left (nominal link.2.0 columns), operand_bound (operand_kind link.1 left (nominal link.2.0 columns)) columns link.2)
    ∷ joints_of columns (operator_gives link.1 left (nominal link.2.0 columns)) links

-- one node, with its operands bound
abbrev pub bind_step : List Column → Expr-F Operand → Bound
bind_step columns (Expr-F.Literal place value) = bound_outcome (literal_value value)
bind_step columns (Expr-F.Date place text) = bound_outcome (converted (read_as text kinds.Date))
bind_step columns (Expr-F.Column place name) = bound_place (place_from 0 columns name)
bind_step columns (Expr-F.Chain first links) = b.Chain first.1 (joints_of columns (nominal first.0 columns) links)
bind_step columns (Expr-F.Prefixed operand prefixes) = b.Prefixed (nominal operand.0 columns) operand.1 prefixes
bind_step columns (Expr-F.Casts operand casts) = b.Casts operand.1 casts
bind_step columns (Expr-F.IsNull operand tests) = b.IsNull (operand_bound kinds.Text columns operand) tests
bind_step columns (Expr-F.Between place negated value low high) =
    let kind = met (common_with (common (nominal value.0 columns) (nominal low.0 columns)) (nominal high.0 columns)) in
    b.Between negated (operand_bound kind columns value) (operand_bound kind columns low) (operand_bound kind columns high)
bind_step columns (Expr-F.In place negated value items) =
    let kind = met (shared_by (Some (nominal value.0 columns)) (items_nominal columns (map (λ item. item.0) items))) in
    b.In negated (operand_bound kind columns value) (map (operand_bound kind columns) items)
bind_step columns (Expr-F.Coalesce place items) =
    let kind = met (shared_by (Some types.Untyped) (items_nominal columns (map (λ item. item.0) items))) in
    b.Coalesce (map (operand_bound kind columns) items)
bind_step columns (Expr-F.Abs place operand) = b.Abs (settled (nominal operand.0 columns)) operand.1
bind_step columns (Expr-F.Length place operand) = b.Length (operand_bound kinds.Text columns operand)

unfoldable pub bound_of : Expr → List Column → Bound
bound_of expr columns = para-Expr Bound (bind_step columns) expr

-- an expression's tree, read as the kind
abbrev pub bound_as : Kind → Expr → List Column → Bound
bound_as kind expr columns = read_bound kind (nominal expr columns) (written expr) (bound_of expr columns)

-- the same of the right sides of operators in a row, and of operands in a list
unfoldable pub links_joints : List Column → Typed → List (ℕ × Operator × Expr) → List (Joint × Bound)
links_joints columns left links = joints_of columns left (map (λ link. (link.0, link.1, (link.2, bound_of link.2 columns))) links)

unfoldable pub items_as : Kind → List Column → List Expr → List Bound
items_as kind columns items = map (λ item. bound_as kind item columns) items

-- an expression's tree, assigned to the kind
abbrev pub stored_bound : Kind → Typed → Option Value → Bound → Bound
stored_bound kind (types.Known own) literal bound = b.Store kind bound
stored_bound kind types.Untyped literal bound = read_untyped kind literal bound
