-- The kind of an expression that has one, without looking for faults: what evaluation goes by. It is the kind of
-- `kind_is` wherever that finds no fault (the clause `nominal` of `kind_of`).
use Rattle.std.specs.Prelude.{ℕ, List, [], ◌∷◌, map, Option, Some, None}
use Rattle.al_values.specs.declared.kinds.Kind.{Kind}
use Rattle.al_values.specs.declared.kinds.Kind.TheVariants as kinds
use Rattle.al_expr.specs.declared.column.Column.{Column}
use Rattle.al_expr.specs.declared.kinds.Typed.{Typed}
use Rattle.al_expr.specs.declared.kinds.Typed.TheVariants as types
use Rattle.al_expr.specs.declared.tree.Operator.{Operator}
use Rattle.al_expr.specs.declared.tree.Operator.TheVariants as operators
use Rattle.al_expr.specs.declared.tree.Prefix.{Prefix}
use Rattle.al_expr.specs.declared.tree.Prefix.TheVariants as prefixes
use Rattle.al_expr.specs.declared.tree.Expr.{Expr}
use Rattle.al_expr.specs.declared.tree.Expr.TheOpen.{Expr-F}
use Rattle.al_expr.specs.declared.tree.Expr.TheFolds.{fold-Expr}
use Rattle.al_expr.specs.Columns.{column_kind}
use Rattle.al_expr.specs.Kinds.{common_with, settled, arithmetic_kind}
use Rattle.al_expr.specs.Typing.{literal_kind, tests_kind}

-- a kind that was found
abbrev pub as_typed : Option Kind → Typed
as_typed (Some kind) = types.Known kind
as_typed None = types.Untyped

-- what a binary operator gives
abbrev pub operator_gives : Operator → Typed → Typed → Typed
operator_gives operators.Or a b = types.Known kinds.Boolean
operator_gives operators.And a b = types.Known kinds.Boolean
operator_gives (operators.Compare comparison) a b = types.Known kinds.Boolean
operator_gives operators.Concat a b = types.Known kinds.Text
operator_gives (operators.Calculate operator) a b = as_typed (arithmetic_kind operator a b)

-- what NOT or a sign gives
abbrev pub prefix_gives : Prefix → Typed → Typed
prefix_gives prefixes.Not typed = types.Known kinds.Boolean
prefix_gives prefixes.Minus typed = typed
prefix_gives prefixes.Plus typed = typed

-- rows of operators, of NOTs and signs, of casts
abbrev pub chain_gives : Typed → List (ℕ × Operator × Typed) → Typed
chain_gives left [] = left
chain_gives left (link ∷ links) = chain_gives (operator_gives link.1 left link.2) links

abbrev pub prefixed_gives : Typed → List (ℕ × Prefix) → Typed
prefixed_gives typed [] = typed
prefixed_gives typed (prefix ∷ prefixes) = prefixed_gives (prefix_gives prefix.1 typed) prefixes

abbrev pub casts_gives : Typed → List (ℕ × Kind) → Typed
casts_gives typed [] = typed
casts_gives typed (to ∷ casts) = casts_gives (types.Known to.1) casts

-- the kind that operands share with what stands before them
abbrev pub shared_by : Option Typed → List Typed → Option Typed
shared_by before [] = before
shared_by before (typed ∷ rest) = shared_by (common_with before typed) rest

-- the kind in which operands of one group meet
abbrev pub met : Option Typed → Kind
met (Some typed) = settled typed
met None = kinds.Text

-- one node, with the kinds of its operands
abbrev pub nominal_step : List Column → Expr-F Typed → Typed
nominal_step columns (Expr-F.Literal place value) = literal_kind value
nominal_step columns (Expr-F.Date place text) = types.Known kinds.Date
nominal_step columns (Expr-F.Column place name) = as_typed (column_kind columns name)
nominal_step columns (Expr-F.Chain first links) = chain_gives first links
nominal_step columns (Expr-F.Prefixed operand prefixes) = prefixed_gives operand prefixes
nominal_step columns (Expr-F.Casts operand casts) = casts_gives operand casts
nominal_step columns (Expr-F.IsNull operand tests) = tests_kind operand tests
nominal_step columns (Expr-F.Between place negated value low high) = types.Known kinds.Boolean
nominal_step columns (Expr-F.In place negated value items) = types.Known kinds.Boolean
nominal_step columns (Expr-F.Coalesce place items) = types.Known (met (shared_by (Some types.Untyped) items))
nominal_step columns (Expr-F.Abs place operand) = operand
nominal_step columns (Expr-F.Length place operand) = types.Known kinds.Integer

-- the kind
unfoldable pub nominal : Expr → List Column → Typed
nominal expr columns = fold-Expr Typed (nominal_step columns) expr

-- the same of the right sides of operators in a row, and of operands in a list
unfoldable pub links_nominal : List Column → List (ℕ × Operator × Expr) → List (ℕ × Operator × Typed)
links_nominal columns links = map (λ link. (link.0, link.1, nominal link.2 columns)) links

unfoldable pub items_nominal : List Column → List Expr → List Typed
items_nominal columns items = map (λ item. nominal item columns) items
