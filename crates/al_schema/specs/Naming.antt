-- Expressions that name a column, and the column renamed in them.
use Rattle.std.specs.Prelude.{ℕ, List, [], ◌∷◌, Bool, false, ◌||◌, if◌then◌else◌, map}
use Rattle.al_expr.specs.declared.tree.Operator.{Operator}
use Rattle.al_expr.specs.declared.tree.Expr.{Expr}
use Rattle.al_expr.specs.declared.tree.Expr.TheOpen.{Expr-F}
use Rattle.al_expr.specs.declared.tree.Expr.TheFolds.{fold-Expr}
use Rattle.al_expr.specs.declared.tree.Expr.TheVariants as e
use Rattle.al_expr.specs.Columns.{same_name}

-- whether one of the right sides of operators in a row names it, or of operands in a list
abbrev pub in_chain : Bool → List (ℕ × Operator × Bool) → Bool
in_chain before [] = before
in_chain before (link ∷ links) = in_chain (before || link.2) links

abbrev pub in_list : Bool → List Bool → Bool
in_list before [] = before
in_list before (item ∷ items) = in_list (before || item) items

-- one node, with whether its operands name it
abbrev pub names_step : List ℕ → Expr-F Bool → Bool
names_step name (Expr-F.Literal place value) = false
names_step name (Expr-F.Date place text) = false
names_step name (Expr-F.Column place column) = same_name column name
names_step name (Expr-F.Chain first links) = in_chain first links
names_step name (Expr-F.Prefixed operand prefixes) = operand
names_step name (Expr-F.Casts operand casts) = operand
names_step name (Expr-F.IsNull operand tests) = operand
names_step name (Expr-F.Between place negated value low high) = (value || low) || high
names_step name (Expr-F.In place negated value items) = in_list value items
names_step name (Expr-F.Coalesce place items) = in_list false items
names_step name (Expr-F.Abs place operand) = operand
names_step name (Expr-F.Length place operand) = operand

-- whether an expression names a column
unfoldable pub names : Expr → List ℕ → Bool
names expr name = fold-Expr Bool (names_step name) expr

unfoldable pub links_naming : List ℕ → List (ℕ × Operator × Expr) → List (ℕ × Operator × Bool)
links_naming name links = map (λ link. (link.0, link.1, names link.2 name)) links

unfoldable pub items_naming : List ℕ → List Expr → List Bool
items_naming name items = map (λ item. names item name) items

-- one node, with its operands renamed
abbrev pub renamed_step : List ℕ → List ℕ → Expr-F Expr → Expr
renamed_step from to (Expr-F.Literal place value) = e.Literal place value
renamed_step from to (Expr-F.Date place text) = e.Date place text
renamed_step from to (Expr-F.Column place column) = e.Column place (if same_name column from then to else column)
renamed_step from to (Expr-F.Chain first links) = e.Chain first links
renamed_step from to (Expr-F.Prefixed operand prefixes) = e.Prefixed operand prefixes
renamed_step from to (Expr-F.Casts operand casts) = e.Casts operand casts
renamed_step from to (Expr-F.IsNull operand tests) = e.IsNull operand tests
renamed_step from to (Expr-F.Between place negated value low high) = e.Between place negated value low high
renamed_step from to (Expr-F.In place negated value items) = e.In place negated value items
renamed_step from to (Expr-F.Coalesce place items) = e.Coalesce place items
renamed_step from to (Expr-F.Abs place operand) = e.Abs place operand
renamed_step from to (Expr-F.Length place operand) = e.Length place operand

-- the expression with another name for a column; all else stays
unfoldable pub renamed : List ℕ → List ℕ → Expr → Expr
renamed from to expr = fold-Expr Expr (renamed_step from to) expr

unfoldable pub links_renamed : List ℕ → List ℕ → List (ℕ × Operator × Expr) → List (ℕ × Operator × Expr)
links_renamed from to links = map (λ link. (link.0, link.1, renamed from to link.2)) links

unfoldable pub items_renamed : List ℕ → List ℕ → List Expr → List Expr
items_renamed from to items = map (renamed from to) items
