-- An expression without its places, as it is kept apart from its text: all are 0.
use Rattle.std.specs.Prelude.{ℕ, List, map}
use Rattle.al_expr.specs.declared.tree.Operator.{Operator}
use Rattle.al_expr.specs.declared.tree.Expr.{Expr}
use Rattle.al_expr.specs.declared.tree.Expr.TheOpen.{Expr-F}
use Rattle.al_expr.specs.declared.tree.Expr.TheFolds.{fold-Expr}
use Rattle.al_expr.specs.declared.tree.Expr.TheVariants as e

abbrev pub row_unplaced : {A : Type 0} → List (ℕ × A) → List (ℕ × A)
row_unplaced row = map (λ item. (0, item.1)) row

abbrev pub chain_unplaced : List (ℕ × Operator × Expr) → List (ℕ × Operator × Expr)
chain_unplaced links = map (λ link. (0, link.1, link.2)) links

-- one node, with its operands without places
abbrev pub unplaced_step : Expr-F Expr → Expr
unplaced_step (Expr-F.Literal place value) = e.Literal 0 value
unplaced_step (Expr-F.Date place text) = e.Date 0 text
unplaced_step (Expr-F.Column place name) = e.Column 0 name
unplaced_step (Expr-F.Chain first links) = e.Chain first (chain_unplaced links)
unplaced_step (Expr-F.Prefixed operand prefixes) = e.Prefixed operand (row_unplaced prefixes)
unplaced_step (Expr-F.Casts operand casts) = e.Casts operand (row_unplaced casts)
unplaced_step (Expr-F.IsNull operand tests) = e.IsNull operand (row_unplaced tests)
unplaced_step (Expr-F.Between place negated value low high) = e.Between 0 negated value low high
unplaced_step (Expr-F.In place negated value items) = e.In 0 negated value items
unplaced_step (Expr-F.Coalesce place items) = e.Coalesce 0 items
unplaced_step (Expr-F.Abs place operand) = e.Abs 0 operand
unplaced_step (Expr-F.Length place operand) = e.Length 0 operand

unfoldable pub unplaced : Expr → Expr
unplaced expr = fold-Expr Expr unplaced_step expr

-- the same of the right sides of operators in a row, and of operands in a list
unfoldable pub links_unplaced : List (ℕ × Operator × Expr) → List (ℕ × Operator × Expr)
links_unplaced links = map (λ link. (0, link.1, unplaced link.2)) links

unfoldable pub items_unplaced : List Expr → List Expr
items_unplaced items = map unplaced items
