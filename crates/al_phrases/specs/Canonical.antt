-- Trees as they are read: what stands in a row is one node. So parentheses that change no meaning leave no trace, and two texts
-- that differ by such parentheses alone have one tree (4.1.6).
use Rattle.std.specs.Prelude.{ℕ, Bool, true, false, ◌&&◌, not, ◌==◌, List, [], ◌∷◌}
use Rattle.al_expr.specs.declared.tree.Operator.{Operator}
use Rattle.al_expr.specs.declared.tree.Expr.{Expr, out-Expr}
use Rattle.al_expr.specs.declared.tree.Expr.TheOpen.{Expr-F}
use Rattle.al_expr.specs.declared.tree.Expr.TheFolds.{para-Expr}
use Rattle.al_phrases.specs.Rows.{precedence, row_precedence}

-- what a node is: the precedence of a row of operators, 0 where it is none; and whether it is a row of prefixes, of casts, of tests
abbrev pub row_in : Expr-F Expr → ℕ
row_in (Expr-F.Chain first links) = row_precedence links
row_in node = 0

abbrev pub is_prefixed : Expr-F Expr → Bool
is_prefixed (Expr-F.Prefixed operand prefixes) = true
is_prefixed node = false

abbrev pub is_cast : Expr-F Expr → Bool
is_cast (Expr-F.Casts operand casts) = true
is_cast node = false

abbrev pub is_test : Expr-F Expr → Bool
is_test (Expr-F.IsNull operand tests) = true
is_test node = false

abbrev pub has_some : {A : Type 0} → List A → Bool
has_some [] = false
has_some (x ∷ xs) = true

-- operators of one precedence
abbrev pub all_of : {A : Type 0} → ℕ → List (ℕ × Operator × A) → Bool
all_of p [] = true
all_of p (link ∷ links) = (precedence link.1 == p) && all_of p links

-- A row has an operator, and all are of one precedence, of which the first operand is no row.
abbrev pub is_row : {A : Type 0} → ℕ → List (ℕ × Operator × A) → Bool
is_row first [] = false
is_row first (link ∷ links) = all_of (precedence link.1) links && not (first == precedence link.1)

abbrev pub right_sides : List (ℕ × Operator × (Expr × Bool)) → Bool
right_sides [] = true
right_sides (link ∷ links) = link.2.1 && right_sides links

abbrev pub each : List (Expr × Bool) → Bool
each [] = true
each (item ∷ items) = item.1 && each items

-- one node, with its operands and whether they are canonical
abbrev pub canonical_step : Expr-F (Expr × Bool) → Bool
canonical_step (Expr-F.Literal place value) = true
canonical_step (Expr-F.Date place text) = true
canonical_step (Expr-F.Column place name) = true
canonical_step (Expr-F.Chain first links) = first.1 && (right_sides links && is_row (row_in (out-Expr first.0)) links)
canonical_step (Expr-F.Prefixed operand prefixes) = operand.1 && (has_some prefixes && not (is_prefixed (out-Expr operand.0)))
canonical_step (Expr-F.Casts operand casts) = operand.1 && (has_some casts && not (is_cast (out-Expr operand.0)))
canonical_step (Expr-F.IsNull operand tests) = operand.1 && (has_some tests && not (is_test (out-Expr operand.0)))
canonical_step (Expr-F.Between place negated value low high) = value.1 && (low.1 && high.1)
canonical_step (Expr-F.In place negated value items) = value.1 && each items
canonical_step (Expr-F.Coalesce place items) = each items
canonical_step (Expr-F.Abs place operand) = operand.1
canonical_step (Expr-F.Length place operand) = operand.1

-- Each row in the tree is one node.
unfoldable pub is_canonical : Expr → Bool
is_canonical expr = para-Expr Bool canonical_step expr

-- the same of the right sides of operators in a row, and of operands in a list
unfoldable pub links_canonical : List (ℕ × Operator × Expr) → Bool
links_canonical [] = true
links_canonical (link ∷ links) = is_canonical link.2 && links_canonical links

unfoldable pub items_canonical : List Expr → Bool
items_canonical [] = true
items_canonical (item ∷ items) = is_canonical item && items_canonical items
