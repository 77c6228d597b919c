-- Where an expression's root stands in the text.
use Rattle.std.specs.Prelude.{ℕ, List, [], ◌∷◌}
use Rattle.al_expr.specs.declared.tree.Operator.{Operator}
use Rattle.al_expr.specs.declared.tree.Expr.{Expr}
use Rattle.al_expr.specs.declared.tree.Expr.TheOpen.{Expr-F}
use Rattle.al_expr.specs.declared.tree.Expr.TheFolds.{fold-Expr}

-- of operators in a row the last one is the root
abbrev pub last_place : {A : Type 0} → ℕ → List (ℕ × A) → ℕ
last_place before [] = before
last_place before (item ∷ items) = last_place item.0 items

abbrev pub last_link_place : {A : Type 0} → ℕ → List (ℕ × Operator × A) → ℕ
last_link_place before [] = before
last_link_place before (link ∷ links) = last_link_place link.0 links

-- one node, with the places of its operands
abbrev pub place_step : Expr-F ℕ → ℕ
place_step (Expr-F.Literal place value) = place
place_step (Expr-F.Date place text) = place
place_step (Expr-F.Column place name) = place
place_step (Expr-F.Chain first links) = last_link_place first links
place_step (Expr-F.Prefixed operand prefixes) = last_place operand prefixes
place_step (Expr-F.Casts operand casts) = last_place operand casts
place_step (Expr-F.IsNull operand tests) = last_place operand tests
place_step (Expr-F.Between place negated value low high) = place
place_step (Expr-F.In place negated value items) = place
place_step (Expr-F.Coalesce place items) = place
place_step (Expr-F.Abs place operand) = place
place_step (Expr-F.Length place operand) = place

unfoldable pub place_is : Expr → ℕ
place_is expr = fold-Expr ℕ place_step expr
