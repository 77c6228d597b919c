-- Operators in a row, grouped from the left. A row that stands in parentheses at the front of a row of its kind is one row
-- with it, since parentheses don't count.
use Rattle.std.specs.Prelude.{ℕ, Bool, ◌==◌, if◌then◌else◌, List, [], ◌∷◌, ◌++◌}
use Rattle.al_values.specs.declared.kinds.Kind.{Kind}
use Rattle.al_expr.specs.declared.tree.Operator.{Operator}
use Rattle.al_expr.specs.declared.tree.Operator.TheVariants as operators
use Rattle.al_expr.specs.declared.tree.Arithmetic.TheVariants as arithmetics
use Rattle.al_expr.specs.declared.tree.Prefix.{Prefix}
use Rattle.al_expr.specs.declared.tree.Expr.{Expr, out-Expr}
use Rattle.al_expr.specs.declared.tree.Expr.TheOpen.{Expr-F}
use Rattle.al_expr.specs.declared.tree.Expr.TheVariants as e

-- how tight an operator binds (4.1.6)
abbrev pub precedence : Operator → ℕ
precedence operators.Or = 1
precedence operators.And = 2
precedence (operators.Compare c) = 3
precedence operators.Concat = 4
precedence (operators.Calculate arithmetics.Add) = 5
precedence (operators.Calculate arithmetics.Subtract) = 5
precedence (operators.Calculate a) = 6

abbrev pub Link : Type 0
Link = ℕ × Operator × Expr

-- the precedence of a row, 0 where there is none
abbrev pub row_precedence : List Link → ℕ
row_precedence [] = 0
row_precedence (link ∷ links) = precedence link.1

abbrev pub extended_by : Expr-F Expr → Expr → Link → Expr
extended_by (Expr-F.Chain first links) left link =
    if row_precedence links == precedence link.1 then e.Chain first (links ++ link ∷ []) else e.Chain left (link ∷ [])
extended_by other left link = e.Chain left (link ∷ [])

-- one operator more with its right side
unfoldable pub extended : Expr → Link → Expr
extended left link = extended_by (out-Expr left) left link

abbrev pub prefixed_by : Expr-F Expr → Expr → ℕ × Prefix → Expr
prefixed_by (Expr-F.Prefixed operand prefixes) left prefix = e.Prefixed operand (prefixes ++ prefix ∷ [])
prefixed_by other left prefix = e.Prefixed left (prefix ∷ [])

-- one NOT or sign more in front
unfoldable pub prefixed : Expr → ℕ × Prefix → Expr
prefixed left prefix = prefixed_by (out-Expr left) left prefix

abbrev pub cast_by : Expr-F Expr → Expr → ℕ × Kind → Expr
cast_by (Expr-F.Casts operand casts) left cast = e.Casts operand (casts ++ cast ∷ [])
cast_by other left cast = e.Casts left (cast ∷ [])

-- one cast more
unfoldable pub cast_to : Expr → ℕ × Kind → Expr
cast_to left cast = cast_by (out-Expr left) left cast

abbrev pub tested_by : Expr-F Expr → Expr → ℕ × Bool → Expr
tested_by (Expr-F.IsNull operand tests) left test = e.IsNull operand (tests ++ test ∷ [])
tested_by other left test = e.IsNull left (test ∷ [])

-- one IS NULL more
unfoldable pub tested : Expr → ℕ × Bool → Expr
tested left test = tested_by (out-Expr left) left test

-- one after another, from the left
abbrev pub in_turn : {A B : Type 0} → (B → A → B) → B → List A → B
in_turn f x [] = x
in_turn f x (y ∷ ys) = in_turn f (f x y) ys
