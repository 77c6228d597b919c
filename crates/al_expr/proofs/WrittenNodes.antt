-- Whether an expression is a literal, one equation for each variant.
use Rattle.std.proofs.Common.{◌≡◌, ℕ, Bool, List, Option, Some, None, sym, ap, ◌∙◌}
use Rattle.al_values.specs.declared.kinds.Kind.{Kind}
use Rattle.al_values.specs.declared.scalar.Value.{Value}
use Rattle.al_expr.specs.declared.tree.Operator.{Operator}
use Rattle.al_expr.specs.declared.tree.Prefix.{Prefix}
use Rattle.al_expr.specs.declared.tree.Expr.{Expr}
use Rattle.al_expr.specs.declared.tree.Expr.TheOpen.{Expr-F}
use Rattle.al_expr.specs.declared.tree.Expr.TheFolds.{fold-roll-Expr}
use Rattle.al_expr.specs.declared.tree.Expr.TheVariants as e
use Rattle.al_expr.specs.Binding.{written_step, written}

pub written_literal : (place : ℕ) (value : Value) → written (e.Literal place value) ≡ Some value
unfolding written
written_literal place value = ap written (sym (e.rolls-Literal place value)) ∙ fold-roll-Expr (Option Value) written_step (Expr-F.Literal place value)

pub written_date : (place : ℕ) (text : List ℕ) → written (e.Date place text) ≡ None
unfolding written
written_date place text = ap written (sym (e.rolls-Date place text)) ∙ fold-roll-Expr (Option Value) written_step (Expr-F.Date place text)

pub written_column : (place : ℕ) (name : List ℕ) → written (e.Column place name) ≡ None
unfolding written
written_column place name = ap written (sym (e.rolls-Column place name)) ∙ fold-roll-Expr (Option Value) written_step (Expr-F.Column place name)

pub written_chain : (first : Expr) (links : List (ℕ × Operator × Expr)) → written (e.Chain first links) ≡ None
unfolding written
written_chain first links = ap written (sym (e.rolls-Chain first links)) ∙ fold-roll-Expr (Option Value) written_step (Expr-F.Chain first links)

pub written_prefixed : (operand : Expr) (prefixes : List (ℕ × Prefix)) → written (e.Prefixed operand prefixes) ≡ None
unfolding written
written_prefixed operand prefixes = ap written (sym (e.rolls-Prefixed operand prefixes)) ∙ fold-roll-Expr (Option Value) written_step (Expr-F.Prefixed operand prefixes)

pub written_casts : (operand : Expr) (casts : List (ℕ × Kind)) → written (e.Casts operand casts) ≡ None
unfolding written
written_casts operand casts = ap written (sym (e.rolls-Casts operand casts)) ∙ fold-roll-Expr (Option Value) written_step (Expr-F.Casts operand casts)

pub written_is_null : (operand : Expr) (tests : List (ℕ × Bool)) → written (e.IsNull operand tests) ≡ None
unfolding written
written_is_null operand tests = ap written (sym (e.rolls-IsNull operand tests)) ∙ fold-roll-Expr (Option Value) written_step (Expr-F.IsNull operand tests)

pub written_between : (place : ℕ) (negated : Bool) (value : Expr) (low : Expr) (high : Expr) → written (e.Between place negated value low high) ≡ None
unfolding written
written_between place negated value low high = ap written (sym (e.rolls-Between place negated value low high)) ∙ fold-roll-Expr (Option Value) written_step (Expr-F.Between place negated value low high)

pub written_in : (place : ℕ) (negated : Bool) (value : Expr) (items : List Expr) → written (e.In place negated value items) ≡ None
unfolding written
written_in place negated value items = ap written (sym (e.rolls-In place negated value items)) ∙ fold-roll-Expr (Option Value) written_step (Expr-F.In place negated value items)

pub written_coalesce : (place : ℕ) (items : List Expr) → written (e.Coalesce place items) ≡ None
unfolding written
written_coalesce place items = ap written (sym (e.rolls-Coalesce place items)) ∙ fold-roll-Expr (Option Value) written_step (Expr-F.Coalesce place items)

pub written_abs : (place : ℕ) (operand : Expr) → written (e.Abs place operand) ≡ None
unfolding written
written_abs place operand = ap written (sym (e.rolls-Abs place operand)) ∙ fold-roll-Expr (Option Value) written_step (Expr-F.Abs place operand)

pub written_length : (place : ℕ) (operand : Expr) → written (e.Length place operand) ≡ None
unfolding written
written_length place operand = ap written (sym (e.rolls-Length place operand)) ∙ fold-roll-Expr (Option Value) written_step (Expr-F.Length place operand)

pub ruleset written_nodes = (written_literal, written_date, written_column, written_chain, written_prefixed, written_casts, written_is_null, written_between, written_in, written_coalesce, written_abs, written_length)
