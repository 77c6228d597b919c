-- `unplaced`, one equation for each variant.
use Rattle.std.proofs.Common.{◌≡◌, ℕ, Bool, List, [], ◌∷◌, map, refl, sym, ap, ◌∙◌}
use Rattle.al_values.specs.declared.kinds.Kind.{Kind}
use Rattle.al_values.specs.declared.scalar.Value.{Value}
use Rattle.al_expr.specs.declared.tree.Operator.{Operator}
use Rattle.al_expr.specs.declared.tree.Prefix.{Prefix}
use Rattle.al_expr.specs.declared.tree.Expr.{Expr}
use Rattle.al_expr.specs.declared.tree.Expr.TheOpen.{Expr-F}
use Rattle.al_expr.specs.declared.tree.Expr.TheFolds.{fold-roll-Expr}
use Rattle.al_expr.specs.declared.tree.Expr.TheVariants as e
use Rattle.al_expr.specs.Unplaced.{unplaced_step, unplaced, row_unplaced, chain_unplaced, links_unplaced, items_unplaced}

links_are : (links : List (ℕ × Operator × Expr)) →
    chain_unplaced (map (λ link. (link.0, link.1, unplaced link.2)) links) ≡ links_unplaced links
unfolding links_unplaced
links_are [] = refl
links_are (link ∷ links) = ap (λ rest. (0, link.1, unplaced link.2) ∷ rest) (links_are links)

pub unplaced_literal : (place : ℕ) (value : Value) → unplaced (e.Literal place value) ≡ e.Literal 0 value
unfolding unplaced
unplaced_literal place value = ap unplaced (sym (e.rolls-Literal place value)) ∙ fold-roll-Expr Expr unplaced_step (Expr-F.Literal place value)

pub unplaced_date : (place : ℕ) (text : List ℕ) → unplaced (e.Date place text) ≡ e.Date 0 text
unfolding unplaced
unplaced_date place text = ap unplaced (sym (e.rolls-Date place text)) ∙ fold-roll-Expr Expr unplaced_step (Expr-F.Date place text)

pub unplaced_column : (place : ℕ) (name : List ℕ) → unplaced (e.Column place name) ≡ e.Column 0 name
unfolding unplaced
unplaced_column place name = ap unplaced (sym (e.rolls-Column place name)) ∙ fold-roll-Expr Expr unplaced_step (Expr-F.Column place name)

pub unplaced_chain : (first : Expr) (links : List (ℕ × Operator × Expr)) → unplaced (e.Chain first links) ≡ e.Chain (unplaced first) (links_unplaced links)
unfolding unplaced
unplaced_chain first links = ap unplaced (sym (e.rolls-Chain first links)) ∙ fold-roll-Expr Expr unplaced_step (Expr-F.Chain first links) ∙ ap (e.Chain (unplaced first)) (links_are links)

pub unplaced_prefixed : (operand : Expr) (prefixes : List (ℕ × Prefix)) → unplaced (e.Prefixed operand prefixes) ≡ e.Prefixed (unplaced operand) (row_unplaced prefixes)
unfolding unplaced
unplaced_prefixed operand prefixes = ap unplaced (sym (e.rolls-Prefixed operand prefixes)) ∙ fold-roll-Expr Expr unplaced_step (Expr-F.Prefixed operand prefixes)

pub unplaced_casts : (operand : Expr) (casts : List (ℕ × Kind)) → unplaced (e.Casts operand casts) ≡ e.Casts (unplaced operand) (row_unplaced casts)
unfolding unplaced
unplaced_casts operand casts = ap unplaced (sym (e.rolls-Casts operand casts)) ∙ fold-roll-Expr Expr unplaced_step (Expr-F.Casts operand casts)

pub unplaced_is_null : (operand : Expr) (tests : List (ℕ × Bool)) → unplaced (e.IsNull operand tests) ≡ e.IsNull (unplaced operand) (row_unplaced tests)
unfolding unplaced
unplaced_is_null operand tests = ap unplaced (sym (e.rolls-IsNull operand tests)) ∙ fold-roll-Expr Expr unplaced_step (Expr-F.IsNull operand tests)

pub unplaced_between : (place : ℕ) (negated : Bool) (value : Expr) (low : Expr) (high : Expr) → unplaced (e.Between place negated value low high) ≡ e.Between 0 negated (unplaced value) (unplaced low) (unplaced high)
unfolding unplaced
unplaced_between place negated value low high = ap unplaced (sym (e.rolls-Between place negated value low high)) ∙ fold-roll-Expr Expr unplaced_step (Expr-F.Between place negated value low high)

pub unplaced_in : (place : ℕ) (negated : Bool) (value : Expr) (items : List Expr) → unplaced (e.In place negated value items) ≡ e.In 0 negated (unplaced value) (items_unplaced items)
unfolding unplaced items_unplaced
unplaced_in place negated value items = ap unplaced (sym (e.rolls-In place negated value items)) ∙ fold-roll-Expr Expr unplaced_step (Expr-F.In place negated value items)

pub unplaced_coalesce : (place : ℕ) (items : List Expr) → unplaced (e.Coalesce place items) ≡ e.Coalesce 0 (items_unplaced items)
unfolding unplaced items_unplaced
unplaced_coalesce place items = ap unplaced (sym (e.rolls-Coalesce place items)) ∙ fold-roll-Expr Expr unplaced_step (Expr-F.Coalesce place items)

pub unplaced_abs : (place : ℕ) (operand : Expr) → unplaced (e.Abs place operand) ≡ e.Abs 0 (unplaced operand)
unfolding unplaced
unplaced_abs place operand = ap unplaced (sym (e.rolls-Abs place operand)) ∙ fold-roll-Expr Expr unplaced_step (Expr-F.Abs place operand)

pub unplaced_length : (place : ℕ) (operand : Expr) → unplaced (e.Length place operand) ≡ e.Length 0 (unplaced operand)
unfolding unplaced
unplaced_length place operand = ap unplaced (sym (e.rolls-Length place operand)) ∙ fold-roll-Expr Expr unplaced_step (Expr-F.Length place operand)

pub ruleset unplaced_nodes = (unplaced_literal, unplaced_date, unplaced_column, unplaced_chain, unplaced_prefixed, unplaced_casts, unplaced_is_null, unplaced_between, unplaced_in, unplaced_coalesce, unplaced_abs, unplaced_length)
