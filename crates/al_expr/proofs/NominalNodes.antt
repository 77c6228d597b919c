-- `nominal`, one equation for each variant.
use Rattle.std.proofs.Common.{◌≡◌, ℕ, Bool, List, sym, ap, ◌∙◌}
use Rattle.al_values.specs.declared.kinds.Kind.{Kind}
use Rattle.al_values.specs.declared.scalar.Value.{Value}
use Rattle.al_expr.specs.declared.column.Column.{Column}
use Rattle.al_expr.specs.declared.kinds.Typed.{Typed}
use Rattle.al_expr.specs.declared.tree.Operator.{Operator}
use Rattle.al_expr.specs.declared.tree.Prefix.{Prefix}
use Rattle.al_expr.specs.declared.tree.Expr.{Expr}
use Rattle.al_expr.specs.declared.tree.Expr.TheOpen.{Expr-F}
use Rattle.al_expr.specs.declared.tree.Expr.TheFolds.{fold-roll-Expr}
use Rattle.al_expr.specs.declared.tree.Expr.TheVariants as e
use Rattle.al_expr.specs.Nominal.{nominal_step, nominal, links_nominal, items_nominal}

pub nominal_literal : (place : ℕ) (value : Value) (columns : List Column) →
    nominal (e.Literal place value) columns ≡ nominal_step columns (Expr-F.Literal place value)
unfolding nominal
nominal_literal place value columns =
    ap (λ x. nominal x columns) (sym (e.rolls-Literal place value)) ∙ fold-roll-Expr Typed (nominal_step columns) (Expr-F.Literal place value)

pub nominal_date : (place : ℕ) (text : List ℕ) (columns : List Column) →
    nominal (e.Date place text) columns ≡ nominal_step columns (Expr-F.Date place text)
unfolding nominal
nominal_date place text columns =
    ap (λ x. nominal x columns) (sym (e.rolls-Date place text)) ∙ fold-roll-Expr Typed (nominal_step columns) (Expr-F.Date place text)

pub nominal_column : (place : ℕ) (name : List ℕ) (columns : List Column) →
    nominal (e.Column place name) columns ≡ nominal_step columns (Expr-F.Column place name)
unfolding nominal
nominal_column place name columns =
    ap (λ x. nominal x columns) (sym (e.rolls-Column place name)) ∙ fold-roll-Expr Typed (nominal_step columns) (Expr-F.Column place name)

pub nominal_chain : (first : Expr) (links : List (ℕ × Operator × Expr)) (columns : List Column) →
    nominal (e.Chain first links) columns ≡ nominal_step columns (Expr-F.Chain (nominal first columns) (links_nominal columns links))
unfolding nominal links_nominal
nominal_chain first links columns =
    ap (λ x. nominal x columns) (sym (e.rolls-Chain first links)) ∙ fold-roll-Expr Typed (nominal_step columns) (Expr-F.Chain first links)

pub nominal_prefixed : (operand : Expr) (prefixes : List (ℕ × Prefix)) (columns : List Column) →
    nominal (e.Prefixed operand prefixes) columns ≡ nominal_step columns (Expr-F.Prefixed (nominal operand columns) prefixes)
unfolding nominal
nominal_prefixed operand prefixes columns =
    ap (λ x. nominal x columns) (sym (e.rolls-Prefixed operand prefixes)) ∙ fold-roll-Expr Typed (nominal_step columns) (Expr-F.Prefixed operand prefixes)

pub nominal_casts : (operand : Expr) (casts : List (ℕ × Kind)) (columns : List Column) →
    nominal (e.Casts operand casts) columns ≡ nominal_step columns (Expr-F.Casts (nominal operand columns) casts)
unfolding nominal
nominal_casts operand casts columns =
    ap (λ x. nominal x columns) (sym (e.rolls-Casts operand casts)) ∙ fold-roll-Expr Typed (nominal_step columns) (Expr-F.Casts operand casts)

pub nominal_is_null : (operand : Expr) (tests : List (ℕ × Bool)) (columns : List Column) →
    nominal (e.IsNull operand tests) columns ≡ nominal_step columns (Expr-F.IsNull (nominal operand columns) tests)
unfolding nominal
nominal_is_null operand tests columns =
    ap (λ x. nominal x columns) (sym (e.rolls-IsNull operand tests)) ∙ fold-roll-Expr Typed (nominal_step columns) (Expr-F.IsNull operand tests)

pub nominal_between : (place : ℕ) (negated : Bool) (value : Expr) (low : Expr) (high : Expr) (columns : List Column) →
    nominal (e.Between place negated value low high) columns ≡ nominal_step columns (Expr-F.Between place negated (nominal value columns) (nominal low columns) (nominal high columns))
unfolding nominal
nominal_between place negated value low high columns =
    ap (λ x. nominal x columns) (sym (e.rolls-Between place negated value low high)) ∙ fold-roll-Expr Typed (nominal_step columns) (Expr-F.Between place negated value low high)

pub nominal_in : (place : ℕ) (negated : Bool) (value : Expr) (items : List Expr) (columns : List Column) →
    nominal (e.In place negated value items) columns ≡ nominal_step columns (Expr-F.In place negated (nominal value columns) (items_nominal columns items))
unfolding nominal items_nominal
nominal_in place negated value items columns =
    ap (λ x. nominal x columns) (sym (e.rolls-In place negated value items)) ∙ fold-roll-Expr Typed (nominal_step columns) (Expr-F.In place negated value items)

pub nominal_coalesce : (place : ℕ) (items : List Expr) (columns : List Column) →
    nominal (e.Coalesce place items) columns ≡ nominal_step columns (Expr-F.Coalesce place (items_nominal columns items))
unfolding nominal items_nominal
nominal_coalesce place items columns =
    ap (λ x. nominal x columns) (sym (e.rolls-Coalesce place items)) ∙ fold-roll-Expr Typed (nominal_step columns) (Expr-F.Coalesce place items)

pub nominal_abs : (place : ℕ) (operand : Expr) (columns : List Column) →
    nominal (e.Abs place operand) columns ≡ nominal_step columns (Expr-F.Abs place (nominal operand columns))
unfolding nominal
nominal_abs place operand columns =
    ap (λ x. nominal x columns) (sym (e.rolls-Abs place operand)) ∙ fold-roll-Expr Typed (nominal_step columns) (Expr-F.Abs place operand)

pub nominal_length : (place : ℕ) (operand : Expr) (columns : List Column) →
    nominal (e.Length place operand) columns ≡ nominal_step columns (Expr-F.Length place (nominal operand columns))
unfolding nominal
nominal_length place operand columns =
    ap (λ x. nominal x columns) (sym (e.rolls-Length place operand)) ∙ fold-roll-Expr Typed (nominal_step columns) (Expr-F.Length place operand)

pub ruleset nominal_nodes = (nominal_literal, nominal_date, nominal_column, nominal_chain, nominal_prefixed, nominal_casts, nominal_is_null, nominal_between, nominal_in, nominal_coalesce, nominal_abs, nominal_length)
