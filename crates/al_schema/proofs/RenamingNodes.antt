-- `renamed`, one equation for each variant.
use Rattle.std.proofs.Common.{◌≡◌, ℕ, Bool, List, sym, ap, ◌∙◌}
use Rattle.al_values.specs.declared.kinds.Kind.{Kind}
use Rattle.al_values.specs.declared.scalar.Value.{Value}
use Rattle.al_expr.specs.declared.tree.Operator.{Operator}
use Rattle.al_expr.specs.declared.tree.Prefix.{Prefix}
use Rattle.al_expr.specs.declared.tree.Expr.{Expr}
use Rattle.al_expr.specs.declared.tree.Expr.TheOpen.{Expr-F}
use Rattle.al_expr.specs.declared.tree.Expr.TheFolds.{fold-roll-Expr}
use Rattle.al_expr.specs.declared.tree.Expr.TheVariants as e
use Rattle.al_schema.specs.Naming.{renamed_step, renamed, links_renamed, items_renamed}

pub renaming_literal : (from to : List ℕ) (place : ℕ) (value : Value) →
    renamed from to (e.Literal place value) ≡ renamed_step from to (Expr-F.Literal place value)
unfolding renamed
renaming_literal from to place value = ap (λ x. renamed from to x) (sym (e.rolls-Literal place value)) ∙ fold-roll-Expr Expr (renamed_step from to) (Expr-F.Literal place value)

pub renaming_date : (from to : List ℕ) (place : ℕ) (text : List ℕ) →
    renamed from to (e.Date place text) ≡ renamed_step from to (Expr-F.Date place text)
unfolding renamed
renaming_date from to place text = ap (λ x. renamed from to x) (sym (e.rolls-Date place text)) ∙ fold-roll-Expr Expr (renamed_step from to) (Expr-F.Date place text)

pub renaming_column : (from to : List ℕ) (place : ℕ) (column : List ℕ) →
    renamed from to (e.Column place column) ≡ renamed_step from to (Expr-F.Column place column)
unfolding renamed
renaming_column from to place column = ap (λ x. renamed from to x) (sym (e.rolls-Column place column)) ∙ fold-roll-Expr Expr (renamed_step from to) (Expr-F.Column place column)

pub renaming_chain : (from to : List ℕ) (first : Expr) (links : List (ℕ × Operator × Expr)) →
    renamed from to (e.Chain first links) ≡ renamed_step from to (Expr-F.Chain (renamed from to first) (links_renamed from to links))
unfolding renamed links_renamed
renaming_chain from to first links = ap (λ x. renamed from to x) (sym (e.rolls-Chain first links)) ∙ fold-roll-Expr Expr (renamed_step from to) (Expr-F.Chain first links)

pub renaming_prefixed : (from to : List ℕ) (operand : Expr) (prefixes : List (ℕ × Prefix)) →
    renamed from to (e.Prefixed operand prefixes) ≡ renamed_step from to (Expr-F.Prefixed (renamed from to operand) prefixes)
unfolding renamed
renaming_prefixed from to operand prefixes = ap (λ x. renamed from to x) (sym (e.rolls-Prefixed operand prefixes)) ∙ fold-roll-Expr Expr (renamed_step from to) (Expr-F.Prefixed operand prefixes)

pub renaming_casts : (from to : List ℕ) (operand : Expr) (casts : List (ℕ × Kind)) →
    renamed from to (e.Casts operand casts) ≡ renamed_step from to (Expr-F.Casts (renamed from to operand) casts)
unfolding renamed
renaming_casts from to operand casts = ap (λ x. renamed from to x) (sym (e.rolls-Casts operand casts)) ∙ fold-roll-Expr Expr (renamed_step from to) (Expr-F.Casts operand casts)

pub renaming_is_null : (from to : List ℕ) (operand : Expr) (tests : List (ℕ × Bool)) →
    renamed from to (e.IsNull operand tests) ≡ renamed_step from to (Expr-F.IsNull (renamed from to operand) tests)
unfolding renamed
renaming_is_null from to operand tests = ap (λ x. renamed from to x) (sym (e.rolls-IsNull operand tests)) ∙ fold-roll-Expr Expr (renamed_step from to) (Expr-F.IsNull operand tests)

pub renaming_between : (from to : List ℕ) (place : ℕ) (negated : Bool) (value : Expr) (low : Expr) (high : Expr) →
    renamed from to (e.Between place negated value low high) ≡ renamed_step from to (Expr-F.Between place negated (renamed from to value) (renamed from to low) (renamed from to high))
unfolding renamed
renaming_between from to place negated value low high = ap (λ x. renamed from to x) (sym (e.rolls-Between place negated value low high)) ∙ fold-roll-Expr Expr (renamed_step from to) (Expr-F.Between place negated value low high)

pub renaming_in : (from to : List ℕ) (place : ℕ) (negated : Bool) (value : Expr) (items : List Expr) →
    renamed from to (e.In place negated value items) ≡ renamed_step from to (Expr-F.In place negated (renamed from to value) (items_renamed from to items))
unfolding renamed items_renamed
renaming_in from to place negated value items = ap (λ x. renamed from to x) (sym (e.rolls-In place negated value items)) ∙ fold-roll-Expr Expr (renamed_step from to) (Expr-F.In place negated value items)

pub renaming_coalesce : (from to : List ℕ) (place : ℕ) (items : List Expr) →
    renamed from to (e.Coalesce place items) ≡ renamed_step from to (Expr-F.Coalesce place (items_renamed from to items))
unfolding renamed items_renamed
renaming_coalesce from to place items = ap (λ x. renamed from to x) (sym (e.rolls-Coalesce place items)) ∙ fold-roll-Expr Expr (renamed_step from to) (Expr-F.Coalesce place items)

pub renaming_abs : (from to : List ℕ) (place : ℕ) (operand : Expr) →
    renamed from to (e.Abs place operand) ≡ renamed_step from to (Expr-F.Abs place (renamed from to operand))
unfolding renamed
renaming_abs from to place operand = ap (λ x. renamed from to x) (sym (e.rolls-Abs place operand)) ∙ fold-roll-Expr Expr (renamed_step from to) (Expr-F.Abs place operand)

pub renaming_length : (from to : List ℕ) (place : ℕ) (operand : Expr) →
    renamed from to (e.Length place operand) ≡ renamed_step from to (Expr-F.Length place (renamed from to operand))
unfolding renamed
renaming_length from to place operand = ap (λ x. renamed from to x) (sym (e.rolls-Length place operand)) ∙ fold-roll-Expr Expr (renamed_step from to) (Expr-F.Length place operand)

pub ruleset renaming_nodes = (renaming_literal, renaming_date, renaming_column, renaming_chain, renaming_prefixed, renaming_casts, renaming_is_null, renaming_between, renaming_in, renaming_coalesce, renaming_abs, renaming_length)
