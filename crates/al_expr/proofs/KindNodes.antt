-- `kind_is`, one equation for each variant.
use Rattle.std.proofs.Common.{◌≡◌, ℕ, Bool, List, sym, ap, ◌∙◌}
use Rattle.al_values.specs.declared.kinds.Kind.{Kind}
use Rattle.al_values.specs.declared.scalar.Value.{Value}
use Rattle.al_expr.specs.declared.column.Column.{Column}
use Rattle.al_expr.specs.declared.tree.Operator.{Operator}
use Rattle.al_expr.specs.declared.tree.Prefix.{Prefix}
use Rattle.al_expr.specs.declared.tree.Expr.{Expr}
use Rattle.al_expr.specs.declared.tree.Expr.TheOpen.{Expr-F}
use Rattle.al_expr.specs.declared.tree.Expr.TheFolds.{fold-roll-Expr}
use Rattle.al_expr.specs.declared.tree.Expr.TheVariants as e
use Rattle.al_expr.specs.Typing.{Answer, kind_step, kind_is, links_kinds, items_kinds}

pub kind_literal : (place : ℕ) (value : Value) (columns : List Column) →
    kind_is (e.Literal place value) columns ≡ kind_step columns (Expr-F.Literal place value)
unfolding kind_is
kind_literal place value columns =
    ap (λ x. kind_is x columns) (sym (e.rolls-Literal place value)) ∙ fold-roll-Expr Answer (kind_step columns) (Expr-F.Literal place value)

pub kind_date : (place : ℕ) (text : List ℕ) (columns : List Column) →
    kind_is (e.Date place text) columns ≡ kind_step columns (Expr-F.Date place text)
unfolding kind_is
kind_date place text columns =
    ap (λ x. kind_is x columns) (sym (e.rolls-Date place text)) ∙ fold-roll-Expr Answer (kind_step columns) (Expr-F.Date place text)

pub kind_column : (place : ℕ) (name : List ℕ) (columns : List Column) →
    kind_is (e.Column place name) columns ≡ kind_step columns (Expr-F.Column place name)
unfolding kind_is
kind_column place name columns =
    ap (λ x. kind_is x columns) (sym (e.rolls-Column place name)) ∙ fold-roll-Expr Answer (kind_step columns) (Expr-F.Column place name)

pub kind_chain : (first : Expr) (links : List (ℕ × Operator × Expr)) (columns : List Column) →
    kind_is (e.Chain first links) columns ≡ kind_step columns (Expr-F.Chain (kind_is first columns) (links_kinds columns links))
unfolding kind_is links_kinds
kind_chain first links columns =
    ap (λ x. kind_is x columns) (sym (e.rolls-Chain first links)) ∙ fold-roll-Expr Answer (kind_step columns) (Expr-F.Chain first links)

pub kind_prefixed : (operand : Expr) (prefixes : List (ℕ × Prefix)) (columns : List Column) →
    kind_is (e.Prefixed operand prefixes) columns ≡ kind_step columns (Expr-F.Prefixed (kind_is operand columns) prefixes)
unfolding kind_is
kind_prefixed operand prefixes columns =
    ap (λ x. kind_is x columns) (sym (e.rolls-Prefixed operand prefixes)) ∙ fold-roll-Expr Answer (kind_step columns) (Expr-F.Prefixed operand prefixes)

pub kind_casts : (operand : Expr) (casts : List (ℕ × Kind)) (columns : List Column) →
    kind_is (e.Casts operand casts) columns ≡ kind_step columns (Expr-F.Casts (kind_is operand columns) casts)
unfolding kind_is
kind_casts operand casts columns =
    ap (λ x. kind_is x columns) (sym (e.rolls-Casts operand casts)) ∙ fold-roll-Expr Answer (kind_step columns) (Expr-F.Casts operand casts)

pub kind_is_null : (operand : Expr) (tests : List (ℕ × Bool)) (columns : List Column) →
    kind_is (e.IsNull operand tests) columns ≡ kind_step columns (Expr-F.IsNull (kind_is operand columns) tests)
unfolding kind_is
kind_is_null operand tests columns =
    ap (λ x. kind_is x columns) (sym (e.rolls-IsNull operand tests)) ∙ fold-roll-Expr Answer (kind_step columns) (Expr-F.IsNull operand tests)

pub kind_between : (place : ℕ) (negated : Bool) (value : Expr) (low : Expr) (high : Expr) (columns : List Column) →
    kind_is (e.Between place negated value low high) columns ≡ kind_step columns (Expr-F.Between place negated (kind_is value columns) (kind_is low columns) (kind_is high columns))
unfolding kind_is
kind_between place negated value low high columns =
    ap (λ x. kind_is x columns) (sym (e.rolls-Between place negated value low high)) ∙ fold-roll-Expr Answer (kind_step columns) (Expr-F.Between place negated value low high)

pub kind_in : (place : ℕ) (negated : Bool) (value : Expr) (items : List Expr) (columns : List Column) →
    kind_is (e.In place negated value items) columns ≡ kind_step columns (Expr-F.In place negated (kind_is value columns) (items_kinds columns items))
unfolding kind_is items_kinds
kind_in place negated value items columns =
    ap (λ x. kind_is x columns) (sym (e.rolls-In place negated value items)) ∙ fold-roll-Expr Answer (kind_step columns) (Expr-F.In place negated value items)

pub kind_coalesce : (place : ℕ) (items : List Expr) (columns : List Column) →
    kind_is (e.Coalesce place items) columns ≡ kind_step columns (Expr-F.Coalesce place (items_kinds columns items))
unfolding kind_is items_kinds
kind_coalesce place items columns =
    ap (λ x. kind_is x columns) (sym (e.rolls-Coalesce place items)) ∙ fold-roll-Expr Answer (kind_step columns) (Expr-F.Coalesce place items)

pub kind_abs : (place : ℕ) (operand : Expr) (columns : List Column) →
    kind_is (e.Abs place operand) columns ≡ kind_step columns (Expr-F.Abs place (kind_is operand columns))
unfolding kind_is
kind_abs place operand columns =
    ap (λ x. kind_is x columns) (sym (e.rolls-Abs place operand)) ∙ fold-roll-Expr Answer (kind_step columns) (Expr-F.Abs place operand)

pub kind_length : (place : ℕ) (operand : Expr) (columns : List Column) →
    kind_is (e.Length place operand) columns ≡ kind_step columns (Expr-F.Length place (kind_is operand columns))
unfolding kind_is
kind_length place operand columns =
    ap (λ x. kind_is x columns) (sym (e.rolls-Length place operand)) ∙ fold-roll-Expr Answer (kind_step columns) (Expr-F.Length place operand)

pub ruleset kind_nodes = (kind_literal, kind_date, kind_column, kind_chain, kind_prefixed, kind_casts, kind_is_null, kind_between, kind_in, kind_coalesce, kind_abs, kind_length)
