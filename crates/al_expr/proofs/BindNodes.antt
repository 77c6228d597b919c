-- `bound_of`, one equation for each variant.
use Rattle.std.proofs.Common.{◌≡◌, ℕ, Bool, List, [], ◌∷◌, map, Some, refl, sym, ap, ◌∙◌}
use Rattle.al_values.specs.declared.kinds.Kind.{Kind}
use Rattle.al_values.specs.declared.kinds.Kind.TheVariants as kinds
use Rattle.al_values.specs.declared.scalar.Value.{Value}
use Rattle.al_values.specs.Reading.{read_as}
use Rattle.al_expr.specs.declared.bound.Bound.{Bound}
use Rattle.al_expr.specs.declared.bound.Bound.TheVariants as b
use Rattle.al_expr.specs.declared.column.Column.{Column}
use Rattle.al_expr.specs.declared.kinds.Typed.TheVariants as types
use Rattle.al_expr.specs.declared.tree.Operator.{Operator}
use Rattle.al_expr.specs.declared.tree.Prefix.{Prefix}
use Rattle.al_expr.specs.declared.tree.Expr.{Expr}
use Rattle.al_expr.specs.declared.tree.Expr.TheOpen.{Expr-F}
use Rattle.al_expr.specs.declared.tree.Expr.TheFolds.{para-roll-Expr}
use Rattle.al_expr.specs.declared.tree.Expr.TheVariants as e
use Rattle.al_expr.specs.Kinds.{common, common_with, settled}
use Rattle.al_expr.specs.Nominal.{nominal, items_nominal, shared_by, met}
use Rattle.al_expr.specs.Values.{converted, literal_value}
use Rattle.al_expr.specs.Binding.{Operand, place_from, bound_place, bound_outcome, operand_bound, bind_step, bound_of, bound_as, links_joints, items_as}

abbrev pub between_bound : Kind → Bool → Expr → Expr → Expr → List Column → Bound
between_bound kind negated value low high columns =
    b.Between negated (bound_as kind value columns) (bound_as kind low columns) (bound_as kind high columns)

abbrev with_bound : List Column → List Expr → List Operand
with_bound columns items = map (λ item. (item, bound_of item columns)) items

exprs_are : (columns : List Column) (items : List Expr) → map (λ item. item.0) (with_bound columns items) ≡ items
exprs_are columns [] = refl
exprs_are columns (item ∷ items) = ap (λ rest. item ∷ rest) (exprs_are columns items)

items_are : (kind : Kind) (columns : List Column) (items : List Expr) → map (operand_bound kind columns) (with_bound columns items) ≡ items_as kind columns items
unfolding items_as
items_are kind columns [] = refl
items_are kind columns (item ∷ items) = ap (λ rest. bound_as kind item columns ∷ rest) (items_are kind columns items)

pub bind_literal : (place : ℕ) (value : Value) (columns : List Column) →
    bound_of (e.Literal place value) columns ≡ bound_outcome (literal_value value)
unfolding bound_of
bind_literal place value columns =
    ap (λ x. bound_of x columns) (sym (e.rolls-Literal place value)) ∙ para-roll-Expr Bound (bind_step columns) (Expr-F.Literal place value)

pub bind_date : (place : ℕ) (text : List ℕ) (columns : List Column) →
    bound_of (e.Date place text) columns ≡ bound_outcome (converted (read_as text kinds.Date))
unfolding bound_of
bind_date place text columns =
    ap (λ x. bound_of x columns) (sym (e.rolls-Date place text)) ∙ para-roll-Expr Bound (bind_step columns) (Expr-F.Date place text)

pub bind_column : (place : ℕ) (name : List ℕ) (columns : List Column) →
    bound_of (e.Column place name) columns ≡ bound_place (place_from 0 columns name)
unfolding bound_of
bind_column place name columns =
    ap (λ x. bound_of x columns) (sym (e.rolls-Column place name)) ∙ para-roll-Expr Bound (bind_step columns) (Expr-F.Column place name)

pub bind_chain : (first : Expr) (links : List (ℕ × Operator × Expr)) (columns : List Column) →
    bound_of (e.Chain first links) columns ≡ b.Chain (bound_of first columns) (links_joints columns (nominal first columns) links)
unfolding bound_of links_joints
bind_chain first links columns =
    ap (λ x. bound_of x columns) (sym (e.rolls-Chain first links)) ∙ para-roll-Expr Bound (bind_step columns) (Expr-F.Chain first links)

pub bind_prefixed : (operand : Expr) (prefixes : List (ℕ × Prefix)) (columns : List Column) →
    bound_of (e.Prefixed operand prefixes) columns ≡ b.Prefixed (nominal operand columns) (bound_of operand columns) prefixes
unfolding bound_of
bind_prefixed operand prefixes columns =
    ap (λ x. bound_of x columns) (sym (e.rolls-Prefixed operand prefixes)) ∙ para-roll-Expr Bound (bind_step columns) (Expr-F.Prefixed operand prefixes)

pub bind_casts : (operand : Expr) (casts : List (ℕ × Kind)) (columns : List Column) →
    bound_of (e.Casts operand casts) columns ≡ b.Casts (bound_of operand columns) casts
unfolding bound_of
bind_casts operand casts columns =
    ap (λ x. bound_of x columns) (sym (e.rolls-Casts operand casts)) ∙ para-roll-Expr Bound (bind_step columns) (Expr-F.Casts operand casts)

pub bind_is_null : (operand : Expr) (tests : List (ℕ × Bool)) (columns : List Column) →
    bound_of (e.IsNull operand tests) columns ≡ b.IsNull (bound_as kinds.Text operand columns) tests
unfolding bound_of
bind_is_null operand tests columns =
    ap (λ x. bound_of x columns) (sym (e.rolls-IsNull operand tests)) ∙ para-roll-Expr Bound (bind_step columns) (Expr-F.IsNull operand tests)

pub bind_between : (place : ℕ) (negated : Bool) (value : Expr) (low : Expr) (high : Expr) (columns : List Column) →
    bound_of (e.Between place negated value low high) columns ≡ between_bound (met (common_with (common (nominal value columns) (nominal low columns)) (nominal high columns))) negated value low high columns
unfolding bound_of
bind_between place negated value low high columns =
    ap (λ x. bound_of x columns) (sym (e.rolls-Between place negated value low high)) ∙ para-roll-Expr Bound (bind_step columns) (Expr-F.Between place negated value low high)

pub bind_in : (place : ℕ) (negated : Bool) (value : Expr) (items : List Expr) (columns : List Column) →
    bound_of (e.In place negated value items) columns ≡ b.In negated (bound_as (met (shared_by (Some (nominal value columns)) (items_nominal columns items))) value columns)
    (items_as (met (shared_by (Some (nominal value columns)) (items_nominal columns items))) columns items)
unfolding bound_of
bind_in place negated value items columns =
    ap (λ x. bound_of x columns) (sym (e.rolls-In place negated value items)) ∙ para-roll-Expr Bound (bind_step columns) (Expr-F.In place negated value items)
    ∙ ap (λ exprs. b.In negated (bound_as (met (shared_by (Some (nominal value columns)) (items_nominal columns exprs))) value columns)
    (map (operand_bound (met (shared_by (Some (nominal value columns)) (items_nominal columns exprs))) columns) (with_bound columns items))) (exprs_are columns items)
    ∙ ap (b.In negated (bound_as (met (shared_by (Some (nominal value columns)) (items_nominal columns items))) value columns))
    (items_are (met (shared_by (Some (nominal value columns)) (items_nominal columns items))) columns items)

pub bind_coalesce : (place : ℕ) (items : List Expr) (columns : List Column) →
    bound_of (e.Coalesce place items) columns ≡ b.Coalesce (items_as (met (shared_by (Some types.Untyped) (items_nominal columns items))) columns items)
unfolding bound_of
bind_coalesce place items columns =
    ap (λ x. bound_of x columns) (sym (e.rolls-Coalesce place items)) ∙ para-roll-Expr Bound (bind_step columns) (Expr-F.Coalesce place items)
    ∙ ap (λ exprs. b.Coalesce (map (operand_bound (met (shared_by (Some types.Untyped) (items_nominal columns exprs))) columns) (with_bound columns items))) (exprs_are columns items)
    ∙ ap b.Coalesce (items_are (met (shared_by (Some types.Untyped) (items_nominal columns items))) columns items)

pub bind_abs : (place : ℕ) (operand : Expr) (columns : List Column) →
    bound_of (e.Abs place operand) columns ≡ b.Abs (settled (nominal operand columns)) (bound_of operand columns)
unfolding bound_of
bind_abs place operand columns =
    ap (λ x. bound_of x columns) (sym (e.rolls-Abs place operand)) ∙ para-roll-Expr Bound (bind_step columns) (Expr-F.Abs place operand)

pub bind_length : (place : ℕ) (operand : Expr) (columns : List Column) →
    bound_of (e.Length place operand) columns ≡ b.Length (bound_as kinds.Text operand columns)
unfolding bound_of
bind_length place operand columns =
    ap (λ x. bound_of x columns) (sym (e.rolls-Length place operand)) ∙ para-roll-Expr Bound (bind_step columns) (Expr-F.Length place operand)

pub ruleset bind_nodes = (bind_literal, bind_date, bind_column, bind_chain, bind_prefixed, bind_casts, bind_is_null, bind_between, bind_in, bind_coalesce, bind_abs, bind_length)
