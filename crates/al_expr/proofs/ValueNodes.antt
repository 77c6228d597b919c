-- `value_of`, one equation for each variant.
use Rattle.std.proofs.Common.{◌≡◌, ℕ, Bool, List, [], ◌∷◌, map, Some, Ok, refl, sym, ap, ◌∙◌}
use Rattle.al_values.specs.declared.kinds.Kind.{Kind}
use Rattle.al_values.specs.declared.scalar.Value.{Value}
use Rattle.al_expr.specs.declared.column.Column.{Column}
use Rattle.al_expr.specs.declared.tree.Operator.{Operator}
use Rattle.al_expr.specs.declared.tree.Prefix.{Prefix}
use Rattle.al_expr.specs.declared.tree.Expr.{Expr}
use Rattle.al_expr.specs.declared.tree.Expr.TheOpen.{Expr-F}
use Rattle.al_expr.specs.declared.tree.Expr.TheFolds.{para-roll-Expr}
use Rattle.al_expr.specs.declared.tree.Expr.TheVariants as e
use Rattle.al_values.specs.declared.kinds.Kind.TheVariants as kinds
use Rattle.al_values.specs.Reading.{read_as}
use Rattle.al_expr.specs.declared.kinds.Typed.TheVariants as types
use Rattle.al_expr.specs.Then.{◌>>=◌}
use Rattle.al_expr.specs.Columns.{column_value}
use Rattle.al_expr.specs.Kinds.{common, common_with, settled}
use Rattle.al_expr.specs.Values.{Outcome, converted, literal_value, denied_if, absolute, measured}
use Rattle.al_expr.specs.Nominal.{shared_by, met, nominal, items_nominal}
use Rattle.al_expr.specs.Evaluation.{Side, chain_value, prefixed_value, casts_value, tests_value, between_value, side_value, in_items, coalesce_value, sides_of, link_of, kinds_of, value_step, value_of, links_sides, items_sides}

abbrev with_value : List Column → List Value → Expr → Expr × Outcome
with_value columns row expr = (expr, value_of expr columns row)

abbrev links_with : List Column → List Value → List (ℕ × Operator × Expr) → List (ℕ × Operator × (Expr × Outcome))
links_with columns row links = map (λ link. (link.0, link.1, (link.2, value_of link.2 columns row))) links

abbrev items_with : List Column → List Value → List Expr → List (Expr × Outcome)
items_with columns row items = map (λ item. (item, value_of item columns row)) items

links_are : (columns : List Column) (row : List Value) (links : List (ℕ × Operator × Expr)) →
    map (link_of columns) (links_with columns row links) ≡ links_sides columns row links
unfolding links_sides
links_are columns row [] = refl
links_are columns row (link ∷ links) = ap (λ rest. (link.0, link.1, (nominal link.2 columns, value_of link.2 columns row)) ∷ rest) (links_are columns row links)

items_are : (columns : List Column) (row : List Value) (items : List Expr) →
    sides_of columns (items_with columns row items) ≡ items_sides columns row items
unfolding items_sides
items_are columns row [] = refl
items_are columns row (item ∷ items) = ap (λ rest. (nominal item columns, value_of item columns row) ∷ rest) (items_are columns row items)

kinds_are : (columns : List Column) (row : List Value) (items : List Expr) →
    kinds_of (items_sides columns row items) ≡ items_nominal columns items
unfolding items_sides items_nominal
kinds_are columns row [] = refl
kinds_are columns row (item ∷ items) = ap (λ rest. nominal item columns ∷ rest) (kinds_are columns row items)

abbrev pub in_all : Kind → Bool → Side → List Side → Outcome
in_all kind negated value sides = in_items kind value sides >>= (λ truth. Ok (denied_if negated truth))

pub value_literal : (place : ℕ) (value : Value) (columns : List Column) (row : List Value) →
    value_of (e.Literal place value) columns row ≡ literal_value value
unfolding value_of
value_literal place value columns row =
    ap (λ x. value_of x columns row) (sym (e.rolls-Literal place value)) ∙ para-roll-Expr Outcome (value_step columns row) (Expr-F.Literal place value)

pub value_date : (place : ℕ) (text : List ℕ) (columns : List Column) (row : List Value) →
    value_of (e.Date place text) columns row ≡ converted (read_as text kinds.Date)
unfolding value_of
value_date place text columns row =
    ap (λ x. value_of x columns row) (sym (e.rolls-Date place text)) ∙ para-roll-Expr Outcome (value_step columns row) (Expr-F.Date place text)

pub value_column : (place : ℕ) (name : List ℕ) (columns : List Column) (row : List Value) →
    value_of (e.Column place name) columns row ≡ Ok (column_value columns row name)
unfolding value_of
value_column place name columns row =
    ap (λ x. value_of x columns row) (sym (e.rolls-Column place name)) ∙ para-roll-Expr Outcome (value_step columns row) (Expr-F.Column place name)

pub value_chain : (first : Expr) (links : List (ℕ × Operator × Expr)) (columns : List Column) (row : List Value) →
    value_of (e.Chain first links) columns row ≡
    (value_of first columns row >>= (λ left. chain_value (nominal first columns) left (links_sides columns row links)))
unfolding value_of
value_chain first links columns row =
    ap (λ x. value_of x columns row) (sym (e.rolls-Chain first links)) ∙ para-roll-Expr Outcome (value_step columns row) (Expr-F.Chain first links)
    ∙ ap (λ sides. value_of first columns row >>= (λ left. chain_value (nominal first columns) left sides)) (links_are columns row links)

pub value_prefixed : (operand : Expr) (prefixes : List (ℕ × Prefix)) (columns : List Column) (row : List Value) →
    value_of (e.Prefixed operand prefixes) columns row ≡
    (value_of operand columns row >>= (λ value. prefixed_value (nominal operand columns) value prefixes))
unfolding value_of
value_prefixed operand prefixes columns row =
    ap (λ x. value_of x columns row) (sym (e.rolls-Prefixed operand prefixes)) ∙ para-roll-Expr Outcome (value_step columns row) (Expr-F.Prefixed operand prefixes)

pub value_casts : (operand : Expr) (casts : List (ℕ × Kind)) (columns : List Column) (row : List Value) →
    value_of (e.Casts operand casts) columns row ≡
    (value_of operand columns row >>= (λ value. casts_value value casts))
unfolding value_of
value_casts operand casts columns row =
    ap (λ x. value_of x columns row) (sym (e.rolls-Casts operand casts)) ∙ para-roll-Expr Outcome (value_step columns row) (Expr-F.Casts operand casts)

pub value_is_null : (operand : Expr) (tests : List (ℕ × Bool)) (columns : List Column) (row : List Value) →
    value_of (e.IsNull operand tests) columns row ≡
    (side_value kinds.Text (nominal operand columns, value_of operand columns row) >>= (λ value. Ok (tests_value value tests)))
unfolding value_of
value_is_null operand tests columns row =
    ap (λ x. value_of x columns row) (sym (e.rolls-IsNull operand tests)) ∙ para-roll-Expr Outcome (value_step columns row) (Expr-F.IsNull operand tests)

pub value_between : (place : ℕ) (negated : Bool) (value : Expr) (low : Expr) (high : Expr) (columns : List Column) (row : List Value) →
    value_of (e.Between place negated value low high) columns row ≡
    (between_value (met (common_with (common (nominal value columns) (nominal low columns)) (nominal high columns)))
    (nominal value columns, value_of value columns row) (nominal low columns, value_of low columns row) (nominal high columns, value_of high columns row)
    >>= (λ truth. Ok (denied_if negated truth)))
unfolding value_of
value_between place negated value low high columns row =
    ap (λ x. value_of x columns row) (sym (e.rolls-Between place negated value low high)) ∙ para-roll-Expr Outcome (value_step columns row) (Expr-F.Between place negated value low high)

pub value_in : (place : ℕ) (negated : Bool) (value : Expr) (items : List Expr) (columns : List Column) (row : List Value) →
    value_of (e.In place negated value items) columns row ≡
    in_all (met (shared_by (Some (nominal value columns)) (items_nominal columns items))) negated (nominal value columns, value_of value columns row) (items_sides columns row items)
unfolding value_of
value_in place negated value items columns row =
    ap (λ x. value_of x columns row) (sym (e.rolls-In place negated value items)) ∙ para-roll-Expr Outcome (value_step columns row) (Expr-F.In place negated value items)
    ∙ ap (λ sides. in_all (met (shared_by (Some (nominal value columns)) (kinds_of sides))) negated (nominal value columns, value_of value columns row) sides) (items_are columns row items)
    ∙ ap (λ kinds. in_all (met (shared_by (Some (nominal value columns)) kinds)) negated (nominal value columns, value_of value columns row) (items_sides columns row items)) (kinds_are columns row items)

pub value_coalesce : (place : ℕ) (items : List Expr) (columns : List Column) (row : List Value) →
    value_of (e.Coalesce place items) columns row ≡
    coalesce_value (met (shared_by (Some types.Untyped) (items_nominal columns items))) (items_sides columns row items)
unfolding value_of
value_coalesce place items columns row =
    ap (λ x. value_of x columns row) (sym (e.rolls-Coalesce place items)) ∙ para-roll-Expr Outcome (value_step columns row) (Expr-F.Coalesce place items)
    ∙ ap (λ sides. coalesce_value (met (shared_by (Some types.Untyped) (kinds_of sides))) sides) (items_are columns row items)
    ∙ ap (λ kinds. coalesce_value (met (shared_by (Some types.Untyped) kinds)) (items_sides columns row items)) (kinds_are columns row items)

pub value_abs : (place : ℕ) (operand : Expr) (columns : List Column) (row : List Value) →
    value_of (e.Abs place operand) columns row ≡
    (value_of operand columns row >>= (λ value. absolute (settled (nominal operand columns)) value))
unfolding value_of
value_abs place operand columns row =
    ap (λ x. value_of x columns row) (sym (e.rolls-Abs place operand)) ∙ para-roll-Expr Outcome (value_step columns row) (Expr-F.Abs place operand)

pub value_length : (place : ℕ) (operand : Expr) (columns : List Column) (row : List Value) →
    value_of (e.Length place operand) columns row ≡
    (side_value kinds.Text (nominal operand columns, value_of operand columns row) >>= measured)
unfolding value_of
value_length place operand columns row =
    ap (λ x. value_of x columns row) (sym (e.rolls-Length place operand)) ∙ para-roll-Expr Outcome (value_step columns row) (Expr-F.Length place operand)

pub ruleset value_nodes = (value_literal, value_date, value_column, value_chain, value_prefixed, value_casts, value_is_null, value_between, value_in, value_coalesce, value_abs, value_length)
