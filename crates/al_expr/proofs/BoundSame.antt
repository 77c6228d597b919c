-- A bound expression has the value of the expression, on every row: node by node.
use Rattle.std.proofs.Common.{◌≡◌, ℕ, suc, ◌+◌, Bool, true, false, List, [], ◌∷◌, map, Option, Some, None, option_map, Result, Ok, Err, refl, sym, ap, ◌∙◌, subst, arith}
use Rattle.std.specs.Prelude.{if◌then◌else◌, IfOk}
use Rattle.std.specs.List.{slice_get}
use Rattle.al_values.specs.declared.kinds.Kind.{Kind}
use Rattle.al_values.specs.declared.kinds.Kind.TheVariants as kinds
use Rattle.al_values.specs.declared.scalar.Value.{Value}
use Rattle.al_values.specs.declared.scalar.Value.TheVariants as values
use Rattle.al_values.specs.Convert.{assigned}
use Rattle.al_values.specs.Reading.{read_as}
use Rattle.al_expr.specs.declared.bound.Bound.{Bound}
use Rattle.al_expr.specs.declared.column.Column.{Column}
use Rattle.al_expr.specs.declared.kinds.Typed.{Typed}
use Rattle.al_expr.specs.declared.kinds.Typed.TheVariants as types
use Rattle.al_expr.specs.declared.tree.Comparison.TheVariants as comparisons
use Rattle.al_expr.specs.declared.tree.Operator.{Operator}
use Rattle.al_expr.specs.declared.tree.Expr.{Expr}
use Rattle.al_expr.specs.declared.tree.Expr.TheOpen.{Expr-F}
use Rattle.al_expr.specs.declared.tree.Expr.TheViews.{roll-Expr}
use Rattle.al_expr.specs.declared.tree.Expr.TheFolds.{map-Expr, ind-Expr}
use Rattle.al_expr.specs.declared.tree.Expr.TheVariants as e
use Rattle.al_expr.specs.Then.{◌>>=◌}
use Rattle.al_expr.specs.Columns.{same_name, column_value, first_value, later_values}
use Rattle.al_expr.specs.Kinds.{common, common_with, settled}
use Rattle.al_expr.specs.Nominal.{nominal, items_nominal, operator_gives, shared_by, met}
use Rattle.al_expr.specs.Values.{Outcome, converted, literal_value, read_in, decides, operated, operand_kind, related, either, denied_if, absolute, measured}
use Rattle.al_expr.specs.Evaluation.{Side, value_of, links_sides, items_sides, decided_value, operator_value, chain_value, prefixed_value, casts_value, tests_value, side_value, or_more, in_value, unless_null, coalesce_value}
use Rattle.al_expr.specs.Bound.{IsBound, or_null, placed, joint_value, joints_value, within_ends, among, first_of, bound_value, links_bound, items_bound}
use Rattle.al_expr.specs.Binding.{place_from, bound_place, bound_outcome, written, read_untyped, read_bound, joint_of, bound_of, bound_as, stored_bound, links_joints, items_as}
use Rattle.al_expr.specs.Roots.{root_of, stored_as, stored_of}
use Rattle.al_expr.proofs.WrittenNodes.{written_literal, written_date, written_column, written_chain, written_prefixed, written_casts, written_is_null, written_between, written_in, written_coalesce, written_abs, written_length}
use Rattle.al_expr.proofs.BindNodes.{bind_literal, bind_date, bind_column, bind_chain, bind_prefixed, bind_casts, bind_is_null, bind_between, bind_in, bind_coalesce, bind_abs, bind_length}
use Rattle.al_expr.proofs.BoundNodes.{bound_fixed, bound_faulty, bound_place as value_place, bound_chain, bound_prefixed, bound_casts, bound_is_null, bound_between, bound_in, bound_coalesce, bound_abs, bound_length, bound_read, bound_store}
use Rattle.al_expr.proofs.ValueNodes.{value_literal, value_date, value_column, value_chain, value_prefixed, value_casts, value_is_null, value_between, value_in, value_coalesce, value_abs, value_length}

-- ---- rows of steps

then_ok : (outcome : Outcome) → (outcome >>= (λ value. Ok value)) ≡ outcome
then_ok (Ok value) = refl
then_ok (Err fault) = refl

then_same : (outcome : Outcome) (f g : Value → Outcome) → ((value : Value) → f value ≡ g value) → (outcome >>= f) ≡ (outcome >>= g)
then_same (Ok value) f g same = same value
then_same (Err fault) f g same = refl

then_then : (outcome : Outcome) (f g : Value → Outcome) → ((outcome >>= f) >>= g) ≡ (outcome >>= (λ value. f value >>= g))
then_then (Ok value) f g = refl
then_then (Err fault) f g = refl

-- ---- leaves

pub outcome_same : (outcome : Outcome) (row : List Value) → bound_value (bound_outcome outcome) row ≡ outcome
outcome_same (Ok value) row = bound_fixed value row
outcome_same (Err fault) row = bound_faulty fault row

abbrev placed_or : List Value → Option ℕ → Value
placed_or row (Some place) = placed row place
placed_or row None = values.Null

place_value : (found : Option ℕ) (row : List Value) → bound_value (bound_place found) row ≡ Ok (placed_or row found)
place_value (Some place) row = value_place place row
place_value None row = bound_fixed values.Null row

next_place : (row : List Value) (place : ℕ) → placed row (place + 1) ≡ placed (later_values row) place
next_place [] place = refl
next_place (value ∷ row) place = let is : place + 1 ≡ suc place = omega arith in ap (λ n. or_null (slice_get (value ∷ row) n)) is

next_found : (row : List Value) (found : Option ℕ) → placed_or row (option_map (λ place. place + 1) found) ≡ placed_or (later_values row) found
next_found row (Some place) = next_place row place
next_found row None = refl

first_found : (row : List Value) → placed row 0 ≡ first_value row
first_found [] = refl
first_found (value ∷ row) = refl

column_by : (same : Bool) (row : List Value) (found : Option ℕ) (other : Value) → placed_or (later_values row) found ≡ other →
    placed_or row (if same then Some 0 else option_map (λ place. place + 1) found) ≡ (if same then first_value row else other)
column_by true row found other is = first_found row
column_by false row found other is = next_found row found ∙ is

-- the place, counted from the first column
abbrev place_in : List Column → List ℕ → Option ℕ
place_in [] name = None
place_in (column ∷ columns) name =
    if same_name column.name name then Some 0 else option_map (λ place. place + 1) (place_in columns name)

counted_on : (at : ℕ) (found : Option ℕ) → option_map (λ place. place + (at + 1)) found ≡ option_map (λ place. place + at) (option_map (λ place. place + 1) found)
counted_on at (Some place) = let is : place + (at + 1) ≡ place + 1 + at = omega arith in ap Some is
counted_on at None = refl

from_by : (same : Bool) (at : ℕ) (found later : Option ℕ) → later ≡ option_map (λ place. place + (at + 1)) found →
    (if same then Some at else later) ≡ option_map (λ place. place + at) (if same then Some 0 else option_map (λ place. place + 1) found)
from_by true at found later is = let none : at ≡ 0 + at = omega arith in ap Some none
from_by false at found later is = is ∙ counted_on at found

from_is : (at : ℕ) (columns : List Column) (name : List ℕ) → place_from at columns name ≡ option_map (λ place. place + at) (place_in columns name)
from_is at [] name = refl
from_is at (column ∷ columns) name =
    from_by (same_name column.name name) at (place_in columns name) (place_from (at + 1) columns name) (from_is (at + 1) columns name)

from_first : (found : Option ℕ) → option_map (λ place. place + 0) found ≡ found
from_first (Some place) = let is : place + 0 ≡ place = omega arith in ap Some is
from_first None = refl

column_same : (columns : List Column) (row : List Value) (name : List ℕ) → placed_or row (place_in columns name) ≡ column_value columns row name
column_same [] row name = refl
column_same (column ∷ columns) row name =
    column_by (same_name column.name name) row (place_in columns name) (column_value columns (later_values row) name) (column_same columns (later_values row) name)

-- ---- literals

abbrev IsWritten : List Column → List Value → Expr → Type 0
IsWritten columns row expr = (value : Value) → written expr ≡ Some value → value_of expr columns row ≡ literal_value value

no_literal : (expr : Expr) (columns : List Column) (row : List Value) → written expr ≡ None → IsWritten columns row expr
no_literal expr columns row none value is = absurd cc

on_written : (columns : List Column) (row : List Value) (node : Expr-F Expr) → IsWritten columns row (roll-Expr node)
on_written columns row (Expr-F.Literal place value) =
    subst (IsWritten columns row) (sym (e.rolls-Literal place value))
    (λ other is. value_literal place value columns row ∙ ap literal_value (let found = sym (written_literal place value) ∙ is in some_is value other found))
  where
    some_is : (value other : Value) → Some value ≡ Some other → value ≡ other
    some_is value other is = cc
on_written columns row (Expr-F.Date place text) = subst (IsWritten columns row) (sym (e.rolls-Date place text)) (no_literal _ columns row (written_date place text))
on_written columns row (Expr-F.Column place name) = subst (IsWritten columns row) (sym (e.rolls-Column place name)) (no_literal _ columns row (written_column place name))
on_written columns row (Expr-F.Chain first links) = subst (IsWritten columns row) (sym (e.rolls-Chain first links)) (no_literal _ columns row (written_chain first links))
on_written columns row (Expr-F.Prefixed operand prefixes) = subst (IsWritten columns row) (sym (e.rolls-Prefixed operand prefixes)) (no_literal _ columns row (written_prefixed operand prefixes))
on_written columns row (Expr-F.Casts operand casts) = subst (IsWritten columns row) (sym (e.rolls-Casts operand casts)) (no_literal _ columns row (written_casts operand casts))
on_written columns row (Expr-F.IsNull operand tests) = subst (IsWritten columns row) (sym (e.rolls-IsNull operand tests)) (no_literal _ columns row (written_is_null operand tests))
on_written columns row (Expr-F.Between place negated value low high) = subst (IsWritten columns row) (sym (e.rolls-Between place negated value low high)) (no_literal _ columns row (written_between place negated value low high))
on_written columns row (Expr-F.In place negated value items) = subst (IsWritten columns row) (sym (e.rolls-In place negated value items)) (no_literal _ columns row (written_in place negated value items))
on_written columns row (Expr-F.Coalesce place items) = subst (IsWritten columns row) (sym (e.rolls-Coalesce place items)) (no_literal _ columns row (written_coalesce place items))
on_written columns row (Expr-F.Abs place operand) = subst (IsWritten columns row) (sym (e.rolls-Abs place operand)) (no_literal _ columns row (written_abs place operand))
on_written columns row (Expr-F.Length place operand) = subst (IsWritten columns row) (sym (e.rolls-Length place operand)) (no_literal _ columns row (written_length place operand))

written_value : (columns : List Column) (row : List Value) (expr : Expr) → IsWritten columns row expr
written_value columns row = ind-Expr (IsWritten columns row) (λ node held is. on_written columns row node)

-- ---- operands

abbrev pub IsSame : List Column → List Value → Expr → Type 0
IsSame columns row expr = bound_value (bound_of expr columns) row ≡ value_of expr columns row

abbrev side : List Column → List Value → Expr → Side
side columns row expr = (nominal expr columns, value_of expr columns row)

untyped_same : (kind : Kind) (expr : Expr) (columns : List Column) (row : List Value) (literal : Option Value) → IsSame columns row expr → written expr ≡ literal →
    bound_value (read_untyped kind literal (bound_of expr columns)) row ≡ (value_of expr columns row >>= (λ value. read_in kind types.Untyped value))
untyped_same kind expr columns row (Some value) same is =
    outcome_same (literal_value value >>= (λ literal. read_in kind types.Untyped literal)) row
    ∙ ap (λ outcome. outcome >>= (λ literal. read_in kind types.Untyped literal)) (sym (written_value columns row expr value is))
untyped_same kind expr columns row None same is =
    bound_read kind (bound_of expr columns) row ∙ ap (λ outcome. outcome >>= (λ value. read_in kind types.Untyped value)) same

pub read_same : (kind : Kind) (expr : Expr) (columns : List Column) (row : List Value) (typed : Typed) → IsSame columns row expr →
    bound_value (read_bound kind typed (written expr) (bound_of expr columns)) row ≡ side_value kind (typed, value_of expr columns row)
read_same kind expr columns row (types.Known own) same = same ∙ sym (then_ok (value_of expr columns row))
read_same kind expr columns row types.Untyped same = untyped_same kind expr columns row (written expr) same refl

as_same : (kind : Kind) (expr : Expr) (columns : List Column) (row : List Value) → IsSame columns row expr →
    bound_value (bound_as kind expr columns) row ≡ side_value kind (side columns row expr)
as_same kind expr columns row same = read_same kind expr columns row (nominal expr columns) same

-- ---- operators in a row

joint_same : (operator : Operator) (left : Typed) (right : Side) (value : Value) →
    joint_value (joint_of operator left right.0) value (side_value (operand_kind operator left right.0) right) ≡ operator_value operator left value right
joint_same operator left right value =
    then_same (read_in (operand_kind operator left right.0) left value)
    (λ a. if decides operator a then Ok a
    else (side_value (operand_kind operator left right.0) right >>= (λ b. operated operator (settled (operator_gives operator left right.0)) a b)))
    (λ a. decided_value operator left a right)
    (λ a. ap (λ rest. if decides operator a then Ok a else rest)
    (then_then right.1 (λ v. read_in (operand_kind operator left right.0) right.0 v) (λ b. operated operator (settled (operator_gives operator left right.0)) a b)))

abbrev Held : List Column → List Value → Type 0
Held columns row = (expr : Expr) × IsSame columns row expr

abbrev links_of : (columns : List Column) (row : List Value) → List (ℕ × Operator × Held columns row) → List (ℕ × Operator × Expr)
links_of columns row links = map (λ link. (link.0, link.1, link.2.0)) links

abbrev items_of : (columns : List Column) (row : List Value) → List (Held columns row) → List Expr
items_of columns row items = map (λ item. item.0) items

chain_same : (columns : List Column) (row : List Value) (links : List (ℕ × Operator × Held columns row)) (left : Typed) (value : Value) →
    joints_value value (links_bound row (links_joints columns left (links_of columns row links)))
    ≡ chain_value left value (links_sides columns row (links_of columns row links))
unfolding links_bound links_joints links_sides
chain_same columns row [] left value = refl
chain_same columns row (link ∷ links) left value =
    ap (λ right. joint_value (joint_of link.1 left (nominal link.2.0 columns)) value right
    >>= (λ next. joints_value next (links_bound row (links_joints columns (operator_gives link.1 left (nominal link.2.0 columns)) (links_of columns row links)))))
    (as_same (operand_kind link.1 left (nominal link.2.0 columns)) link.2.0 columns row link.2.1)
    ∙ ap (λ outcome. outcome
    >>= (λ next. joints_value next (links_bound row (links_joints columns (operator_gives link.1 left (nominal link.2.0 columns)) (links_of columns row links)))))
    (joint_same link.1 left (side columns row link.2.0) value)
    ∙ then_same (operator_value link.1 left value (side columns row link.2.0))
    (λ next. joints_value next (links_bound row (links_joints columns (operator_gives link.1 left (nominal link.2.0 columns)) (links_of columns row links))))
    (λ next. chain_value (operator_gives link.1 left (nominal link.2.0 columns)) next (links_sides columns row (links_of columns row links)))
    (λ next. chain_same columns row links (operator_gives link.1 left (nominal link.2.0 columns)) next)

-- ---- lists

among_same : (columns : List Column) (row : List Value) (items : List (Held columns row)) (kind : Kind) (value so_far : Value) →
    among value so_far (items_bound row (items_as kind columns (items_of columns row items)))
    ≡ in_value kind value so_far (items_sides columns row (items_of columns row items))
unfolding items_bound items_as items_sides
among_same columns row [] kind value so_far = refl
among_same columns row (item ∷ items) kind value so_far =
    ap (λ outcome. outcome >>= (λ b. or_more (either so_far (related comparisons.Equal value b))
    (among value (either so_far (related comparisons.Equal value b)) (items_bound row (items_as kind columns (items_of columns row items))))))
    (as_same kind item.0 columns row item.1)
    ∙ then_same (side_value kind (side columns row item.0))
    (λ b. or_more (either so_far (related comparisons.Equal value b))
    (among value (either so_far (related comparisons.Equal value b)) (items_bound row (items_as kind columns (items_of columns row items)))))
    (λ b. or_more (either so_far (related comparisons.Equal value b))
    (in_value kind value (either so_far (related comparisons.Equal value b)) (items_sides columns row (items_of columns row items))))
    (λ b. ap (or_more (either so_far (related comparisons.Equal value b))) (among_same columns row items kind value (either so_far (related comparisons.Equal value b))))

first_same : (columns : List Column) (row : List Value) (items : List (Held columns row)) (kind : Kind) →
    first_of (items_bound row (items_as kind columns (items_of columns row items))) ≡ coalesce_value kind (items_sides columns row (items_of columns row items))
unfolding items_bound items_as items_sides
first_same columns row [] kind = refl
first_same columns row (item ∷ items) kind =
    ap (λ outcome. outcome >>= (λ value. unless_null value (first_of (items_bound row (items_as kind columns (items_of columns row items))))))
    (as_same kind item.0 columns row item.1)
    ∙ ap (λ rest. side_value kind (side columns row item.0) >>= (λ value. unless_null value rest)) (first_same columns row items kind)

-- ---- nodes

bound_by : (columns : List Column) (row : List Value) (expr : Expr) (bound : Bound) (outcome : Outcome) →
    bound_of expr columns ≡ bound → bound_value bound row ≡ outcome → value_of expr columns row ≡ outcome → IsSame columns row expr
bound_by columns row expr bound outcome tree value is = ap (λ x. bound_value x row) tree ∙ value ∙ sym is

on_node : (columns : List Column) (row : List Value) (node : Expr-F (Held columns row)) →
    IsSame columns row (roll-Expr (map-Expr (Held columns row) Expr (λ held. held.0) node))
on_node columns row (Expr-F.Literal place value) = subst (IsSame columns row) (sym (e.rolls-Literal place value))
    (bound_by columns row (e.Literal place value) _ _ (bind_literal place value columns) (outcome_same (literal_value value) row) (value_literal place value columns row))
on_node columns row (Expr-F.Date place text) = subst (IsSame columns row) (sym (e.rolls-Date place text))
    (bound_by columns row (e.Date place text) _ _ (bind_date place text columns) (outcome_same (converted (read_as text kinds.Date)) row) (value_date place text columns row))
on_node columns row (Expr-F.Column place name) = subst (IsSame columns row) (sym (e.rolls-Column place name))
    (bound_by columns row (e.Column place name) _ _ (bind_column place name columns)
    (place_value (place_from 0 columns name) row
    ∙ ap (λ found. Ok (placed_or row found)) (from_is 0 columns name ∙ from_first (place_in columns name)) ∙ ap Ok (column_same columns row name)) (value_column place name columns row))
on_node columns row (Expr-F.Chain first links) = subst (IsSame columns row) (sym (e.rolls-Chain first.0 (links_of columns row links)))
    (bound_by columns row (e.Chain first.0 (links_of columns row links)) _ _ (bind_chain first.0 (links_of columns row links) columns)
    (bound_chain (bound_of first.0 columns) (links_joints columns (nominal first.0 columns) (links_of columns row links)) row
    ∙ ap (λ outcome. outcome >>= (λ left. joints_value left (links_bound row (links_joints columns (nominal first.0 columns) (links_of columns row links))))) first.1
    ∙ then_same (value_of first.0 columns row)
    (λ left. joints_value left (links_bound row (links_joints columns (nominal first.0 columns) (links_of columns row links))))
    (λ left. chain_value (nominal first.0 columns) left (links_sides columns row (links_of columns row links)))
    (λ left. chain_same columns row links (nominal first.0 columns) left))
    (value_chain first.0 (links_of columns row links) columns row))
on_node columns row (Expr-F.Prefixed operand prefixes) = subst (IsSame columns row) (sym (e.rolls-Prefixed operand.0 prefixes))
    (bound_by columns row (e.Prefixed operand.0 prefixes) _ _ (bind_prefixed operand.0 prefixes columns)
    (bound_prefixed (nominal operand.0 columns) (bound_of operand.0 columns) prefixes row
    ∙ ap (λ outcome. outcome >>= (λ value. prefixed_value (nominal operand.0 columns) value prefixes)) operand.1)
    (value_prefixed operand.0 prefixes columns row))
on_node columns row (Expr-F.Casts operand casts) = subst (IsSame columns row) (sym (e.rolls-Casts operand.0 casts))
    (bound_by columns row (e.Casts operand.0 casts) _ _ (bind_casts operand.0 casts columns)
    (bound_casts (bound_of operand.0 columns) casts row ∙ ap (λ outcome. outcome >>= (λ value. casts_value value casts)) operand.1)
    (value_casts operand.0 casts columns row))
on_node columns row (Expr-F.IsNull operand tests) = subst (IsSame columns row) (sym (e.rolls-IsNull operand.0 tests))
    (bound_by columns row (e.IsNull operand.0 tests) _ _ (bind_is_null operand.0 tests columns)
    (bound_is_null (bound_as kinds.Text operand.0 columns) tests row
    ∙ ap (λ outcome. outcome >>= (λ value. Ok (tests_value value tests))) (as_same kinds.Text operand.0 columns row operand.1))
    (value_is_null operand.0 tests columns row))
on_node columns row (Expr-F.Between place negated value low high) = subst (IsSame columns row) (sym (e.rolls-Between place negated value.0 low.0 high.0))
    (let kind = met (common_with (common (nominal value.0 columns) (nominal low.0 columns)) (nominal high.0 columns)) in
    bound_by columns row (e.Between place negated value.0 low.0 high.0) _ _ (bind_between place negated value.0 low.0 high.0 columns)
    (bound_between negated (bound_as kind value.0 columns) (bound_as kind low.0 columns) (bound_as kind high.0 columns) row
    ∙ ap (λ outcome. within_ends outcome (bound_value (bound_as kind low.0 columns) row) (bound_value (bound_as kind high.0 columns) row) >>= (λ truth. Ok (denied_if negated truth)))
    (as_same kind value.0 columns row value.1)
    ∙ ap (λ outcome. within_ends (side_value kind (side columns row value.0)) outcome (bound_value (bound_as kind high.0 columns) row) >>= (λ truth. Ok (denied_if negated truth)))
    (as_same kind low.0 columns row low.1)
    ∙ ap (λ outcome. within_ends (side_value kind (side columns row value.0)) (side_value kind (side columns row low.0)) outcome >>= (λ truth. Ok (denied_if negated truth)))
    (as_same kind high.0 columns row high.1))
    (value_between place negated value.0 low.0 high.0 columns row))
on_node columns row (Expr-F.In place negated value items) = subst (IsSame columns row) (sym (e.rolls-In place negated value.0 (items_of columns row items)))
    (let kind = met (shared_by (Some (nominal value.0 columns)) (items_nominal columns (items_of columns row items))) in
    bound_by columns row (e.In place negated value.0 (items_of columns row items)) _ _ (bind_in place negated value.0 (items_of columns row items) columns)
    (bound_in negated (bound_as kind value.0 columns) (items_as kind columns (items_of columns row items)) row
    ∙ ap (λ outcome. (outcome >>= (λ a. among a (values.Bool false) (items_bound row (items_as kind columns (items_of columns row items))))) >>= (λ truth. Ok (denied_if negated truth)))
    (as_same kind value.0 columns row value.1)
    ∙ ap (λ outcome. outcome >>= (λ truth. Ok (denied_if negated truth)))
    (then_same (side_value kind (side columns row value.0))
    (λ a. among a (values.Bool false) (items_bound row (items_as kind columns (items_of columns row items))))
    (λ a. in_value kind a (values.Bool false) (items_sides columns row (items_of columns row items)))
    (λ a. among_same columns row items kind a (values.Bool false))))
    (value_in place negated value.0 (items_of columns row items) columns row))
on_node columns row (Expr-F.Coalesce place items) = subst (IsSame columns row) (sym (e.rolls-Coalesce place (items_of columns row items)))
    (let kind = met (shared_by (Some types.Untyped) (items_nominal columns (items_of columns row items))) in
    bound_by columns row (e.Coalesce place (items_of columns row items)) _ _ (bind_coalesce place (items_of columns row items) columns)
    (bound_coalesce (items_as kind columns (items_of columns row items)) row ∙ first_same columns row items kind)
    (value_coalesce place (items_of columns row items) columns row))
on_node columns row (Expr-F.Abs place operand) = subst (IsSame columns row) (sym (e.rolls-Abs place operand.0))
    (bound_by columns row (e.Abs place operand.0) _ _ (bind_abs place operand.0 columns)
    (bound_abs (settled (nominal operand.0 columns)) (bound_of operand.0 columns) row
    ∙ ap (λ outcome. outcome >>= (λ value. absolute (settled (nominal operand.0 columns)) value)) operand.1)
    (value_abs place operand.0 columns row))
on_node columns row (Expr-F.Length place operand) = subst (IsSame columns row) (sym (e.rolls-Length place operand.0))
    (bound_by columns row (e.Length place operand.0) _ _ (bind_length place operand.0 columns)
    (bound_length (bound_as kinds.Text operand.0 columns) row ∙ ap (λ outcome. outcome >>= measured) (as_same kinds.Text operand.0 columns row operand.1))
    (value_length place operand.0 columns row))

pub same : (columns : List Column) (row : List Value) (expr : Expr) → IsSame columns row expr
same columns row =
    ind-Expr (IsSame columns row) (λ node held is. subst (λ n. IsSame columns row (roll-Expr n)) is (on_node columns row held))

-- ---- whole expressions

pub if_ok : {A E : Type 0} (result : Result A E) (P Q : A → Type 0) → ((a : A) → P a → Q a) → IfOk result P → IfOk result Q
if_ok (Ok a) P Q more is = more a is
if_ok (Err fault) P Q more is = is

pub as_bound : (kind : Kind) (expr : Expr) (columns : List Column) (bound : Bound) → bound ≡ bound_as kind expr columns →
    IsBound bound (λ row. side_value kind (root_of expr columns row))
as_bound kind expr columns bound is row = ap (λ x. bound_value x row) is ∙ as_same kind expr columns row (same columns row expr)

stored_by : (kind : Kind) (expr : Expr) (columns : List Column) (row : List Value) (typed : Typed) →
    bound_value (stored_bound kind typed (written expr) (bound_of expr columns)) row ≡ (value_of expr columns row >>= (λ value. stored_as kind typed value))
stored_by kind expr columns row (types.Known own) =
    bound_store kind (bound_of expr columns) row ∙ ap (λ outcome. outcome >>= (λ value. converted (assigned value kind))) (same columns row expr)
stored_by kind expr columns row types.Untyped = untyped_same kind expr columns row (written expr) (same columns row expr) refl

pub as_stored : (kind : Kind) (expr : Expr) (columns : List Column) (bound : Bound) →
    bound ≡ stored_bound kind (nominal expr columns) (written expr) (bound_of expr columns) →
    IsBound bound (λ row. stored_of kind (root_of expr columns row))
as_stored kind expr columns bound is row = ap (λ x. bound_value x row) is ∙ stored_by kind expr columns row (nominal expr columns)
