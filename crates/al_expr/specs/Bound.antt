-- The value of a bound expression on a row: names are places of the row, and what kinds say is worked out before.
use Rattle.std.specs.Prelude.{◌≡◌, ℕ, true, false, if◌then◌else◌, List, [], ◌∷◌, map, Option, Some, None, Result, Ok, Err}
use Rattle.std.specs.List.{slice_get}
use Rattle.al_values.specs.declared.kinds.Kind.{Kind}
use Rattle.al_values.specs.declared.kinds.Tri.{Tri}
use Rattle.al_values.specs.declared.scalar.Value.{Value}
use Rattle.al_values.specs.declared.scalar.Value.TheVariants as values
use Rattle.al_values.specs.Convert.{assigned}
use Rattle.al_expr.specs.declared.bound.Bound.{Bound}
use Rattle.al_expr.specs.declared.bound.Bound.TheOpen.{Bound-F}
use Rattle.al_expr.specs.declared.bound.Bound.TheFolds.{fold-Bound}
use Rattle.al_expr.specs.declared.bound.Joint.{Joint}
use Rattle.al_expr.specs.declared.column.Column.{Column}
use Rattle.al_expr.specs.declared.fault.EvalFault.{EvalFault}
use Rattle.al_expr.specs.declared.kinds.Typed.TheVariants as types
use Rattle.al_expr.specs.declared.tree.Comparison.TheVariants as comparisons
use Rattle.al_expr.specs.Roots.{as_truth}
use Rattle.al_expr.specs.Rows.{is_sound, row_fits}
use Rattle.al_expr.specs.Then.{◌>>=◌}
use Rattle.al_expr.specs.Values.{Outcome, converted, read_in, decides, operated, related, either, denied_if, absolute, measured}
use Rattle.al_expr.specs.Evaluation.{prefixed_value, casts_value, tests_value, below_high, or_more, unless_null}

-- the value at a place of a row, or Null
abbrev pub or_null : Option Value → Value
or_null (Some value) = value
or_null None = values.Null

abbrev pub placed : List Value → ℕ → Value
placed row place = or_null (slice_get row place)

-- an operator: its left side is read, it may decide, and then the right side is evaluated
abbrev pub joint_value : Joint → Value → Outcome → Outcome
joint_value joint left right =
    read_in joint.operands joint.left left
    >>= (λ a. if decides joint.operator a then Ok a else (right >>= (λ b. operated joint.operator joint.gives a b)))

-- operators in a row, from the left
abbrev pub joints_value : Value → List (Joint × Outcome) → Outcome
joints_value left [] = Ok left
joints_value left (link ∷ links) = joint_value link.0 left link.1 >>= (λ value. joints_value value links)

-- BETWEEN, IN and coalesce, whose operands are read
abbrev pub within_ends : Outcome → Outcome → Outcome → Outcome
within_ends value low high = value >>= (λ a. low >>= (λ b. below_high a (related comparisons.GreaterOrEqual a b) high))

abbrev pub among : Value → Value → List Outcome → Outcome
among value so_far [] = Ok so_far
among value so_far (item ∷ items) =
    item >>= (λ b. let found = either so_far (related comparisons.Equal value b) in or_more found (among value found items))

abbrev pub first_of : List Outcome → Outcome
first_of [] = Ok values.Null
first_of (item ∷ items) = item >>= (λ value. unless_null value (first_of items))

-- one node, with the outcomes of its operands
abbrev pub bound_step : List Value → Bound-F Outcome → Outcome
bound_step row (Bound-F.Fixed value) = Ok value
bound_step row (Bound-F.Faulty fault) = Err fault
bound_step row (Bound-F.Place place) = Ok (placed row place)
bound_step row (Bound-F.Chain first links) = first >>= (λ left. joints_value left links)
bound_step row (Bound-F.Prefixed typed operand prefixes) = operand >>= (λ value. prefixed_value typed value prefixes)
bound_step row (Bound-F.Casts operand casts) = operand >>= (λ value. casts_value value casts)
bound_step row (Bound-F.IsNull operand tests) = operand >>= (λ value. Ok (tests_value value tests))
bound_step row (Bound-F.Between negated value low high) = within_ends value low high >>= (λ truth. Ok (denied_if negated truth))
bound_step row (Bound-F.In negated value items) =
    (value >>= (λ a. among a (values.Bool false) items)) >>= (λ truth. Ok (denied_if negated truth))
bound_step row (Bound-F.Coalesce items) = first_of items
bound_step row (Bound-F.Abs kind operand) = operand >>= (λ value. absolute kind value)
bound_step row (Bound-F.Length operand) = operand >>= measured
bound_step row (Bound-F.Read kind operand) = operand >>= (λ value. read_in kind types.Untyped value)
bound_step row (Bound-F.Store kind operand) = operand >>= (λ value. converted (assigned value kind))

-- the value
unfoldable pub bound_value : Bound → List Value → Outcome
bound_value bound row = fold-Bound Outcome (bound_step row) bound

-- the same of the right sides of operators in a row, and of operands in a list
unfoldable pub links_bound : List Value → List (Joint × Bound) → List (Joint × Outcome)
links_bound row links = map (λ link. (link.0, bound_value link.1 row)) links

unfoldable pub items_bound : List Value → List Bound → List Outcome
items_bound row items = map (λ item. bound_value item row) items

-- it has this outcome on each row
abbrev pub IsBound : Bound → (List Value → Outcome) → Type 0
IsBound bound outcome = (row : List Value) → bound_value bound row ≡ outcome row

-- a bound condition
abbrev pub bound_truth : Bound → List Value → Result Tri EvalFault
bound_truth bound row = bound_value bound row >>= (λ value. Ok (as_truth value))

-- on each row that fits the columns it has a value of the kind, or the row is at fault
abbrev pub IsSoundOn : List Column → Kind → Bound → Type 0
IsSoundOn columns kind bound = (row : List Value) → row_fits columns row ≡ true → is_sound (types.Known kind) (bound_value bound row) ≡ true
