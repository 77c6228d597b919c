-- What becomes of the value at an expression's root: an output of a query, a value that is stored, or a condition (manual,
-- 4.1.2.7 and 10.4 for strings without a kind of their own; 7.2.2, The WHERE Clause; 5.4.1, Check Constraints).
use Rattle.std.specs.Prelude.{◌≡◌, Bool, true, false, List, Result, Ok, Err}
use Rattle.al_values.specs.declared.cant.Cant.{Cant}
use Rattle.al_values.specs.declared.cant.Cant.TheVariants as cants
use Rattle.al_values.specs.declared.kinds.Kind.{Kind}
use Rattle.al_values.specs.declared.kinds.Kind.TheVariants as kinds
use Rattle.al_values.specs.declared.kinds.Tri.{Tri}
use Rattle.al_values.specs.declared.kinds.Tri.TheVariants as tris
use Rattle.al_values.specs.declared.scalar.Value.{Value}
use Rattle.al_values.specs.declared.scalar.Value.TheVariants as values
use Rattle.al_values.specs.Convert.{assigned}
use Rattle.al_expr.specs.declared.column.Column.{Column}
use Rattle.al_expr.specs.declared.kinds.Typed.{Typed}
use Rattle.al_expr.specs.declared.kinds.Typed.TheVariants as types
use Rattle.al_expr.specs.declared.fault.EvalFault.{EvalFault}
use Rattle.al_expr.specs.declared.tree.Expr.{Expr}
use Rattle.al_expr.specs.Then.{◌>>=◌}
use Rattle.al_expr.specs.Nominal.{nominal}
use Rattle.al_expr.specs.Rows.{is_of, is_fault_of_row}
use Rattle.al_expr.specs.Values.{Outcome, converted, read_in}
use Rattle.al_expr.specs.Evaluation.{Side, value_of, side_value}

-- the root: its kind, and its outcome on a row
abbrev pub root_of : Expr → List Column → List Value → Side
root_of expr columns row = (nominal expr columns, value_of expr columns row)

-- an output: a string that has no kind of its own is a text
abbrev pub output_of : Side → Outcome
output_of root = side_value kinds.Text root

-- a value that is stored in a column of the kind: a string that has no kind of its own is read as it, all else is assigned
abbrev pub stored_as : Kind → Typed → Value → Outcome
stored_as kind types.Untyped value = read_in kind types.Untyped value
stored_as kind (types.Known own) value = converted (assigned value kind)

abbrev pub stored_of : Kind → Side → Outcome
stored_of kind root = root.1 >>= (λ value. stored_as kind root.0 value)

-- a condition: true, false, or neither
abbrev pub as_truth : Value → Tri
as_truth (values.Bool true) = tris.Yes
as_truth (values.Bool false) = tris.No
as_truth value = tris.Unknown

abbrev pub truth_of : Side → Result Tri EvalFault
truth_of root = side_value kinds.Boolean root >>= (λ value. Ok (as_truth value))

-- there is an assignment from one kind to another
abbrev pub is_stored : Kind → Kind → Bool
is_stored from kinds.Text = true
is_stored from (kinds.Varchar most) = true
is_stored kinds.Smallint kinds.Smallint = true
is_stored kinds.Smallint kinds.Integer = true
is_stored kinds.Smallint kinds.Bigint = true
is_stored kinds.Integer kinds.Smallint = true
is_stored kinds.Integer kinds.Integer = true
is_stored kinds.Integer kinds.Bigint = true
is_stored kinds.Bigint kinds.Smallint = true
is_stored kinds.Bigint kinds.Integer = true
is_stored kinds.Bigint kinds.Bigint = true
is_stored kinds.Boolean kinds.Boolean = true
is_stored kinds.Date kinds.Date = true
is_stored from to = false

abbrev pub is_assignable : Typed → Kind → Bool
is_assignable (types.Known from) to = is_stored from to
is_assignable types.Untyped to = true

-- what a call may answer: a value of the kind, or a fault that a row may meet
abbrev pub IsSound : Kind → Result Value (Cant EvalFault) → Type 0
IsSound kind (Ok value) = is_of kind value ≡ true
IsSound kind (Err (cants.Why fault)) = is_fault_of_row fault ≡ true
IsSound kind (Err cants.NoMemory) = Unit {0}

-- the same of a condition
abbrev pub IsTruth : Result Tri (Cant EvalFault) → Type 0
IsTruth (Ok truth) = Unit {0}
IsTruth (Err (cants.Why fault)) = is_fault_of_row fault ≡ true
IsTruth (Err cants.NoMemory) = Unit {0}
