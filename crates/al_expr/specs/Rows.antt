-- Which values a column may have, and which rows fit columns (manual, chapter 8, Data Types).
use Rattle.std.specs.Prelude.{Bool, true, false, ◌&&◌, nat_le, List, [], ◌∷◌, Result, Ok, Err}
use Rattle.al_values.specs.declared.kinds.Kind.{Kind}
use Rattle.al_values.specs.declared.kinds.Kind.TheVariants as kinds
use Rattle.al_values.specs.declared.kinds.CastFault.TheVariants as cast_faults
use Rattle.al_values.specs.declared.scalar.Value.{Value}
use Rattle.al_values.specs.declared.scalar.Value.TheVariants as values
use Rattle.al_values.specs.Characters.{characters}
use Rattle.al_values.specs.Days.{is_day}
use Rattle.al_values.specs.Kinds.{fits}
use Rattle.al_expr.specs.declared.column.Column.{Column}
use Rattle.al_expr.specs.declared.fault.EvalFault.{EvalFault}
use Rattle.al_expr.specs.declared.fault.EvalFault.TheVariants as faults
use Rattle.al_expr.specs.declared.kinds.Typed.{Typed}
use Rattle.al_expr.specs.declared.kinds.Typed.TheVariants as types

-- a value of the kind: Null, or a number in the kind's range, a boolean, a text of no more characters than the kind has, a
-- day of the years 1 to 9999
abbrev pub is_of : Kind → Value → Bool
is_of kind values.Null = true
is_of kind (values.Int number) = fits kind number
is_of kinds.Boolean (values.Bool truth) = true
is_of kinds.Text (values.Text text) = true
is_of (kinds.Varchar most) (values.Text text) = nat_le (characters text) most
is_of kinds.Date (values.Day day) = is_day day
is_of kind value = false

-- a row fits columns: it has as many values as there are columns, each of its column's kind
abbrev pub row_fits : List Column → List Value → Bool
row_fits [] [] = true
row_fits (column ∷ columns) (value ∷ row) = is_of column.kind value && row_fits columns row
row_fits columns row = false

-- what has no kind of its own is a string or NULL
abbrev pub is_written : Value → Bool
is_written values.Null = true
is_written (values.Text text) = true
is_written value = false

-- a value of an expression of this kind
abbrev pub is_typed : Typed → Value → Bool
is_typed (types.Known kind) value = is_of kind value
is_typed types.Untyped value = is_written value

-- a fault that a row may meet: a conversion that isn't there is told by the kinds alone
abbrev pub is_fault_of_row : EvalFault → Bool
is_fault_of_row (faults.Cast cast_faults.NoCast) = false
is_fault_of_row fault = true

-- what may come of an expression of this kind: a value of it, or a fault of the row
abbrev pub is_sound : Typed → Result Value EvalFault → Bool
is_sound typed (Ok value) = is_typed typed value
is_sound typed (Err fault) = is_fault_of_row fault
