-- What the operators give on values (manual, 9.1 Logical Operators, 9.2 Comparison, 9.3 Mathematical, 9.4 String and 9.9
-- Date/Time Functions and Operators). A null among the operands gives Null, but for AND, OR, IS NULL and coalesce.
use Rattle.std.specs.Prelude.{ℕ, ℤ, pos, neg_ℤ, ◌+ℤ◌, ◌-ℤ◌, ◌*ℤ◌, Bool, true, false, not, nat_le, if◌then◌else◌, ◌++◌, length, Option, Some, None, Result, Ok, Err, unsigned_abs}
use Rattle.std.specs.Int.RustNames.{int_div, int_rem}
use Rattle.std.specs.Ordering.{int_eq}
use Rattle.std.specs.declared.cmp.Ordering.{Ordering}
use Rattle.std.specs.declared.cmp.Ordering.TheVariants as orders
use Rattle.al_values.specs.declared.kinds.Kind.{Kind}
use Rattle.al_values.specs.declared.kinds.Kind.TheVariants as kinds
use Rattle.al_values.specs.declared.kinds.CastFault.{CastFault}
use Rattle.al_values.specs.declared.scalar.Value.{Value}
use Rattle.al_values.specs.declared.scalar.Value.TheVariants as values
use Rattle.al_values.specs.Characters.{characters}
use Rattle.al_values.specs.Days.{is_day}
use Rattle.al_values.specs.Kinds.{fits}
use Rattle.al_values.specs.Order.{compared}
use Rattle.al_values.specs.Reading.{read_as}
use Rattle.al_expr.specs.declared.kinds.Typed.{Typed}
use Rattle.al_expr.specs.declared.kinds.Typed.TheVariants as types
use Rattle.al_expr.specs.declared.fault.EvalFault.{EvalFault}
use Rattle.al_expr.specs.declared.fault.EvalFault.TheVariants as faults
use Rattle.al_expr.specs.declared.tree.Operator.{Operator}
use Rattle.al_expr.specs.declared.tree.Operator.TheVariants as operators
use Rattle.al_expr.specs.declared.tree.Comparison.{Comparison}
use Rattle.al_expr.specs.declared.tree.Comparison.TheVariants as comparisons
use Rattle.al_expr.specs.declared.tree.Arithmetic.{Arithmetic}
use Rattle.al_expr.specs.declared.tree.Arithmetic.TheVariants as arithmetics
use Rattle.al_expr.specs.declared.tree.Prefix.{Prefix}
use Rattle.al_expr.specs.declared.tree.Prefix.TheVariants as prefixes
use Rattle.al_expr.specs.Then.{◌>>=◌}
use Rattle.al_expr.specs.Kinds.{settled, common}
use Rattle.al_expr.specs.Nominal.{met}

-- a value, or what is at fault
abbrev pub Outcome : Type 0
Outcome = Result Value EvalFault

-- ---- texts, conversions and literals

-- how many bytes a text has; what is no text has none
abbrev pub text_bytes : Value → ℕ
text_bytes (values.Text text) = length text
text_bytes value = 0

-- a text has at most 8,192 bytes
abbrev pub bounded : Value → Outcome
bounded value = if nat_le (text_bytes value) 8192 then Ok value else Err (faults.TooLong (text_bytes value))

-- what a conversion gave
abbrev pub converted : Result Value CastFault → Outcome
converted (Ok value) = bounded value
converted (Err fault) = Err (faults.Cast fault)

-- a string that has no kind of its own is read as the kind that its place wants; all else is what it is
abbrev pub read_in : Kind → Typed → Value → Outcome
read_in kind types.Untyped (values.Text text) = converted (read_as text kind)
read_in kind typed value = Ok value

-- ---- logic of three values

abbrev pub both : Value → Value → Value
both (values.Bool false) b = values.Bool false
both a (values.Bool false) = values.Bool false
both (values.Bool true) (values.Bool true) = values.Bool true
both a b = values.Null

abbrev pub either : Value → Value → Value
either (values.Bool true) b = values.Bool true
either a (values.Bool true) = values.Bool true
either (values.Bool false) (values.Bool false) = values.Bool false
either a b = values.Null

abbrev pub denied : Value → Value
denied (values.Bool truth) = values.Bool (not truth)
denied value = values.Null

-- NOT before BETWEEN or IN
abbrev pub denied_if : Bool → Value → Value
denied_if negated value = if negated then denied value else value

abbrev pub is_not_text : Value → Bool
is_not_text (values.Text text) = false
is_not_text value = true

abbrev pub is_null : Value → Bool
is_null values.Null = true
is_null value = false

-- IS NULL, or IS NOT NULL
abbrev pub tested : Bool → Value → Value
tested negated value = values.Bool (if negated then not (is_null value) else is_null value)

-- OR is decided by a true on its left, AND by a false
abbrev pub decides : Operator → Value → Bool
decides operators.Or (values.Bool true) = true
decides operators.And (values.Bool false) = true
decides operator value = false

-- ---- comparisons

abbrev pub holds : Comparison → Ordering → Bool
holds comparisons.Equal orders.Equal = true
holds comparisons.NotEqual orders.Less = true
holds comparisons.NotEqual orders.Greater = true
holds comparisons.Less orders.Less = true
holds comparisons.LessOrEqual orders.Less = true
holds comparisons.LessOrEqual orders.Equal = true
holds comparisons.Greater orders.Greater = true
holds comparisons.GreaterOrEqual orders.Greater = true
holds comparisons.GreaterOrEqual orders.Equal = true
holds comparison order = false

-- where the two have an order
abbrev pub by_order : Comparison → Option Ordering → Value
by_order comparison (Some order) = values.Bool (holds comparison order)
by_order comparison None = values.Null

abbrev pub related : Comparison → Value → Value → Value
related comparison a b = by_order comparison (compared a b)

-- ---- arithmetic

-- a number of the kind
abbrev pub in_kind : Kind → ℤ → Outcome
in_kind kind number = if fits kind number then Ok (values.Int number) else Err faults.Range

-- a day of the years 1 to 9999
abbrev pub in_calendar : ℤ → Outcome
in_calendar day = if is_day day then Ok (values.Day day) else Err faults.Range

-- the quotient cut toward zero, and the remainder that goes with it, which has the dividend's sign
abbrev pub calculated : Arithmetic → Kind → Value → Value → Outcome
calculated arithmetics.Add kind (values.Int a) (values.Int b) = in_kind kind (a +ℤ b)
calculated arithmetics.Add kind (values.Day a) (values.Int b) = in_calendar (a +ℤ b)
calculated arithmetics.Add kind (values.Int a) (values.Day b) = in_calendar (a +ℤ b)
calculated arithmetics.Subtract kind (values.Int a) (values.Int b) = in_kind kind (a -ℤ b)
calculated arithmetics.Subtract kind (values.Day a) (values.Int b) = in_calendar (a -ℤ b)
calculated arithmetics.Subtract kind (values.Day a) (values.Day b) = in_kind kind (a -ℤ b)
calculated arithmetics.Multiply kind (values.Int a) (values.Int b) = in_kind kind (a *ℤ b)
calculated arithmetics.Divide kind (values.Int a) (values.Int b) =
    if int_eq b (pos 0) then Err faults.DivZero else in_kind kind (int_div a b)
calculated arithmetics.Remainder kind (values.Int a) (values.Int b) =
    if int_eq b (pos 0) then Err faults.DivZero else in_kind kind (int_rem a b)
calculated operator kind a b = Ok values.Null

-- a literal: a number of 64 bits, a day of the years 1 to 9999, and all else as it is
abbrev pub literal_value : Value → Outcome
literal_value (values.Int number) = in_kind kinds.Bigint number
literal_value (values.Day day) = in_calendar day
literal_value value = Ok value

-- a sign, and abs
abbrev pub minus : Kind → Value → Outcome
minus kind (values.Int number) = in_kind kind (neg_ℤ number)
minus kind value = Ok values.Null

abbrev pub absolute : Kind → Value → Outcome
absolute kind (values.Int number) = in_kind kind (pos (unsigned_abs number))
absolute kind value = Ok values.Null

-- ---- texts

abbrev pub joined : Value → Value → Outcome
joined (values.Text a) (values.Text b) = bounded (values.Text (a ++ b))
joined a b = Ok values.Null

-- how many characters
abbrev pub measured : Value → Outcome
measured (values.Text text) = in_kind kinds.Integer (pos (characters text))
measured value = Ok values.Null

-- ---- operators, with the kind that they give

abbrev pub operated : Operator → Kind → Value → Value → Outcome
operated operators.Or kind a b = Ok (either a b)
operated operators.And kind a b = Ok (both a b)
operated (operators.Compare comparison) kind a b = Ok (related comparison a b)
operated operators.Concat kind a b = joined a b
operated (operators.Calculate operator) kind a b = calculated operator kind a b

-- the kind as which an operand is read that has none of its own: a boolean beside AND and OR, a text beside `||`, else
-- the other operand's
abbrev pub beside : Typed → Typed → Kind
beside (types.Known kind) other = kind
beside types.Untyped other = settled other

abbrev pub operand_kind : Operator → Typed → Typed → Kind
operand_kind operators.Or a b = kinds.Boolean
operand_kind operators.And a b = kinds.Boolean
operand_kind (operators.Compare comparison) a b = met (common a b)
operand_kind operators.Concat a b = kinds.Text
operand_kind (operators.Calculate operator) a b = beside a b

abbrev pub prefix_value : Prefix → Typed → Value → Outcome
prefix_value prefixes.Not typed value = read_in kinds.Boolean typed value >>= (λ truth. Ok (denied truth))
prefix_value prefixes.Minus typed value = minus (settled typed) value
prefix_value prefixes.Plus typed value = Ok value
