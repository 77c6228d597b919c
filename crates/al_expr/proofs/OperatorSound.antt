-- What operators give is a value of the kind that they give.
use Rattle.std.proofs.Common.{◌≡◌, ℤ, pos, neg_ℤ, ◌+ℤ◌, ◌-ℤ◌, ◌*ℤ◌, Bool, true, false, ◌++◌, Option, Some, None, option_map, Ok, Err, refl, sym, ap, subst, unsigned_abs}
use Rattle.std.specs.Prelude.{if◌then◌else◌, ◌&&◌}
use Rattle.std.specs.Int.RustNames.{int_div, int_rem}
use Rattle.std.specs.Ordering.{int_eq}
use Rattle.std.specs.declared.cmp.Ordering.{Ordering}
use Rattle.al_values.specs.declared.kinds.Kind.{Kind}
use Rattle.al_values.specs.declared.kinds.Kind.TheVariants as kinds
use Rattle.al_values.specs.declared.scalar.Value.{Value}
use Rattle.al_values.specs.declared.scalar.Value.TheVariants as values
use Rattle.al_values.specs.Characters.{characters}
use Rattle.al_values.specs.Days.{is_day}
use Rattle.al_values.specs.Kinds.{fits}
use Rattle.al_values.specs.Order.{compared}
use Rattle.al_values.specs.Reading.{read_as}
use Rattle.al_expr.specs.declared.kinds.Typed.{Typed}
use Rattle.al_expr.specs.declared.kinds.Typed.TheVariants as types
use Rattle.al_expr.specs.declared.fault.EvalFault.TheVariants as faults
use Rattle.al_expr.specs.declared.tree.Operator.{Operator}
use Rattle.al_expr.specs.declared.tree.Operator.TheVariants as operators
use Rattle.al_expr.specs.declared.tree.Comparison.{Comparison}
use Rattle.al_expr.specs.declared.tree.Arithmetic.{Arithmetic}
use Rattle.al_expr.specs.declared.tree.Arithmetic.TheVariants as arithmetics
use Rattle.al_expr.specs.declared.tree.Prefix.{Prefix}
use Rattle.al_expr.specs.declared.tree.Prefix.TheVariants as prefixes
use Rattle.al_expr.specs.Then.{◌>>=◌}
use Rattle.al_expr.specs.Kinds.{is_truth, is_text, whole, common, settled, calculated_kind, arithmetic_kind, operator_kind, signed_kind, prefix_kind}
use Rattle.al_expr.specs.Nominal.{as_typed, operator_gives}
use Rattle.al_expr.specs.Rows.{is_of, is_typed, is_sound}
use Rattle.al_expr.specs.Values.{Outcome, read_in, both, either, denied, denied_if, related, by_order, in_kind, in_calendar, calculated, minus, absolute, joined, measured, operated, operand_kind, beside, prefix_value, decides, literal_value}
use Rattle.al_expr.specs.Typing.{literal_kind}
use Rattle.al_expr.proofs.Conversions.{by_if, read_sound, bounded_sound, converted_sound}

abbrev pub Sound : Kind → Outcome → Type 0
Sound kind outcome = is_sound (types.Known kind) outcome ≡ true

-- ---- steps, one after another

pub then_sound : (typed : Typed) (kind : Kind) (outcome : Outcome) (next : Value → Outcome) → is_sound typed outcome ≡ true →
    ((value : Value) → is_typed typed value ≡ true → Sound kind (next value)) → Sound kind (outcome >>= next)
then_sound typed kind (Ok value) next is more = more value is
then_sound typed kind (Err fault) next is more = is

pub then_typed : (typed kind : Typed) (outcome : Outcome) (next : Value → Outcome) → is_sound typed outcome ≡ true →
    ((value : Value) → is_typed typed value ≡ true → is_sound kind (next value) ≡ true) → is_sound kind (outcome >>= next) ≡ true
then_typed typed kind (Ok value) next is more = more value is
then_typed typed kind (Err fault) next is more = is

-- ---- numbers, days and texts

pub in_kind_sound : (kind : Kind) (number : ℤ) → Sound kind (in_kind kind number)
in_kind_sound kind number = by_if (Sound kind) (fits kind number) (Ok (values.Int number)) (Err faults.Range) (λ here. here) refl

in_calendar_sound : (day : ℤ) → Sound kinds.Date (in_calendar day)
in_calendar_sound day = by_if (Sound kinds.Date) (is_day day) (Ok (values.Day day)) (Err faults.Range) (λ here. here) refl

divided_sound : (kind : Kind) (b number : ℤ) → Sound kind (if int_eq b (pos 0) then Err faults.DivZero else in_kind kind number)
divided_sound kind b number = by_if (Sound kind) (int_eq b (pos 0)) (Err faults.DivZero) (in_kind kind number) (λ _. refl) (in_kind_sound kind number)

wide : (kind : Kind) (number : ℤ) → fits kinds.Integer number ≡ true → Sound kinds.Integer (in_kind kind number)
wide kind number here = by_if (Sound kinds.Integer) (fits kind number) (Ok (values.Int number)) (Err faults.Range) (λ _. here) refl

literal_whole : (number : ℤ) (b : Bool) → fits kinds.Integer number ≡ b →
    is_sound (types.Known (if b then kinds.Integer else kinds.Bigint)) (in_kind kinds.Bigint number) ≡ true
literal_whole number true here = wide kinds.Bigint number here
literal_whole number false here = in_kind_sound kinds.Bigint number

pub literal_sound : (value : Value) → is_sound (literal_kind value) (literal_value value) ≡ true
literal_sound values.Null = refl
literal_sound (values.Bool truth) = refl
literal_sound (values.Int number) = literal_whole number (fits kinds.Integer number) refl
literal_sound (values.Text text) = refl
literal_sound (values.Day day) = in_calendar_sound day

-- ---- truth values

pub both_truth : (a b : Value) → is_of kinds.Boolean (both a b) ≡ true
both_truth (values.Bool false) b = refl
both_truth (values.Bool true) (values.Bool false) = refl
both_truth (values.Bool true) (values.Bool true) = refl
both_truth (values.Bool true) b = refl
both_truth a (values.Bool false) = refl
both_truth a (values.Bool true) = refl
both_truth a b = refl

pub either_truth : (a b : Value) → is_of kinds.Boolean (either a b) ≡ true
either_truth (values.Bool true) b = refl
either_truth (values.Bool false) (values.Bool true) = refl
either_truth (values.Bool false) (values.Bool false) = refl
either_truth (values.Bool false) b = refl
either_truth a (values.Bool true) = refl
either_truth a (values.Bool false) = refl
either_truth a b = refl

denied_truth : (value : Value) → is_of kinds.Boolean (denied value) ≡ true
denied_truth (values.Bool truth) = refl
denied_truth value = refl

pub denied_if_truth : (negated : Bool) (value : Value) → is_of kinds.Boolean value ≡ true → is_of kinds.Boolean (denied_if negated value) ≡ true
denied_if_truth true value is = denied_truth value
denied_if_truth false value is = is

by_order_truth : (comparison : Comparison) (order : Option Ordering) → is_of kinds.Boolean (by_order comparison order) ≡ true
by_order_truth comparison (Some order) = refl
by_order_truth comparison None = refl

pub related_truth : (comparison : Comparison) (a b : Value) → is_of kinds.Boolean (related comparison a b) ≡ true
related_truth comparison a b = by_order_truth comparison (compared a b)

-- ---- texts

joined_sound : (a b : Value) → Sound kinds.Text (joined a b)
joined_sound (values.Text a) (values.Text b) = bounded_sound kinds.Text (values.Text (a ++ b)) refl
joined_sound (values.Text a) b = refl
joined_sound a b = refl

pub measured_sound : (value : Value) → Sound kinds.Integer (measured value)
measured_sound (values.Text text) = in_kind_sound kinds.Integer (pos (characters text))
measured_sound value = refl

-- ---- arithmetic

minus_sound : (kind : Kind) (value : Value) → Sound kind (minus kind value)
minus_sound kind (values.Int number) = in_kind_sound kind (neg_ℤ number)
minus_sound kind value = refl

pub absolute_sound : (kind : Kind) (value : Value) → Sound kind (absolute kind value)
absolute_sound kind (values.Int number) = in_kind_sound kind (pos (unsigned_abs number))
absolute_sound kind value = refl

-- a day and a number give a date
day_whole : (a b kind : Kind) (day number : ℤ) → calculated_kind arithmetics.Add a b ≡ Some kind → is_of a (values.Day day) ≡ true → is_of b (values.Int number) ≡ true → kind ≡ kinds.Date
day_whole kinds.Date kinds.Smallint kind day number is left right = cc
day_whole kinds.Date kinds.Integer kind day number is left right = cc
day_whole kinds.Date kinds.Bigint kind day number is left right = cc
day_whole kinds.Date b kind day number is left right = absurd cc
day_whole a b kind day number is left right = absurd cc

whole_day : (a b kind : Kind) (day number : ℤ) → calculated_kind arithmetics.Add a b ≡ Some kind → is_of a (values.Int number) ≡ true → is_of b (values.Day day) ≡ true → kind ≡ kinds.Date
whole_day kinds.Smallint kinds.Date kind day number is left right = cc
whole_day kinds.Integer kinds.Date kind day number is left right = cc
whole_day kinds.Bigint kinds.Date kind day number is left right = cc
whole_day a kinds.Date kind day number is left right = absurd cc
whole_day a b kind day number is left right = absurd cc

day_less : (a b kind : Kind) (day number : ℤ) → calculated_kind arithmetics.Subtract a b ≡ Some kind → is_of a (values.Day day) ≡ true → is_of b (values.Int number) ≡ true → kind ≡ kinds.Date
day_less kinds.Date kinds.Smallint kind day number is left right = cc
day_less kinds.Date kinds.Integer kind day number is left right = cc
day_less kinds.Date kinds.Bigint kind day number is left right = cc
day_less kinds.Date b kind day number is left right = absurd cc
day_less a b kind day number is left right = absurd cc

dated : (kind : Kind) (day : ℤ) → kind ≡ kinds.Date → Sound kind (in_calendar day)
dated kind day is = subst (λ k. Sound k (in_calendar day)) (sym is) (in_calendar_sound day)

calculated_sound : (operator : Arithmetic) (ka kb kind : Kind) (a b : Value) → calculated_kind operator ka kb ≡ Some kind →
    is_of ka a ≡ true → is_of kb b ≡ true → Sound kind (calculated operator kind a b)
calculated_sound arithmetics.Add ka kb kind (values.Int a) (values.Int b) is left right = in_kind_sound kind (a +ℤ b)
calculated_sound arithmetics.Add ka kb kind (values.Day a) (values.Int b) is left right = dated kind (a +ℤ b) (day_whole ka kb kind a b is left right)
calculated_sound arithmetics.Add ka kb kind (values.Int a) (values.Day b) is left right = dated kind (a +ℤ b) (whole_day ka kb kind b a is left right)
calculated_sound arithmetics.Subtract ka kb kind (values.Int a) (values.Int b) is left right = in_kind_sound kind (a -ℤ b)
calculated_sound arithmetics.Subtract ka kb kind (values.Day a) (values.Int b) is left right = dated kind (a -ℤ b) (day_less ka kb kind a b is left right)
calculated_sound arithmetics.Subtract ka kb kind (values.Day a) (values.Day b) is left right = in_kind_sound kind (a -ℤ b)
calculated_sound arithmetics.Multiply ka kb kind (values.Int a) (values.Int b) is left right = in_kind_sound kind (a *ℤ b)
calculated_sound arithmetics.Divide ka kb kind (values.Int a) (values.Int b) is left right = divided_sound kind b (int_div a b)
calculated_sound arithmetics.Remainder ka kb kind (values.Int a) (values.Int b) is left right = divided_sound kind b (int_rem a b)
calculated_sound operator ka kb kind a b is left right = refl

-- ---- operands

-- an operand of this kind, once it is read as the kind that its place wants
abbrev pub read_kind : Kind → Typed → Kind
read_kind kind (types.Known own) = own
read_kind kind types.Untyped = kind

pub read_in_sound : (kind : Kind) (typed : Typed) (value : Value) → is_typed typed value ≡ true → Sound (read_kind kind typed) (read_in kind typed value)
read_in_sound kind (types.Known own) value is = is
read_in_sound kind types.Untyped (values.Text text) is = converted_sound kind (read_as text kind) (read_sound text kind)
read_in_sound kind types.Untyped values.Null is = refl
read_in_sound kind types.Untyped (values.Bool truth) is = absurd cc
read_in_sound kind types.Untyped (values.Int number) is = absurd cc
read_in_sound kind types.Untyped (values.Day day) is = absurd cc

tested_of : (b : Bool) (kind next : Kind) → (if b then Some kind else None) ≡ Some next → kind ≡ next
tested_of true kind next is = cc
tested_of false kind next is = absurd cc

mapped_of : (found : Option Typed) (kind next : Kind) → option_map (λ _. kind) found ≡ Some next → kind ≡ next
mapped_of (Some typed) kind next is = cc
mapped_of None kind next is = absurd cc

arithmetic_sound : (operator : Arithmetic) (left right : Typed) (kind : Kind) (a b : Value) → arithmetic_kind operator left right ≡ Some kind →
    is_of (read_kind (beside left right) left) a ≡ true → is_of (read_kind (beside left right) right) b ≡ true → Sound kind (calculated operator kind a b)
arithmetic_sound operator (types.Known ka) (types.Known kb) kind a b is first second = calculated_sound operator ka kb kind a b is first second
arithmetic_sound operator (types.Known ka) types.Untyped kind a b is first second = calculated_sound operator ka ka kind a b is first second
arithmetic_sound operator types.Untyped (types.Known kb) kind a b is first second = calculated_sound operator kb kb kind a b is first second
arithmetic_sound operator types.Untyped types.Untyped kind a b is first second = absurd cc

-- an operator on the values of both sides
pub operated_sound : (operator : Operator) (left right : Typed) (kind : Kind) (a b : Value) → operator_kind operator left right ≡ Some kind →
    is_of (read_kind (operand_kind operator left right) left) a ≡ true → is_of (read_kind (operand_kind operator left right) right) b ≡ true →
    Sound kind (operated operator (settled (operator_gives operator left right)) a b)
operated_sound operators.Or left right kind a b is first second =
    subst (λ k. Sound k (Ok (either a b))) (tested_of (is_truth left && is_truth right) kinds.Boolean kind is) (either_truth a b)
operated_sound operators.And left right kind a b is first second =
    subst (λ k. Sound k (Ok (both a b))) (tested_of (is_truth left && is_truth right) kinds.Boolean kind is) (both_truth a b)
operated_sound (operators.Compare comparison) left right kind a b is first second =
    subst (λ k. Sound k (Ok (related comparison a b))) (mapped_of (common left right) kinds.Boolean kind is) (related_truth comparison a b)
operated_sound operators.Concat left right kind a b is first second =
    subst (λ k. Sound k (joined a b)) (tested_of (is_text left && is_text right) kinds.Text kind is) (joined_sound a b)
operated_sound (operators.Calculate operator) left right kind a b is first second =
    subst (λ found. Sound kind (calculated operator (settled (as_typed found)) a b)) (sym is) (arithmetic_sound operator left right kind a b is first second)

-- what decides is a truth value
pub decided_sound : (operator : Operator) (left right : Typed) (kind : Kind) (a : Value) → operator_kind operator left right ≡ Some kind →
    decides operator a ≡ true → Sound kind (Ok a)
decided_sound operators.Or left right kind (values.Bool true) is truth =
    subst (λ k. Sound k (Ok (values.Bool true))) (tested_of (is_truth left && is_truth right) kinds.Boolean kind is) refl
decided_sound operators.And left right kind (values.Bool false) is truth =
    subst (λ k. Sound k (Ok (values.Bool false))) (tested_of (is_truth left && is_truth right) kinds.Boolean kind is) refl
decided_sound operator left right kind a is truth = absurd cc

-- NOT, or a sign
signed_of : (operand kind : Kind) → whole operand ≡ Some kind → operand ≡ kind
signed_of kinds.Smallint kind is = cc
signed_of kinds.Integer kind is = cc
signed_of kinds.Bigint kind is = cc
signed_of operand kind is = absurd cc

pub signed_is : (typed : Typed) (kind : Kind) → signed_kind typed ≡ Some kind → typed ≡ types.Known kind
signed_is (types.Known operand) kind is = ap types.Known (signed_of operand kind is)
signed_is types.Untyped kind is = absurd cc

pub prefix_sound : (prefix : Prefix) (typed : Typed) (kind : Kind) (value : Value) → prefix_kind prefix typed ≡ Some kind → is_typed typed value ≡ true →
    Sound kind (prefix_value prefix typed value)
prefix_sound prefixes.Not typed kind value is here =
    subst (λ k. Sound k (prefix_value prefixes.Not typed value)) (tested_of (is_truth typed) kinds.Boolean kind is)
    (then_sound (types.Known (read_kind kinds.Boolean typed)) kinds.Boolean (read_in kinds.Boolean typed value) (λ truth. Ok (denied truth))
    (read_in_sound kinds.Boolean typed value here) (λ truth _. denied_truth truth))
prefix_sound prefixes.Minus typed kind value is here =
    subst (λ t. Sound kind (minus (settled t) value)) (sym (signed_is typed kind is)) (minus_sound kind value)
prefix_sound prefixes.Plus typed kind value is here =
    subst (λ t. is_typed t value ≡ true) (signed_is typed kind is) here
