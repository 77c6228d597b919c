-- Which kinds the operators take, and what kind they give (manual, chapter 9, Functions and Operators; 10.2, Operators;
-- 10.5, UNION, CASE, and Related Constructs; 4.2.9, Type Casts). `None` is a kind that isn't taken. What has no kind of
-- its own, a string or NULL, is `Untyped`.
use Rattle.std.specs.Prelude.{Bool, true, false, ◌&&◌, if◌then◌else◌, Option, Some, None, option_map, option_and_then}
use Rattle.al_values.specs.declared.kinds.Kind.{Kind}
use Rattle.al_values.specs.declared.kinds.Kind.TheVariants as kinds
use Rattle.al_expr.specs.declared.kinds.Typed.{Typed}
use Rattle.al_expr.specs.declared.kinds.Typed.TheVariants as types
use Rattle.al_expr.specs.declared.tree.Operator.{Operator}
use Rattle.al_expr.specs.declared.tree.Operator.TheVariants as operators
use Rattle.al_expr.specs.declared.tree.Arithmetic.{Arithmetic}
use Rattle.al_expr.specs.declared.tree.Arithmetic.TheVariants as arithmetics
use Rattle.al_expr.specs.declared.tree.Prefix.{Prefix}
use Rattle.al_expr.specs.declared.tree.Prefix.TheVariants as prefixes

-- ---- groups of kinds

-- may stand where a boolean is wanted
abbrev pub is_truth : Typed → Bool
is_truth (types.Known kinds.Boolean) = true
is_truth types.Untyped = true
is_truth _ = false

-- may stand where a text is wanted
abbrev pub is_text : Typed → Bool
is_text (types.Known kinds.Text) = true
is_text (types.Known (kinds.Varchar most)) = true
is_text types.Untyped = true
is_text _ = false

-- the wider of two integer kinds
abbrev pub wider : Kind → Kind → Option Kind
wider kinds.Smallint kinds.Smallint = Some kinds.Smallint
wider kinds.Smallint kinds.Integer = Some kinds.Integer
wider kinds.Smallint kinds.Bigint = Some kinds.Bigint
wider kinds.Integer kinds.Smallint = Some kinds.Integer
wider kinds.Integer kinds.Integer = Some kinds.Integer
wider kinds.Integer kinds.Bigint = Some kinds.Bigint
wider kinds.Bigint kinds.Smallint = Some kinds.Bigint
wider kinds.Bigint kinds.Integer = Some kinds.Bigint
wider kinds.Bigint kinds.Bigint = Some kinds.Bigint
wider _ _ = None

-- an integer kind, as it is
abbrev pub whole : Kind → Option Kind
whole kind = wider kind kind

-- the kind in which two kinds of one group meet; a length is no part of it
abbrev pub shared : Kind → Kind → Option Kind
shared kinds.Boolean kinds.Boolean = Some kinds.Boolean
shared kinds.Text kinds.Text = Some kinds.Text
shared kinds.Text (kinds.Varchar most) = Some kinds.Text
shared (kinds.Varchar most) kinds.Text = Some kinds.Text
shared (kinds.Varchar most) (kinds.Varchar other) = Some kinds.Text
shared kinds.Date kinds.Date = Some kinds.Date
shared a b = wider a b

-- the same where an operand may have no kind of its own: it takes the other's
abbrev pub common : Typed → Typed → Option Typed
common (types.Known a) (types.Known b) = option_map types.Known (shared a b)
common (types.Known a) types.Untyped = option_map types.Known (shared a a)
common types.Untyped (types.Known b) = option_map types.Known (shared b b)
common types.Untyped types.Untyped = Some types.Untyped

-- and of one operand more
abbrev pub common_with : Option Typed → Typed → Option Typed
common_with before typed = option_and_then (λ so_far. common so_far typed) before

-- what has no kind at the end is a text
abbrev pub settled : Typed → Kind
settled (types.Known kind) = kind
settled types.Untyped = kinds.Text

-- ---- operators

-- `+ - * / %` on two kinds: integers give the wider; a date plus or minus an integer, and an integer plus a date, a
-- date; a date minus a date, an integer
abbrev pub calculated_kind : Arithmetic → Kind → Kind → Option Kind
calculated_kind arithmetics.Add kinds.Date b = option_map (λ _. kinds.Date) (whole b)
calculated_kind arithmetics.Add a kinds.Date = option_map (λ _. kinds.Date) (whole a)
calculated_kind arithmetics.Subtract kinds.Date kinds.Date = Some kinds.Integer
calculated_kind arithmetics.Subtract kinds.Date b = option_map (λ _. kinds.Date) (whole b)
calculated_kind operator a b = wider a b

-- the same where one operand may have no kind of its own: it takes the other's
abbrev pub arithmetic_kind : Arithmetic → Typed → Typed → Option Kind
arithmetic_kind operator (types.Known a) (types.Known b) = calculated_kind operator a b
arithmetic_kind operator (types.Known a) types.Untyped = calculated_kind operator a a
arithmetic_kind operator types.Untyped (types.Known b) = calculated_kind operator b b
arithmetic_kind operator types.Untyped types.Untyped = None

-- a binary operator
abbrev pub operator_kind : Operator → Typed → Typed → Option Kind
operator_kind operators.Or a b = if is_truth a && is_truth b then Some kinds.Boolean else None
operator_kind operators.And a b = if is_truth a && is_truth b then Some kinds.Boolean else None
operator_kind (operators.Compare comparison) a b = option_map (λ _. kinds.Boolean) (common a b)
operator_kind operators.Concat a b = if is_text a && is_text b then Some kinds.Text else None
operator_kind (operators.Calculate operator) a b = arithmetic_kind operator a b

-- a sign or abs, which want an integer and keep its kind
abbrev pub signed_kind : Typed → Option Kind
signed_kind (types.Known kind) = whole kind
signed_kind types.Untyped = None

-- NOT, or a sign
abbrev pub prefix_kind : Prefix → Typed → Option Kind
prefix_kind prefixes.Not typed = if is_truth typed then Some kinds.Boolean else None
prefix_kind prefixes.Minus typed = signed_kind typed
prefix_kind prefixes.Plus typed = signed_kind typed

-- length
abbrev pub length_kind : Typed → Option Kind
length_kind typed = if is_text typed then Some kinds.Integer else None

-- ---- casts

-- there is a written cast from one kind to another
abbrev pub is_castable : Kind → Kind → Bool
is_castable kinds.Text to = true
is_castable (kinds.Varchar most) to = true
is_castable from kinds.Text = true
is_castable from (kinds.Varchar most) = true
is_castable kinds.Boolean kinds.Boolean = true
is_castable kinds.Boolean kinds.Integer = true
is_castable kinds.Integer kinds.Boolean = true
is_castable kinds.Date kinds.Date = true
is_castable kinds.Smallint kinds.Smallint = true
is_castable kinds.Smallint kinds.Integer = true
is_castable kinds.Smallint kinds.Bigint = true
is_castable kinds.Integer kinds.Smallint = true
is_castable kinds.Integer kinds.Integer = true
is_castable kinds.Integer kinds.Bigint = true
is_castable kinds.Bigint kinds.Smallint = true
is_castable kinds.Bigint kinds.Integer = true
is_castable kinds.Bigint kinds.Bigint = true
is_castable from to = false

-- a cast to a kind
abbrev pub cast_kind : Typed → Kind → Option Kind
cast_kind (types.Known from) to = if is_castable from to then Some to else None
cast_kind types.Untyped to = Some to
