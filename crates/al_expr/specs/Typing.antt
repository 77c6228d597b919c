-- The kind of an expression, or the first node in reading order that is at fault: a name that no column has, or an
-- operator whose operands are of kinds that it doesn't take (manual, chapter 10, Type Conversion).
use Rattle.std.specs.Prelude.{ℕ, Bool, if◌then◌else◌, List, [], ◌∷◌, map, Option, Some, None, Result, Ok, Err}
use Rattle.al_values.specs.declared.kinds.Kind.{Kind}
use Rattle.al_values.specs.declared.kinds.Kind.TheVariants as kinds
use Rattle.al_values.specs.declared.scalar.Value.{Value}
use Rattle.al_values.specs.declared.scalar.Value.TheVariants as values
use Rattle.al_values.specs.Kinds.{fits}
use Rattle.al_expr.specs.declared.column.Column.{Column}
use Rattle.al_expr.specs.declared.kinds.Typed.{Typed}
use Rattle.al_expr.specs.declared.kinds.Typed.TheVariants as types
use Rattle.al_expr.specs.declared.kinds.TypeFault.{TypeFault}
use Rattle.al_expr.specs.declared.kinds.TypeFault.TheVariants as faults
use Rattle.al_expr.specs.declared.tree.Operator.{Operator}
use Rattle.al_expr.specs.declared.tree.Prefix.{Prefix}
use Rattle.al_expr.specs.declared.tree.Expr.{Expr}
use Rattle.al_expr.specs.declared.tree.Expr.TheOpen.{Expr-F}
use Rattle.al_expr.specs.declared.tree.Expr.TheFolds.{fold-Expr}
use Rattle.al_expr.specs.Then.{◌>>=◌}
use Rattle.al_expr.specs.Columns.{column_kind}
use Rattle.al_expr.specs.Kinds.{common, common_with, settled, operator_kind, prefix_kind, signed_kind, length_kind, cast_kind}

-- a kind, or what is at fault
abbrev pub Answer : Type 0
Answer = Result Typed TypeFault

-- an integer is one of 32 bits where it fits, else of 64 bits
abbrev pub literal_kind : Value → Typed
literal_kind (values.Int number) = types.Known (if fits kinds.Integer number then kinds.Integer else kinds.Bigint)
literal_kind (values.Bool truth) = types.Known kinds.Boolean
literal_kind (values.Day day) = types.Known kinds.Date
literal_kind _ = types.Untyped

-- a column that is there
abbrev pub named_kind : ℕ → Option Kind → Answer
named_kind place (Some kind) = Ok (types.Known kind)
named_kind place None = Err (faults.NoColumn place)

-- kinds that the node takes
abbrev pub ruled : ℕ → Option Kind → Answer
ruled place (Some kind) = Ok (types.Known kind)
ruled place None = Err (faults.WrongKind place)

-- operators in a row, from the left
abbrev pub chain_kind : Typed → List (ℕ × Operator × Answer) → Answer
chain_kind left [] = Ok left
chain_kind left (link ∷ links) =
    (link.2 >>= (λ right. ruled link.0 (operator_kind link.1 left right))) >>= (λ typed. chain_kind typed links)

-- NOTs and signs in a row, from the inside
abbrev pub prefixed_kind : Typed → List (ℕ × Prefix) → Answer
prefixed_kind typed [] = Ok typed
prefixed_kind typed (prefix ∷ prefixes) =
    ruled prefix.0 (prefix_kind prefix.1 typed) >>= (λ outer. prefixed_kind outer prefixes)

-- casts in a row, from the inside
abbrev pub casts_kind : Typed → List (ℕ × Kind) → Answer
casts_kind typed [] = Ok typed
casts_kind typed (to ∷ casts) = ruled to.0 (cast_kind typed to.1) >>= (λ outer. casts_kind outer casts)

-- IS NULL in a row takes all kinds
abbrev pub tests_kind : Typed → List (ℕ × Bool) → Typed
tests_kind typed [] = typed
tests_kind typed (test ∷ tests) = types.Known kinds.Boolean

-- the kind that operands share with what stands before them, if they share one
abbrev pub shared_kind : Option Typed → List Answer → Result (Option Typed) TypeFault
shared_kind before [] = Ok before
shared_kind before (answer ∷ answers) = answer >>= (λ typed. shared_kind (common_with before typed) answers)

-- BETWEEN and IN want operands of one group
abbrev pub alike : ℕ → Option Typed → Answer
alike place (Some typed) = Ok (types.Known kinds.Boolean)
alike place None = Err (faults.WrongKind place)

-- coalesce gives the kind that its operands share
abbrev pub first_kind : ℕ → Option Typed → Answer
first_kind place (Some typed) = Ok (types.Known (settled typed))
first_kind place None = Err (faults.WrongKind place)

-- one node, with the answers on its operands
abbrev pub kind_step : List Column → Expr-F Answer → Answer
kind_step columns (Expr-F.Literal place value) = Ok (literal_kind value)
kind_step columns (Expr-F.Date place text) = Ok (types.Known kinds.Date)
kind_step columns (Expr-F.Column place name) = named_kind place (column_kind columns name)
kind_step columns (Expr-F.Chain first links) = first >>= (λ left. chain_kind left links)
kind_step columns (Expr-F.Prefixed operand prefixes) = operand >>= (λ typed. prefixed_kind typed prefixes)
kind_step columns (Expr-F.Casts operand casts) = operand >>= (λ typed. casts_kind typed casts)
kind_step columns (Expr-F.IsNull operand tests) = operand >>= (λ typed. Ok (tests_kind typed tests))
kind_step columns (Expr-F.Between place negated value low high) =
    value >>= (λ a. low >>= (λ b. high >>= (λ c. alike place (common_with (common a b) c))))
kind_step columns (Expr-F.In place negated value items) =
    value >>= (λ a. shared_kind (Some a) items >>= (λ typed. alike place typed))
kind_step columns (Expr-F.Coalesce place items) =
    shared_kind (Some types.Untyped) items >>= (λ typed. first_kind place typed)
kind_step columns (Expr-F.Abs place operand) = operand >>= (λ typed. ruled place (signed_kind typed))
kind_step columns (Expr-F.Length place operand) = operand >>= (λ typed. ruled place (length_kind typed))

-- the kind of an expression on these columns
unfoldable pub kind_is : Expr → List Column → Answer
kind_is expr columns = fold-Expr Answer (kind_step columns) expr

-- the same of the right sides of operators in a row, and of operands in a list
unfoldable pub links_kinds : List Column → List (ℕ × Operator × Expr) → List (ℕ × Operator × Answer)
links_kinds columns links = map (λ link. (link.0, link.1, kind_is link.2 columns)) links

unfoldable pub items_kinds : List Column → List Expr → List Answer
items_kinds columns items = map (λ item. kind_is item columns) items
