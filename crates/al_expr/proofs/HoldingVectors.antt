-- Worked tables, by computation: rules that hold of their rows, and rules that don't.
use Rattle.std.proofs.Common.{◌≡◌, ℕ, pos, true, false, List, [], ◌∷◌, Result, Ok, Err, refl, ap}
use Rattle.std.specs.Prelude.{codes, not}
use Rattle.al_values.specs.declared.kinds.Kind.{Kind}
use Rattle.al_values.specs.declared.kinds.Kind.TheVariants as kinds
use Rattle.al_values.specs.declared.kinds.Tri.{Tri}
use Rattle.al_values.specs.declared.kinds.Tri.TheVariants as tris
use Rattle.al_values.specs.declared.scalar.Value.{Value}
use Rattle.al_values.specs.declared.scalar.Value.TheVariants as values
use Rattle.al_expr.specs.declared.fault.EvalFault.{EvalFault}
use Rattle.al_expr.specs.declared.fault.EvalFault.TheVariants as faults
use Rattle.al_expr.specs.declared.tree.Operator.TheVariants as operators
use Rattle.al_expr.specs.declared.tree.Comparison.TheVariants as comparisons
use Rattle.al_expr.specs.declared.tree.Arithmetic.TheVariants as arithmetics
use Rattle.al_expr.specs.declared.tree.Expr.{Expr}
use Rattle.al_expr.specs.declared.tree.Expr.TheVariants as e
use Rattle.al_expr.specs.Nominal.{links_nominal, items_nominal}
use Rattle.al_expr.specs.Evaluation.{links_sides, items_sides}
use Rattle.al_expr.specs.Roots.{root_of, truth_of}
use Rattle.al_expr.specs.Tables.{TableColumn, VersionedRow, Rule, NotNull, Checked, Key, Foreign, Table, rows_fit, readable}
use Rattle.al_expr.specs.Holding.{is_met, breaks, holds}
use Rattle.al_expr.proofs.NominalNodes.{nominal_nodes}
use Rattle.al_expr.proofs.ValueNodes.{value_nodes}

-- a table t with the columns `a integer, b text`
abbrev a : List ℕ
a = codes "a"

abbrev b : List ℕ
b = codes "b"

abbrev column : List ℕ → Kind → TableColumn
column name kind = record { name = name; kind = kind; default = values.Null; required = false; own = true }

abbrev row : ℕ → Value → Value → VersionedRow
row number left right = record { number = number; version = number; values = left ∷ right ∷ [] }

abbrev table : ℕ → List VersionedRow → Table
table number rows =
    record { number = number; name = codes "t"; columns = column a kinds.Integer ∷ column b kinds.Text ∷ []; constraints = []; parents = []; rows = rows }

abbrev one : Value
one = values.Int (pos 1)

abbrev two : Value
two = values.Int (pos 2)

abbrev zero_value : Value
zero_value = values.Int (pos 0)

abbrev x : Value
x = values.Text (codes "x")

-- two rows with other keys, two with the same, and nulls
abbrev apart : Table
apart = table 3 (row 10 one x ∷ row 11 two x ∷ [])

abbrev same : Table
same = table 3 (row 10 one x ∷ row 11 one x ∷ [])

abbrev nulls : Table
nulls = table 3 (row 10 values.Null x ∷ row 11 values.Null x ∷ [])

-- rows fit their columns, but not with a text for a number, or with a value missing
fit : rows_fit apart ≡ true
fit = refl

unfit : rows_fit (table 3 (row 10 x x ∷ [])) ≡ false
unfit = refl

too_few : rows_fit (table 3 (record { number = 10; version = 10; values = one ∷ [] } ∷ [])) ≡ false
too_few = refl

-- NOT NULL
no_null : holds (NotNull a) apart (apart ∷ []) ≡ true
no_null = refl

null_there : holds (NotNull a) nulls (nulls ∷ []) ≡ false
null_there = refl

null_elsewhere : holds (NotNull b) nulls (nulls ∷ []) ≡ true
null_elsewhere = refl

-- a key: other values, equal ones, of which the later row breaks it, nulls, and two columns of which one differs
keys_apart : holds (Key false (a ∷ [])) apart (apart ∷ []) ≡ true
keys_apart = refl

keys_same : holds (Key false (a ∷ [])) same (same ∷ []) ≡ false
keys_same = refl

first_is_fine : breaks (Key true (a ∷ [])) same (same ∷ []) (row 10 one x) ≡ false
first_is_fine = refl

later_breaks : breaks (Key true (a ∷ [])) same (same ∷ []) (row 11 one x) ≡ true
later_breaks = refl

keys_null : holds (Key false (a ∷ [])) nulls (nulls ∷ []) ≡ true
keys_null = refl

keys_of_two : holds (Key false (b ∷ a ∷ [])) apart (apart ∷ []) ≡ true
keys_of_two = refl

-- a foreign key: with its parent's row, without, with a null, and without its parent
abbrev to_parent : Rule
to_parent = Foreign (record { columns = a ∷ []; parent = 7; parent_columns = a ∷ [] })

abbrev parent : List VersionedRow → Table
parent rows = table 7 rows

has_parents : holds to_parent apart (apart ∷ parent (row 20 two x ∷ row 21 one x ∷ []) ∷ []) ≡ true
has_parents = refl

lacks_parent : holds to_parent apart (apart ∷ parent (row 20 two x ∷ []) ∷ []) ≡ false
lacks_parent = refl

null_is_free : holds to_parent nulls (nulls ∷ parent [] ∷ []) ≡ true
null_is_free = refl

no_parent_table : holds to_parent apart (apart ∷ []) ≡ false
no_parent_table = refl

-- the other table's own columns count: here its `b`
other_column : holds (Foreign (record { columns = b ∷ []; parent = 7; parent_columns = b ∷ [] })) apart (apart ∷ parent (row 20 values.Null x ∷ []) ∷ []) ≡ true
other_column = refl

-- CHECK (10 / a > 4): true, null, false, and a fault
abbrev condition : Expr
condition =
    e.Chain (e.Chain (e.Literal 0 (values.Int (pos 10))) ((0, operators.Calculate arithmetics.Divide, e.Column 0 a) ∷ []))
    ((0, operators.Compare comparisons.Greater, e.Literal 0 (values.Int (pos 4))) ∷ [])

abbrev checked : Rule
checked = Checked (record { condition = condition; own = true; no_inherit = false })

abbrev told : Value → Result Tri EvalFault
told value = truth_of (root_of condition (readable apart.columns) (value ∷ x ∷ []))

told_two : told two ≡ Ok tris.Yes
unfolding links_sides items_sides links_nominal items_nominal
told_two = simp (value_nodes, nominal_nodes)

told_null : told values.Null ≡ Ok tris.Unknown
unfolding links_sides items_sides links_nominal items_nominal
told_null = simp (value_nodes, nominal_nodes)

told_five : told (values.Int (pos 5)) ≡ Ok tris.No
unfolding links_sides items_sides links_nominal items_nominal
told_five = simp (value_nodes, nominal_nodes)

told_zero : told zero_value ≡ Err faults.DivZero
unfolding links_sides items_sides links_nominal items_nominal
told_zero = simp (value_nodes, nominal_nodes)

check_true : breaks checked apart (apart ∷ []) (row 11 two x) ≡ false
check_true = ap (λ truth. not (is_met truth)) told_two

check_null : breaks checked apart (apart ∷ []) (row 11 values.Null x) ≡ false
check_null = ap (λ truth. not (is_met truth)) told_null

check_false : breaks checked apart (apart ∷ []) (row 11 (values.Int (pos 5)) x) ≡ true
check_false = ap (λ truth. not (is_met truth)) told_five

check_faulty : breaks checked apart (apart ∷ []) (row 11 zero_value x) ≡ true
check_faulty = ap (λ truth. not (is_met truth)) told_zero
