-- When the rows of a table meet a constraint's rule (manual, 5.4 Constraints: 5.4.1 Check, 5.4.2 Not-Null, 5.4.3 Unique, 5.4.4
-- Primary Keys, 5.4.5 Foreign Keys). Only the named tables' own rows count, without those of children (5.10.1 Caveats).
use Rattle.std.specs.Prelude.{ℕ, Bool, true, false, not, ◌&&◌, nat_lt, List, [], ◌∷◌, map, Option, Some, None, Result, Ok, Err}
use Rattle.std.specs.List.{list_all, list_any}
use Rattle.al_values.specs.declared.kinds.Tri.{Tri}
use Rattle.al_values.specs.declared.kinds.Tri.TheVariants as tris
use Rattle.al_values.specs.declared.scalar.Value.{Value}
use Rattle.al_values.specs.declared.scalar.Value.TheVariants as values
use Rattle.al_expr.specs.declared.fault.EvalFault.{EvalFault}
use Rattle.al_expr.specs.declared.tree.Comparison.TheVariants as comparisons
use Rattle.al_expr.specs.Values.{is_null, related}
use Rattle.al_expr.specs.Roots.{root_of, truth_of}
use Rattle.al_expr.specs.Tables.{Rule, NotNull, Checked, Key, Foreign, Table, VersionedRow, Database, numbered, readable, value_at}

-- a condition is met where it is true or null; a fault doesn't meet it
abbrev pub is_met : Result Tri EvalFault → Bool
is_met (Ok tris.Yes) = true
is_met (Ok tris.Unknown) = true
is_met (Ok tris.No) = false
is_met (Err fault) = false

-- two values are equal, which a null is to none
abbrev pub is_true : Value → Bool
is_true (values.Bool true) = true
is_true value = false

abbrev pub equal_values : Value → Value → Bool
equal_values a b = is_true (related comparisons.Equal a b)

-- two keys are equal, value by value, which a key with a null is to none
abbrev pub equal_keys : List Value → List Value → Bool
equal_keys [] [] = true
equal_keys (a ∷ key) (b ∷ other) = equal_values a b && equal_keys key other
equal_keys key other = false

-- the values of a row in these columns
abbrev pub key_of : Table → List (List ℕ) → VersionedRow → List Value
key_of t columns row = map (value_at t row) columns

-- some row of the table has the key
abbrev pub gives_key : Option Table → List (List ℕ) → List Value → Bool
gives_key None columns key = false
gives_key (Some t) columns key = list_any (λ (row : VersionedRow). equal_keys (key_of t columns row) key) t.rows

-- a row breaks a rule: it has a null there; the condition isn't met; a row of smaller number has the same key; its key,
-- which has no null, isn't that of a row of the named table
abbrev pub breaks : Rule → Table → Database → VersionedRow → Bool
breaks (NotNull column) t db row = is_null (value_at t row column)
breaks (Checked check) t db row = not (is_met (truth_of (root_of check.condition (readable t.columns) row.values)))
breaks (Key primary columns) t db row =
    list_any (λ (other : VersionedRow). nat_lt other.number row.number && equal_keys (key_of t columns other) (key_of t columns row)) t.rows
breaks (Foreign foreign) t db row =
    not (list_any is_null (key_of t foreign.columns row))
    && not (gives_key (numbered db foreign.parent) foreign.parent_columns (key_of t foreign.columns row))

-- the rule holds of the table: no row of it breaks the rule
abbrev pub holds : Rule → Table → Database → Bool
holds rule t db = list_all (λ (row : VersionedRow). not (breaks rule t db row)) t.rows
