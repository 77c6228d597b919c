-- What CREATE TABLE, INSERT and ALTER TABLE do to a database (CREATE TABLE, INSERT, ALTER TABLE in Part VI).
use Rattle.std.specs.Prelude.{◌≡◌, ℕ, List, [], ◌∷◌, ◌++◌, ◌+◌, ◌==◌, nat_lt, not, cond, ◌||◌, ◌&&◌, map, length, drop, Option, Some, None, Result, Ok, Err, is_some, Contains}
use Rattle.al_values.specs.declared.scalar.Value.{Value}
use Rattle.al_values.specs.declared.scalar.Value.TheVariants as values
use Rattle.al_statements.specs.declared.cause.Cause.{Cause}
use Rattle.al_statements.specs.declared.cause.Cause.TheVariants as causes
use Rattle.al_statements.specs.declared.cause.RunLimit.TheVariants as limits
use Rattle.al_history.specs.declared.statement.Column.{Column}
use Rattle.al_history.specs.declared.statement.Statement.{Statement}
use Rattle.al_history.specs.declared.statement.Statement.TheVariants as statements
use Rattle.al_history.specs.Constraint.{Constraint}
use Rattle.al_history.specs.Limits.{most_columns}
use Rattle.al_history.specs.Database.{VersionedRow, Holds, Table, Database, named, has_table, has_row, has_column, with_table}

-- CREATE TABLE: the columns of these names, without defaults
abbrev pub shape_of : List (List ℕ) → List Column
shape_of names = map (λ name. record { name = name; default = values.Null }) names

-- CREATE TABLE: a table without rows, unless the table or its name is there already
abbrev pub made : ℕ → List ℕ → List Column → Database → Database
made number name columns db = cond (has_table db number || is_some (named db name)) db (db ++ record { number = number; name = name; columns = columns; constraints = []; rows = [] } ∷ [])

-- INSERT: a row of these values, and of the defaults of the columns past their end
abbrev pub filled : List Column → List Value → List Value
filled columns written = written ++ map (λ (c : Column). c.default) (drop (length written) columns)

-- INSERT: the row at the end of its table, unless it is there already or doesn't fit the columns
abbrev pub with_row : ℕ → List Value → Table → Table
with_row number written t = cond (not (has_row t.rows number) && length written == length t.columns) (record t { rows = t.rows ++ record { number = number; version = number; values = written } ∷ [] }) t

abbrev pub added : ℕ → ℕ → List Value → Database → Database
added number table written db = with_table table (with_row number written) db

-- ALTER TABLE: the new columns of the table, the map on its rows, and the tests, which are the demands that the command
-- adds or validates
pub record Alteration : Type 0 where
  pub columns : List Column
  pub row_map : List Value → List Value
  pub tests : List Constraint

-- ADD COLUMN is refused where the column is there already, and else where the table has as many as it may have
abbrev pub column_cause : List ℕ → List Column → Option Cause
column_cause name columns = cond (has_column columns name) (Some (causes.TwiceColumn name)) (cond (nat_lt (length columns) most_columns) None (Some (causes.Limit limits.Columns (length columns + 1))))

-- unless it is refused
abbrev pub unless_refused : Option Cause → Alteration → Result Alteration Cause
unless_refused None alteration = Ok alteration
unless_refused (Some cause) alteration = Err cause

-- ADD COLUMN puts the column at the end, each row has its default there, and nothing is tested
abbrev pub alteration : Column → Table → Result Alteration Cause
alteration column t = unless_refused (column_cause column.name t.columns) (record { columns = t.columns ++ column ∷ []; row_map = λ row. row ++ column.default ∷ []; tests = [] })

-- the table after the command, or as it was where the command is refused. Rows keep their numbers and versions.
abbrev pub after_alteration : Result Alteration Cause → Table → Table
after_alteration (Err cause) t = t
after_alteration (Ok alteration) t = record t { columns = alteration.columns; rows = map (λ (r : VersionedRow). record r { values = alteration.row_map r.values }) t.rows }

-- an ALTER TABLE on the table of this number; no other statement alters
abbrev pub altered : Option Statement → ℕ → Database → Database
altered (Some (statements.AddColumn name column)) number db = with_table number (λ t. after_alteration (alteration column t) t) db
altered other number db = db

-- every test holds of its table in the database as it will be
abbrev pub Passes : Result Alteration Cause → Database → Type 0
Passes (Err cause) after = ⊥
Passes (Ok alteration) after = (c : Constraint) → Contains alteration.tests c → (t : Table) → Contains after t → t.number ≡ c.table → Holds c.demand t after
