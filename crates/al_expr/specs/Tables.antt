-- Tables with their columns, constraints and rows, and the database that they make (manual, chapter 5: 5.1 Table Basics, 5.2
-- Default Values, 5.4 Constraints, 5.10 Inheritance).
use Rattle.std.specs.Prelude.{ℕ, Bool, ◌==◌, if◌then◌else◌, List, [], ◌∷◌, map, Option, Some, None}
use Rattle.std.specs.List.{list_all}
use Rattle.al_values.specs.declared.kinds.Kind.{Kind}
use Rattle.al_values.specs.declared.scalar.Value.{Value}
use Rattle.al_expr.specs.declared.column.Column.{Column}
use Rattle.al_expr.specs.declared.tree.Expr.{Expr}
use Rattle.al_expr.specs.Columns.{column_value}
use Rattle.al_expr.specs.Rows.{row_fits}

-- a column of a table: its name, its kind, its default (Null where it has none), whether it is NOT NULL, and whether the
-- table defines it by itself, beside what its parents give
pub record TableColumn : Type 0 where
  pub name : List ℕ
  pub kind : Kind
  pub default : Value
  pub required : Bool
  pub own : Bool

-- a row: its number, the number of its version, and its values, one for each column in their order
pub record VersionedRow : Type 0 where
  pub number : ℕ
  pub version : ℕ
  pub values : List Value

-- CHECK: the condition, whether the table defines it by itself, and whether it is NO INHERIT
pub record Check : Type 0 where
  pub condition : Expr
  pub own : Bool
  pub no_inherit : Bool

-- FOREIGN KEY: its columns, the number of the table that it names, and that table's columns
pub record ForeignKey : Type 0 where
  pub columns : List (List ℕ)
  pub parent : ℕ
  pub parent_columns : List (List ℕ)

-- what a constraint asks of the rows of its table. A key is PRIMARY KEY, where it is marked so, or UNIQUE.
pub data Rule : Type 0 where
  NotNull : List ℕ → Rule
  Checked : Check → Rule
  Key : Bool → List (List ℕ) → Rule
  Foreign : ForeignKey → Rule

-- a constraint is told apart by the entry that made it, its table and its first name. It has a name now, a rule, and a mark
-- that says whether the rows that stood there before it were found to meet it.
pub record Constraint : Type 0 where
  pub maker : ℕ
  pub table : ℕ
  pub first_name : List ℕ
  pub name : List ℕ
  pub rule : Rule
  pub valid : Bool

-- a table: its number, its name, its columns in order, its constraints, the numbers of its parents, and its rows by ascending
-- number
pub record Table : Type 0 where
  pub number : ℕ
  pub name : List ℕ
  pub columns : List TableColumn
  pub constraints : List Constraint
  pub parents : List ℕ
  pub rows : List VersionedRow

-- the tables by ascending number
abbrev pub Database : Type 0
Database = List Table

-- the table of a number
abbrev pub numbered : Database → ℕ → Option Table
numbered [] number = None
numbered (t ∷ db) number = if t.number == number then Some t else numbered db number

-- what expressions know of a column: its name and its kind
abbrev pub readable : List TableColumn → List Column
readable columns = map (λ column. record { name = column.name; kind = column.kind }) columns

-- the value of a row in the column of a name
abbrev pub value_at : Table → VersionedRow → List ℕ → Value
value_at t row name = column_value (readable t.columns) row.values name

-- each row has a value for each column, of its kind
abbrev pub rows_fit : Table → Bool
rows_fit t = list_all (λ (row : VersionedRow). row_fits (readable t.columns) row.values) t.rows
