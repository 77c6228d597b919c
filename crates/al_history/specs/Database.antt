-- Tables and their rows (5.1, 5.4).
use Rattle.std.specs.Prelude.{ℕ, List, [], ◌∷◌, ◌==◌, Bool, cond, Option, Some, None, nat_eq}
use Rattle.std.specs.List.{list_any}
use Rattle.std.specs.Cmp.Lexicographic.{pointwise}
use Rattle.al_history.specs.declared.statement.Column.{Column}
use Rattle.al_values.specs.declared.scalar.Value.{Value}
use Rattle.al_history.specs.Constraint.{Constraint, Demand}

-- a row: its number, the number of its version, and its values in the order of its table's columns
pub record VersionedRow : Type 0 where
  pub number : ℕ
  pub version : ℕ
  pub values : List Value

-- a table: its number, its name, its columns in order, its constraints, and its rows by ascending number. A row has one
-- value for each column, in their order.
pub record Table : Type 0 where
  pub number : ℕ
  pub name : List ℕ
  pub columns : List Column
  pub constraints : List Constraint
  pub rows : List VersionedRow

-- the tables by ascending number
abbrev pub Database : Type 0
Database = List Table

-- the rows of the table meet the demand, in this database
abbrev pub Holds : Demand → Table → Database → Type 0
Holds demand t db = absurd demand

-- the numbers of the table's rows that are against it
abbrev pub breaking : Demand → Table → Database → List ℕ
breaking demand t db = absurd demand

-- two names are one where their bytes are
abbrev pub same_name : List ℕ → List ℕ → Bool
same_name = pointwise nat_eq

-- the table of a name
abbrev pub named : Database → List ℕ → Option Table
named [] name = None
named (t ∷ db) name = cond (same_name t.name name) (Some t) (named db name)

-- whether a table has this number
abbrev pub has_table : Database → ℕ → Bool
has_table db number = list_any (λ (t : Table). t.number == number) db

-- whether a row has this number
abbrev pub has_row : List VersionedRow → ℕ → Bool
has_row rows number = list_any (λ (r : VersionedRow). r.number == number) rows

-- whether a column has this name
abbrev pub has_column : List Column → List ℕ → Bool
has_column columns name = list_any (λ (c : Column). same_name c.name name) columns

-- the database with one of its tables changed
abbrev pub with_table : ℕ → (Table → Table) → Database → Database
with_table number f [] = []
with_table number f (t ∷ db) = cond (t.number == number) (f t ∷ db) (t ∷ with_table number f db)
