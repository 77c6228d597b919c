-- What the tables that are kept stand for, and which of it a reader sees.
use Rattle.std.specs.Prelude.{◌≡◌, ℕ, List, [], ◌∷◌, ◌++◌, ◌==◌, ◌||◌, ◌&&◌, Bool, false, not, cond, map, get_or, Option, Some, None}
use Rattle.std.specs.List.{list_any}
use Rattle.al_values.specs.declared.scalar.Value.{Value}
use Rattle.al_history.specs.declared.statement.Column.{Column}
use Rattle.al_history.specs.Database.{VersionedRow, Table, same_name}
use Rattle.al_history.specs.Past.{Past}
use Rattle.al_history.specs.Fate.{fate, is_that}
use Rattle.al_history.specs.Store.{Slot, KeptRow, KeptTable, shown_rows, is_committed}
use Rattle.al_engine.specs.declared.stored.StoredColumn.{StoredColumn}
use Rattle.al_engine.specs.declared.stored.StoredRow.{StoredRow}
use Rattle.al_engine.specs.declared.stored.StoredTable.{StoredTable}

-- ---- everything that was ever made, each thing with its maker

abbrev pub slot_of : StoredColumn → Slot
slot_of c = record { maker = c.maker; column = c.column }

abbrev pub row_of : StoredRow → KeptRow
row_of r = record { number = r.number; maker = r.maker; values = r.values }

abbrev pub kept_of : StoredTable → KeptTable
kept_of t = record { number = t.number; maker = t.maker; name = t.name; slots = map slot_of t.columns; rows = map row_of t.rows }

abbrev pub all_kept : List StoredTable → List KeptTable
all_kept tables = map kept_of tables

-- ---- who reads

-- A reader sees its own, and what is committed: the list has a place for each place of the journal, and says whether the
-- transaction of that place is committed. A place past its end has none.
abbrev pub seen_by : Option ℕ → List Bool → ℕ → Bool
seen_by own committed x = is_that own x || get_or committed x false

-- the list says of each transaction whether it is committed
abbrev pub TellsCommitted : Past → List Bool → Type 0
TellsCommitted past committed = (x : ℕ) → get_or committed x false ≡ is_committed (fate past x)

-- all rows of a table that the reader sees, as they are read
abbrev pub answers : (ℕ → Bool) → List Slot → List KeptRow → List (List Value)
answers sees slots rows = map (λ (r : VersionedRow). r.values) (shown_rows sees slots rows)

-- the names of columns
abbrev pub names_of : List Column → List (List ℕ)
names_of columns = map (λ (c : Column). c.name) columns

-- a table of these columns
abbrev pub of_columns : List Column → Table
of_columns columns = record { number = 0; name = []; columns = columns; constraints = []; rows = [] }

-- ---- how it grows

-- a table with one more row, or one more column
abbrev pub with_stored_row : StoredRow → StoredTable → StoredTable
with_stored_row row t = record t { rows = t.rows ++ row ∷ [] }

abbrev pub with_stored_column : StoredColumn → StoredTable → StoredTable
with_stored_column column t = record t { columns = t.columns ++ column ∷ [] }

-- ---- who is in the way of a name

-- the makers of the tables of this name, in order
abbrev pub makers_in : List StoredTable → List ℕ → List ℕ
makers_in [] name = []
makers_in (t ∷ tables) name = cond (same_name t.name name) (t.maker ∷ makers_in tables name) (makers_in tables name)

-- whether a transaction is one of the sessions' open ones
abbrev pub is_among : List (Option ℕ) → ℕ → Bool
is_among xacts x = list_any (λ (own : Option ℕ). is_that own x) xacts

-- the first of these that is open, and another than x
abbrev pub first_among : ℕ → List (Option ℕ) → List ℕ → Option ℕ
first_among x xacts [] = None
first_among x xacts (y ∷ ys) = cond (not (y == x) && is_among xacts y) (Some y) (first_among x xacts ys)
