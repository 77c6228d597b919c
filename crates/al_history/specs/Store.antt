-- One list that serves every reader: all that was ever made, each thing with its maker.
use Rattle.std.specs.Prelude.{ℕ, List, [], ◌∷◌, ◌++◌, ◌==◌, ◌||◌, Bool, true, false, cond, map, length, Option, Some}
use Rattle.al_values.specs.declared.scalar.Value.{Value}
use Rattle.al_history.specs.declared.entry.Entry.TheVariants.{Make, Add, Alter}
use Rattle.al_history.specs.declared.statement.Column.{Column}
use Rattle.al_history.specs.declared.statement.Statement.{Statement}
use Rattle.al_history.specs.declared.statement.Statement.TheVariants as statements
use Rattle.al_history.specs.declared.statement.Terms.{Terms}
use Rattle.al_history.specs.Past.{Past}
use Rattle.al_history.specs.Database.{VersionedRow, Table, Database}
use Rattle.al_history.specs.Fate.{Fate, Committed, fate, is_that, Standing, Inside, Absent}
use Rattle.al_history.specs.Hand.{hand, session_of, statement_of}

-- a column, with the transaction that made it
pub record Slot : Type 0 where
  pub maker : ℕ
  pub column : Column

-- a row, with the transaction that made it, and a value for each slot that its table had then
pub record KeptRow : Type 0 where
  pub number : ℕ
  pub maker : ℕ
  pub values : List Value

-- a table, with the transaction that made it
pub record KeptTable : Type 0 where
  pub number : ℕ
  pub maker : ℕ
  pub name : List ℕ
  pub slots : List Slot
  pub rows : List KeptRow

-- ---- what a reader sees of it

-- the columns in the slots that are seen
abbrev pub shown_columns : (ℕ → Bool) → List Slot → List Column
shown_columns sees [] = []
shown_columns sees (slot ∷ slots) = cond (sees slot.maker) (slot.column ∷ shown_columns sees slots) (shown_columns sees slots)

-- a row's values in the slots that are seen; a slot past their end has its column's default
abbrev pub shown_values : (ℕ → Bool) → List Slot → List Value → List Value
shown_values sees [] values = []
shown_values sees (slot ∷ slots) [] = cond (sees slot.maker) (slot.column.default ∷ shown_values sees slots []) (shown_values sees slots [])
shown_values sees (slot ∷ slots) (value ∷ values) = cond (sees slot.maker) (value ∷ shown_values sees slots values) (shown_values sees slots values)

abbrev pub shown_row : (ℕ → Bool) → List Slot → KeptRow → VersionedRow
shown_row sees slots r = record { number = r.number; version = r.number; values = shown_values sees slots r.values }

abbrev pub shown_rows : (ℕ → Bool) → List Slot → List KeptRow → List VersionedRow
shown_rows sees slots [] = []
shown_rows sees slots (r ∷ rows) = cond (sees r.maker) (shown_row sees slots r ∷ shown_rows sees slots rows) (shown_rows sees slots rows)

abbrev pub shown_table : (ℕ → Bool) → KeptTable → Table
shown_table sees t = record { number = t.number; name = t.name; columns = shown_columns sees t.slots; constraints = []; rows = shown_rows sees t.slots t.rows }

-- the tables that are seen, of each what is seen
abbrev pub shown : (ℕ → Bool) → List KeptTable → Database
shown sees [] = []
shown sees (t ∷ tables) = cond (sees t.maker) (shown_table sees t ∷ shown sees tables) (shown sees tables)

-- a reader sees its own, and what is committed
abbrev pub is_committed : Fate → Bool
is_committed Committed = true
is_committed fate = false

abbrev pub sees : Past → Option ℕ → ℕ → Bool
sees past reader x = is_that reader x || is_committed (fate past x)

-- what is seen stands, and nothing else
abbrev pub stands : (ℕ → Bool) → ℕ → Standing
stands sees x = cond (sees x) Inside Absent

-- ---- how it grows

-- a row over all slots: its values stand in the slots that its maker sees, the others have their columns' defaults
abbrev pub spread : (ℕ → Bool) → List Slot → List Value → List Value
spread sees [] row = []
spread sees (slot ∷ slots) [] = slot.column.default ∷ spread sees slots []
spread sees (slot ∷ slots) (value ∷ row) = cond (sees slot.maker) (value ∷ spread sees slots row) (slot.column.default ∷ spread sees slots (value ∷ row))

abbrev pub with_kept : ℕ → (KeptTable → KeptTable) → List KeptTable → List KeptTable
with_kept number f [] = []
with_kept number f (t ∷ tables) = cond (t.number == number) (f t) t ∷ with_kept number f tables

abbrev pub kept_row : ℕ → ℕ → (ℕ → Bool) → List Value → KeptTable → KeptTable
kept_row number maker sees row t = record t { rows = t.rows ++ record { number = number; maker = maker; values = spread sees t.slots row } ∷ [] }

abbrev pub kept_slot : Option Statement → ℕ → KeptTable → KeptTable
kept_slot (Some (statements.AddColumn name column)) maker t = record t { slots = t.slots ++ record { maker = maker; column = column } ∷ [] }
kept_slot other maker t = t

abbrev pub slots_of : ℕ → List Column → List Slot
slots_of maker columns = map (λ (c : Column). record { maker = maker; column = c }) columns

-- Everything is kept, in the order in which it was made. Commits and aborts change nothing here.
abbrev pub store : Terms → Past → List KeptTable
store terms [] = []
store terms (Make x table name shape ∷ past) = store terms past ++ record { number = table; maker = x; name = name; slots = slots_of x shape; rows = [] } ∷ []
store terms (Add x table row ∷ past) = with_kept table (kept_row (length past) x (sees past (Some x)) row) (store terms past)
store terms (Alter x table statement rewritten ∷ past) = with_kept table (kept_slot (statement_of terms (hand past (session_of past x)) statement) x) (store terms past)
store terms (e ∷ past) = store terms past
