-- The parts that are kept of what happens to tables and rows: of each table its descriptions and the generations of its rows, of
-- each row its versions, each with the transaction that made it, newest first (13.2.1).
use Rattle.std.specs.Prelude.{ℕ, List, [], ◌∷◌, ◌++◌, ◌==◌, Bool, true, false, cond, if◌then◌else◌, length, Option, Some, None}
use Rattle.al_values.specs.declared.kinds.Kind.TheVariants as kinds
use Rattle.al_values.specs.declared.scalar.Value.{Value}
use Rattle.al_values.specs.declared.scalar.Value.TheVariants as values
use Rattle.al_schema.specs.declared.slot.Slot.{Slot}
use Rattle.al_schema.specs.Layout.{Layout}
use Rattle.al_schema.specs.Slots.{row_by}
use Rattle.al_history.specs.declared.entry.Entry.{Entry}
use Rattle.al_history.specs.declared.entry.Entry.TheVariants.{Make, Add, Alter}
use Rattle.al_history.specs.declared.statement.Column.{Column}
use Rattle.al_history.specs.declared.statement.Statement.{Statement}
use Rattle.al_history.specs.declared.statement.Statement.TheVariants as statements
use Rattle.al_history.specs.declared.statement.Terms.{Terms}
use Rattle.al_history.specs.Past.{Past}
use Rattle.al_history.specs.Database.{VersionedRow, Table, Database}
use Rattle.al_history.specs.Fate.{Standing, Inside, Outside, Absent}
use Rattle.al_history.specs.Hand.{hand, session_of, statement_of}
use Rattle.al_history.specs.Store.{sees}

-- a version of a row: its number, who made it, and its values by slot; None: the row was removed
pub record Version : Type 0 where
  pub number : ℕ
  pub maker : ℕ
  pub stored : Option (List Value)

pub record RowVersions : Type 0 where
  pub number : ℕ
  pub versions : List Version

-- the rows of a table as one transaction began to keep them
pub record Generation : Type 0 where
  pub maker : ℕ
  pub rows : List RowVersions

pub record Description : Type 0 where
  pub name : List ℕ
  pub layout : Layout
  pub parents : List ℕ

-- a table as one transaction left it; None: it was dropped
pub record TableEntry : Type 0 where
  pub maker : ℕ
  pub description : Option Description

pub record TableParts : Type 0 where
  pub number : ℕ
  pub entries : List TableEntry
  pub generations : List Generation

-- ---- what a reader sees of them

-- Whose changes of tables are seen, and whose changes of rows. Who has an older snapshot sees fewer of these.
pub record Sight : Type 0 where
  pub catalogue : ℕ → Bool
  pub rows : ℕ → Bool

-- where a transaction stands for the reader
abbrev pub stands_in : Sight → ℕ → Standing
stands_in f x = cond (f.rows x) Inside (cond (f.catalogue x) Outside Absent)

-- the columns: the slots that aren't dropped
abbrev pub live_columns : List Slot → List Column
live_columns [] = []
live_columns (slot ∷ slots) = if slot.dropped then live_columns slots else record { name = slot.name; default = slot.default } ∷ live_columns slots

-- the newest description that is seen
abbrev pub seen_description : (ℕ → Bool) → List TableEntry → Option Description
seen_description sees [] = None
seen_description sees (e ∷ entries) = cond (sees e.maker) e.description (seen_description sees entries)

-- the newest generation that is seen
abbrev pub seen_generation : (ℕ → Bool) → List Generation → List RowVersions
seen_generation sees [] = []
seen_generation sees (g ∷ generations) = cond (sees g.maker) g.rows (seen_generation sees generations)

-- a row of a number in this version
abbrev pub row_in : ℕ → List Slot → ℕ → Option (List Value) → Option VersionedRow
row_in number slots version None = None
row_in number slots version (Some stored) = Some (record { number = number; version = version; values = row_by slots stored })

-- a row in its newest version that is seen
abbrev pub seen_row : (ℕ → Bool) → List Slot → ℕ → List Version → Option VersionedRow
seen_row sees slots number [] = None
seen_row sees slots number (v ∷ versions) = cond (sees v.maker) (row_in number slots v.number v.stored) (seen_row sees slots number versions)

-- what there is of it stands before the others
abbrev pub before : {A : Type 0} → Option A → List A → List A
before None xs = xs
before (Some x) xs = x ∷ xs

abbrev pub seen_rows : (ℕ → Bool) → List Slot → List RowVersions → List VersionedRow
seen_rows sees slots [] = []
seen_rows sees slots (r ∷ rows) = before (seen_row sees slots r.number r.versions) (seen_rows sees slots rows)

abbrev pub table_in : (ℕ → Bool) → ℕ → Option Description → List RowVersions → Option Table
table_in sees number None rows = None
table_in sees number (Some d) rows = Some (record { number = number; name = d.name; columns = live_columns d.layout.slots; constraints = []; rows = seen_rows sees d.layout.slots rows })

abbrev pub seen_table : Sight → TableParts → Option Table
seen_table f t = table_in f.rows t.number (seen_description f.catalogue t.entries) (seen_generation f.catalogue t.generations)

-- the database that a reader sees
abbrev pub seen_in : Sight → List TableParts → Database
seen_in f [] = []
seen_in f (t ∷ tables) = before (seen_table f t) (seen_in f tables)

-- ---- how they grow

-- the slot of a new column: a row that is older than the column has there what is its default now
abbrev pub slot_of : Column → Slot
slot_of c = record { name = c.name; kind = kinds.Integer; default = c.default; added = c.default; not_null = false; own = true; dropped = false }

abbrev pub slots_of : List Column → List Slot
slots_of [] = []
slots_of (c ∷ columns) = slot_of c ∷ slots_of columns

abbrev pub described : List ℕ → List Column → Description
described name columns = record { name = name; layout = record { slots = slots_of columns; constraints = [] }; parents = [] }

-- a row's values by slot: null in each that is dropped
abbrev pub stored_by : List Slot → List Value → List Value
stored_by [] row = []
stored_by (slot ∷ slots) [] = if slot.dropped then values.Null ∷ stored_by slots [] else slot.added ∷ stored_by slots []
stored_by (slot ∷ slots) (value ∷ row) = if slot.dropped then values.Null ∷ stored_by slots (value ∷ row) else value ∷ stored_by slots row

abbrev pub stored_in : Option Description → List Value → List Value
stored_in None row = []
stored_in (Some d) row = stored_by d.layout.slots row

-- a new table: its maker's description, and its maker's generation without rows
abbrev pub new_table : ℕ → ℕ → List ℕ → List Column → TableParts
new_table x number name columns = record { number = number; entries = record { maker = x; description = Some (described name columns) } ∷ []; generations = record { maker = x; rows = [] } ∷ [] }

-- the newest generation that is seen, changed
abbrev pub in_generation : (ℕ → Bool) → (List RowVersions → List RowVersions) → List Generation → List Generation
in_generation sees change [] = []
in_generation sees change (g ∷ generations) = cond (sees g.maker) (record g { rows = change g.rows } ∷ generations) (g ∷ in_generation sees change generations)

abbrev pub new_row : ℕ → ℕ → List Value → RowVersions
new_row number x stored = record { number = number; versions = record { number = number; maker = x; stored = Some stored } ∷ [] }

-- a row is written by the description that its maker sees, into the generation that its maker sees
abbrev pub with_new_row : (ℕ → Bool) → ℕ → ℕ → List Value → TableParts → TableParts
with_new_row sees number x row t = record t { generations = in_generation sees (λ rows. rows ++ new_row number x (stored_in (seen_description sees t.entries) row) ∷ []) t.generations }

-- ADD COLUMN puts a slot at the end
abbrev pub with_slot : Slot → Description → Description
with_slot slot d = record d { layout = record { slots = d.layout.slots ++ slot ∷ []; constraints = d.layout.constraints } }

abbrev pub altered_by : Option Statement → Option Description → Option Description
altered_by o None = None
altered_by (Some (statements.AddColumn name column)) (Some d) = Some (with_slot (slot_of column) d)
altered_by o (Some d) = Some d

-- an ALTER TABLE makes a new description of the one that it sees
abbrev pub with_new_entry : (ℕ → Bool) → ℕ → Option Statement → TableParts → TableParts
with_new_entry sees x statement t = record t { entries = record { maker = x; description = altered_by statement (seen_description sees t.entries) } ∷ t.entries }

-- what an entry does to the parts: it brings a new table, or changes the table of a number
pub data Act : Type 0 where
  Nothing : Act
  New : (table : TableParts) → Act
  On : (number : ℕ) (change : TableParts → TableParts) → Act

abbrev pub act : Terms → Past → Entry → Act
act terms past (Make x table name columns) = New (new_table x table name columns)
act terms past (Add x table row) = On table (with_new_row (sees past (Some x)) (length past) x row)
act terms past (Alter x table statement rewritten) = On table (with_new_entry (sees past (Some x)) x (statement_of terms (hand past (session_of past x)) statement))
act terms past e = Nothing

abbrev pub with_parts : ℕ → (TableParts → TableParts) → List TableParts → List TableParts
with_parts number change [] = []
with_parts number change (t ∷ tables) = cond (t.number == number) (change t) t ∷ with_parts number change tables

abbrev pub acted : Act → List TableParts → List TableParts
acted Nothing tables = tables
acted (New t) tables = tables ++ t ∷ []
acted (On number change) tables = with_parts number change tables

-- All that was made is kept, in the order in which tables were made. Commits and aborts change nothing here.
abbrev pub parts : Terms → Past → List TableParts
parts terms [] = []
parts terms (e ∷ past) = acted (act terms past e) (parts terms past)
