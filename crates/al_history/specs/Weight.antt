-- What the entries of a journal weigh: a journal may weigh so much and no more.
use Rattle.std.specs.Prelude.{ℕ, List, [], ◌∷◌, ◌+◌, ◌/◌, cond, length, Option, Some, None}
use Rattle.al_values.specs.declared.scalar.Value.{Value}
use Rattle.al_values.specs.declared.scalar.Value.TheVariants as values
use Rattle.al_history.specs.declared.entry.NumberedRow.{NumberedRow}
use Rattle.al_history.specs.declared.entry.Rewritten.{Rewritten}
use Rattle.al_history.specs.declared.entry.Entry.{Entry}
use Rattle.al_history.specs.declared.entry.Entry.TheVariants.{Wait, Lock, Look, Make, Add, Read, Alter}
use Rattle.al_history.specs.Past.{Past}
use Rattle.al_history.specs.Locks.{is_grant}

-- the bytes of the texts in a row
abbrev pub text_bytes : List Value → ℕ
text_bytes [] = 0
text_bytes (values.Text text ∷ row) = length text + text_bytes row
text_bytes (value ∷ row) = text_bytes row

-- a row weighs its number of values, and its text bytes divided by 16, rounded down
abbrev pub row_weight : List Value → ℕ
row_weight row = length row + text_bytes row / 16

-- each row that is read weighs 1 more
abbrev pub rows_weight : List (List Value) → ℕ
rows_weight [] = 0
rows_weight (row ∷ rows) = 1 + row_weight row + rows_weight rows

abbrev pub numbered_weight : List NumberedRow → ℕ
numbered_weight [] = 0
numbered_weight (row ∷ rows) = row_weight row.values + numbered_weight rows

-- the rows of all tables that an ALTER TABLE rewrote
abbrev pub rewritten_weight : List Rewritten → ℕ
rewritten_weight [] = 0
rewritten_weight (table ∷ tables) = numbered_weight table.rows + rewritten_weight tables

abbrev pub read_weight : List (List ℕ) → List (List Value) → ℕ
read_weight names rows = 1 + length names + rows_weight rows

-- what an entry weighs after this past; all others are light and weigh nothing, and so does the lock of a request that waits
abbrev pub entry_weight : Past → Entry → Option ℕ
entry_weight past (Wait x want) = Some 2
entry_weight past (Lock x table mode) = cond (is_grant past (Lock x table mode)) None (Some 1)
entry_weight past (Look x) = Some 1
entry_weight past (Make x table name shape) = Some (1 + length shape)
entry_weight past (Add x table row) = Some (1 + row_weight row)
entry_weight past (Read x names rows) = Some (read_weight names rows)
entry_weight past (Alter x table statement rewritten) = Some (1 + rewritten_weight rewritten)
entry_weight past e = None

abbrev pub heavier : ℕ → Option ℕ → ℕ
heavier weight None = weight
heavier weight (Some more) = weight + more

-- the weight of the entries so far
abbrev pub weight : Past → ℕ
weight [] = 0
weight (e ∷ past) = heavier (weight past) (entry_weight past e)
