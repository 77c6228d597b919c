-- Rows by slot: what is written is read, and a new slot gives each row its value at the end.
use Rattle.std.proofs.Common.{◌≡◌, ℕ, suc, ◌<◌, ◌≤◌, List, [], ◌∷◌, ◌++◌, length, map, refl, ap, cond, true, false, Bool, Option, Some, None, arith, ◌∙◌}
use Rattle.std.specs.Prelude.{◌==◌, if◌then◌else◌}
use Rattle.std.proofs.lemmas.Bool.{ne_eqb}
use Rattle.al_values.specs.declared.scalar.Value.{Value}
use Rattle.al_values.specs.declared.scalar.Value.TheVariants as values
use Rattle.al_schema.specs.declared.slot.Slot.{Slot}
use Rattle.al_schema.specs.Slots.{row_by}
use Rattle.al_history.specs.declared.statement.Column.{Column}
use Rattle.al_history.specs.Database.{VersionedRow, has_row}
use Rattle.al_history.specs.Parts.{Version, RowVersions, live_columns, row_in, seen_row, before, seen_rows, slot_of, slots_of, stored_by, new_row}

-- ---- what is written is read

pub read_written : (slots : List Slot) (row : List Value) → length row ≡ length (live_columns slots) → row_by slots (stored_by slots row) ≡ row
read_written [] [] fits = refl
read_written [] (v ∷ row) fits = absurd (omega (arith, fits))
read_written (slot ∷ slots) [] fits = by_dropped slot.dropped refl fits (λ h. read_written slots [] h) where
  by_dropped : (b : Bool) → slot.dropped ≡ b → 0 ≡ length (if b then live_columns slots else record { name = slot.name; default = slot.default } ∷ live_columns slots) → (0 ≡ length (live_columns slots) → row_by slots (stored_by slots []) ≡ []) → row_by (slot ∷ slots) (if b then values.Null ∷ stored_by slots [] else slot.added ∷ stored_by slots []) ≡ []
  by_dropped true is fits more = rw is (more fits)
  by_dropped false is fits more = absurd (omega (arith, fits))
read_written (slot ∷ slots) (v ∷ row) fits = by_dropped slot.dropped refl fits (λ h. read_written slots (v ∷ row) h) (λ h. read_written slots row h) where
  by_dropped : (b : Bool) → slot.dropped ≡ b → length (v ∷ row) ≡ length (if b then live_columns slots else record { name = slot.name; default = slot.default } ∷ live_columns slots) → (length (v ∷ row) ≡ length (live_columns slots) → row_by slots (stored_by slots (v ∷ row)) ≡ v ∷ row) → (length row ≡ length (live_columns slots) → row_by slots (stored_by slots row) ≡ row) → row_by (slot ∷ slots) (if b then values.Null ∷ stored_by slots (v ∷ row) else v ∷ stored_by slots row) ≡ v ∷ row
  by_dropped true is fits same less = rw is (same fits)
  by_dropped false is fits same less = rw is (ap (λ (rest : List Value). v ∷ rest) (less (omega (arith, fits))))

pub length_stored : (slots : List Slot) (row : List Value) → length (stored_by slots row) ≡ length slots
length_stored [] row = refl
length_stored (slot ∷ slots) [] = by_dropped slot.dropped (length_stored slots []) where
  by_dropped : (b : Bool) → length (stored_by slots []) ≡ length slots → length (if b then values.Null ∷ stored_by slots [] else slot.added ∷ stored_by slots []) ≡ suc (length slots)
  by_dropped true same = ap suc same
  by_dropped false same = ap suc same
length_stored (slot ∷ slots) (v ∷ row) = by_dropped slot.dropped (length_stored slots (v ∷ row)) (length_stored slots row) where
  by_dropped : (b : Bool) → length (stored_by slots (v ∷ row)) ≡ length slots → length (stored_by slots row) ≡ length slots → length (if b then values.Null ∷ stored_by slots (v ∷ row) else v ∷ stored_by slots row) ≡ suc (length slots)
  by_dropped true same less = ap suc same
  by_dropped false same less = ap suc less

pub columns_again : (columns : List Column) → live_columns (slots_of columns) ≡ columns
columns_again [] = refl
columns_again (c ∷ columns) = ap (λ (rest : List Column). c ∷ rest) (columns_again columns)

-- ---- a new slot

pub columns_more : (slots : List Slot) (c : Column) → live_columns (slots ++ slot_of c ∷ []) ≡ live_columns slots ++ c ∷ []
columns_more [] c = refl
columns_more (slot ∷ slots) c = by_dropped slot.dropped (columns_more slots c) where
  by_dropped : (b : Bool) → live_columns (slots ++ slot_of c ∷ []) ≡ live_columns slots ++ c ∷ [] → (if b then live_columns (slots ++ slot_of c ∷ []) else record { name = slot.name; default = slot.default } ∷ live_columns (slots ++ slot_of c ∷ [])) ≡ (if b then live_columns slots else record { name = slot.name; default = slot.default } ∷ live_columns slots) ++ c ∷ []
  by_dropped true more = more
  by_dropped false more = ap (λ (rest : List Column). record { name = slot.name; default = slot.default } ∷ rest) more

read_more : (slots : List Slot) (c : Column) (stored : List Value) → length stored ≤ length slots → row_by (slots ++ slot_of c ∷ []) stored ≡ row_by slots stored ++ c.default ∷ []
read_more [] c [] short = refl
read_more [] c (v ∷ stored) short = absurd (omega (arith, short))
read_more (slot ∷ slots) c [] short = by_dropped slot.dropped (read_more slots c [] (omega arith)) where
  by_dropped : (b : Bool) → row_by (slots ++ slot_of c ∷ []) [] ≡ row_by slots [] ++ c.default ∷ [] → (if b then row_by (slots ++ slot_of c ∷ []) [] else slot.added ∷ row_by (slots ++ slot_of c ∷ []) []) ≡ (if b then row_by slots [] else slot.added ∷ row_by slots []) ++ c.default ∷ []
  by_dropped true more = more
  by_dropped false more = ap (λ (rest : List Value). slot.added ∷ rest) more
read_more (slot ∷ slots) c (v ∷ stored) short = by_dropped slot.dropped (read_more slots c stored (omega (arith, short))) where
  by_dropped : (b : Bool) → row_by (slots ++ slot_of c ∷ []) stored ≡ row_by slots stored ++ c.default ∷ [] → (if b then row_by (slots ++ slot_of c ∷ []) stored else v ∷ row_by (slots ++ slot_of c ∷ []) stored) ≡ (if b then row_by slots stored else v ∷ row_by slots stored) ++ c.default ∷ []
  by_dropped true more = more
  by_dropped false more = ap (λ (rest : List Value). v ∷ rest) more

pub slots_push : (slots : List Slot) (slot : Slot) → length (slots ++ slot ∷ []) ≡ suc (length slots)
slots_push [] slot = refl
slots_push (s ∷ slots) slot = ap suc (slots_push slots slot)

-- ---- rows, none of which is longer than the slots

abbrev pub IsShort : ℕ → Option (List Value) → Type 0
IsShort n None = Unit {0}
IsShort n (Some stored) = length stored ≤ n

abbrev pub VersionsShort : (ℕ → Bool) → ℕ → List Version → Type 0
VersionsShort sees n [] = Unit {0}
VersionsShort sees n (v ∷ versions) = (sees v.maker ≡ true → IsShort n v.stored) × VersionsShort sees n versions

abbrev pub RowsShort : (ℕ → Bool) → ℕ → List RowVersions → Type 0
RowsShort sees n [] = Unit {0}
RowsShort sees n (r ∷ rows) = VersionsShort sees n r.versions × RowsShort sees n rows

short_more : (n m : ℕ) (o : Option (List Value)) → n ≤ m → IsShort n o → IsShort m o
short_more n m None le short = tt
short_more n m (Some stored) le short = omega (arith, short)

versions_more : (sees : ℕ → Bool) (n m : ℕ) (versions : List Version) → n ≤ m → VersionsShort sees n versions → VersionsShort sees m versions
versions_more sees n m [] le short = tt
versions_more sees n m (v ∷ versions) le short = ((λ is. short_more n m v.stored le (short.0 is)), versions_more sees n m versions le short.1)

pub rows_more : (sees : ℕ → Bool) (n m : ℕ) (rows : List RowVersions) → n ≤ m → RowsShort sees n rows → RowsShort sees m rows
rows_more sees n m [] le short = tt
rows_more sees n m (r ∷ rows) le short = (versions_more sees n m r.versions le short.0, rows_more sees n m rows le short.1)

pub short_push : (sees : ℕ → Bool) (n : ℕ) (rows : List RowVersions) (r : RowVersions) → VersionsShort sees n r.versions → RowsShort sees n rows → RowsShort sees n (rows ++ r ∷ [])
short_push sees n [] r one short = (one, tt)
short_push sees n (q ∷ rows) r one short = (short.0, short_push sees n rows r one short.1)

-- a row has the new column's default at its end
abbrev pub with_last : Value → VersionedRow → VersionedRow
with_last value r = record r { values = r.values ++ value ∷ [] }

abbrev row_with_last : Value → Option VersionedRow → Option VersionedRow
row_with_last value None = None
row_with_last value (Some r) = Some (with_last value r)

row_grown : (sees : ℕ → Bool) (slots : List Slot) (c : Column) (number : ℕ) (versions : List Version) → VersionsShort sees (length slots) versions → seen_row sees (slots ++ slot_of c ∷ []) number versions ≡ row_with_last c.default (seen_row sees slots number versions)
row_grown sees slots c number [] short = refl
row_grown sees slots c number (v ∷ versions) short = rw (row_grown sees slots c number versions short.1) (by_seen (sees v.maker) refl) where
  one : (o : Option (List Value)) → IsShort (length slots) o → row_in number (slots ++ slot_of c ∷ []) v.number o ≡ row_with_last c.default (row_in number slots v.number o)
  one None short = refl
  one (Some stored) short = rw (read_more slots c stored short) refl

  by_seen : (b : Bool) → sees v.maker ≡ b → cond b (row_in number (slots ++ slot_of c ∷ []) v.number v.stored) (row_with_last c.default (seen_row sees slots number versions)) ≡ row_with_last c.default (cond b (row_in number slots v.number v.stored) (seen_row sees slots number versions))
  by_seen true is = one v.stored (short.0 is)
  by_seen false is = refl

pub rows_grown : (sees : ℕ → Bool) (slots : List Slot) (c : Column) (rows : List RowVersions) → RowsShort sees (length slots) rows → seen_rows sees (slots ++ slot_of c ∷ []) rows ≡ map (with_last c.default) (seen_rows sees slots rows)
rows_grown sees slots c [] short = refl
rows_grown sees slots c (r ∷ rows) short = rw (row_grown sees slots c r.number r.versions short.0, rows_grown sees slots c rows short.1) (by_option (seen_row sees slots r.number r.versions)) where
  by_option : (o : Option VersionedRow) → before (row_with_last c.default o) (map (with_last c.default) (seen_rows sees slots rows)) ≡ map (with_last c.default) (before o (seen_rows sees slots rows))
  by_option None = refl
  by_option (Some q) = refl

-- ---- a new row

append_none : {A : Type 0} → (xs : List A) → xs ++ [] ≡ xs
append_none {A = A} [] = refl
append_none {A = A} (x ∷ xs) = ap (λ (rest : List A). x ∷ rest) (append_none xs)

rows_push : (sees : ℕ → Bool) (slots : List Slot) (rows : List RowVersions) (r : RowVersions) → seen_rows sees slots (rows ++ r ∷ []) ≡ seen_rows sees slots rows ++ before (seen_row sees slots r.number r.versions) []
rows_push sees slots [] r = refl
rows_push sees slots (q ∷ rows) r = rw (rows_push sees slots rows r) (by_option (seen_row sees slots q.number q.versions)) where
  by_option : (o : Option VersionedRow) → before o (seen_rows sees slots rows ++ before (seen_row sees slots r.number r.versions) []) ≡ before o (seen_rows sees slots rows) ++ before (seen_row sees slots r.number r.versions) []
  by_option None = refl
  by_option (Some v) = refl

-- who sees its maker sees the row as it was written
pub row_new : (sees : ℕ → Bool) (slots : List Slot) (number x : ℕ) (row : List Value) (rows : List RowVersions) → sees x ≡ true → length row ≡ length (live_columns slots) → seen_rows sees slots (rows ++ new_row number x (stored_by slots row) ∷ []) ≡ seen_rows sees slots rows ++ record { number = number; version = number; values = row } ∷ []
row_new sees slots number x row rows is fits = rw (rows_push sees slots rows (new_row number x (stored_by slots row)), is, read_written slots row fits) refl

-- who doesn't see its maker doesn't see the row
pub row_unseen : (sees : ℕ → Bool) (slots : List Slot) (number x : ℕ) (stored : List Value) (rows : List RowVersions) → sees x ≡ false → seen_rows sees slots (rows ++ new_row number x stored ∷ []) ≡ seen_rows sees slots rows
row_unseen sees slots number x stored rows is = rw (rows_push sees slots rows (new_row number x stored), is) (append_none (seen_rows sees slots rows))

-- ---- numbers

abbrev pub RowsBelow : ℕ → List RowVersions → Type 0
RowsBelow next [] = Unit {0}
RowsBelow next (r ∷ rows) = (r.number < next) × RowsBelow next rows

pub below_more : (next later : ℕ) (rows : List RowVersions) → next ≤ later → RowsBelow next rows → RowsBelow later rows
below_more next later [] le below = tt
below_more next later (r ∷ rows) le below = (omega (arith, below.0), below_more next later rows le below.1)

pub below_push : (next : ℕ) (rows : List RowVersions) (r : RowVersions) → r.number < next → RowsBelow next rows → RowsBelow next (rows ++ r ∷ [])
below_push next [] r lt below = (lt, tt)
below_push next (q ∷ rows) r lt below = (below.0, below_push next rows r lt below.1)

-- no row that is seen has a number from there on
row_number : (sees : ℕ → Bool) (slots : List Slot) (number next : ℕ) (versions : List Version) (rest : List VersionedRow) → number < next → has_row (before (seen_row sees slots number versions) rest) next ≡ has_row rest next
row_number sees slots number next [] rest lt = refl
row_number sees slots number next (v ∷ versions) rest lt = by_seen (sees v.maker) (row_number sees slots number next versions rest lt) where
  one : (o : Option (List Value)) → has_row (before (row_in number slots v.number o) rest) next ≡ has_row rest next
  one None = refl
  one (Some stored) = let other : (number == next) ≡ false = ne_eqb number next (λ e. omega (arith, lt, e)) in rw other refl

  by_seen : (b : Bool) → has_row (before (seen_row sees slots number versions) rest) next ≡ has_row rest next → has_row (before (cond b (row_in number slots v.number v.stored) (seen_row sees slots number versions)) rest) next ≡ has_row rest next
  by_seen true more = one v.stored
  by_seen false more = more

pub row_fresh : (sees : ℕ → Bool) (slots : List Slot) (next : ℕ) (rows : List RowVersions) → RowsBelow next rows → has_row (seen_rows sees slots rows) next ≡ false
row_fresh sees slots next [] below = refl
row_fresh sees slots next (r ∷ rows) below = row_number sees slots r.number next r.versions (seen_rows sees slots rows) below.0 ∙ row_fresh sees slots next rows below.1
