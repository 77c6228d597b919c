-- The one list serves every reader that sees what is committed and nothing that is aborted.
use Rattle.std.proofs.Common.{◌≡◌, ℕ, suc, ◌+◌, ◌<◌, ◌≤◌, List, [], ◌∷◌, ◌++◌, length, map, refl, sym, ap, cond, true, false, Bool, Option, Some, None, arith, ◌∙◌}
use Rattle.std.specs.Prelude.{◌||◌, ◌==◌, is_some}
use Rattle.std.proofs.lemmas.Bool.{ne_eqb, eq-eqb, eqb-true}
use Rattle.al_values.specs.declared.scalar.Value.{Value}
use Rattle.al_history.specs.declared.entry.Entry.TheVariants.{Give, Start, Wait, Lock, Look, Make, Add, Read, Alter, Done, Refuse, Commit, Abort, Cancel, End, Close}
use Rattle.al_history.specs.declared.statement.Column.{Column}
use Rattle.al_history.specs.declared.statement.Statement.{Statement}
use Rattle.al_history.specs.declared.statement.Statement.TheVariants as statements
use Rattle.al_history.specs.declared.statement.Terms.{Terms}
use Rattle.al_history.specs.Past.{Past}
use Rattle.al_history.specs.Database.{VersionedRow, Table, Database, named, has_table, has_row, with_table}
use Rattle.al_history.specs.Change.{made, with_row, added, alteration, after_alteration, altered, column_cause}
use Rattle.al_history.specs.Fate.{Fate, Open, Committed, Aborted, fate, is_that, Standing, Inside, Absent, standing, inside_if, outside_if}
use Rattle.al_history.specs.Hand.{hand, session_of, statement_of}
use Rattle.al_history.specs.View.{for_both, for_inside, view_by, latest, committed}
use mathlib.Core.Path.{fun_ext}
use Rattle.al_history.specs.Store.{is_committed, Slot, KeptRow, KeptTable, shown_columns, shown_values, shown_row, shown_rows, shown_table, shown, sees, stands, spread, with_kept, kept_row, kept_slot, slots_of, store}
use Rattle.al_history.specs.Fits.{CanSee, Agree, EachOf, MakeFits, AddFits, Fits}

-- ---- numbers ascend, rows are short

abbrev RowsBelow : ℕ → List KeptRow → Type 0
RowsBelow next [] = Unit {0}
RowsBelow next (r ∷ rows) = (r.number < next) × RowsBelow next rows

abbrev RowsShort : List Slot → List KeptRow → Type 0
RowsShort slots [] = Unit {0}
RowsShort slots (r ∷ rows) = (length r.values ≤ length slots) × RowsShort slots rows

record IsSound (low next : ℕ) (t : KeptTable) : Type 0 where
  from : low ≤ t.number
  below : t.number < next
  rows_below : RowsBelow next t.rows
  rows_short : RowsShort t.slots t.rows

abbrev AreSound : ℕ → ℕ → List KeptTable → Type 0
AreSound low next [] = Unit {0}
AreSound low next (t ∷ tables) = IsSound low next t × AreSound (t.number + 1) next tables

rows_below_more : (next later : ℕ) (rows : List KeptRow) → next ≤ later → RowsBelow next rows → RowsBelow later rows
rows_below_more next later [] le below = tt
rows_below_more next later (r ∷ rows) le below = (omega (arith, below.0), rows_below_more next later rows le below.1)

rows_below_push : (next : ℕ) (rows : List KeptRow) (r : KeptRow) → RowsBelow next rows → r.number < next → RowsBelow next (rows ++ r ∷ [])
rows_below_push next [] r below lt = (lt, tt)
rows_below_push next (q ∷ rows) r below lt = (below.0, rows_below_push next rows r below.1 lt)

rows_short_push : (slots : List Slot) (rows : List KeptRow) (r : KeptRow) → RowsShort slots rows → length r.values ≤ length slots → RowsShort slots (rows ++ r ∷ [])
rows_short_push slots [] r short le = (le, tt)
rows_short_push slots (q ∷ rows) r short le = (short.0, rows_short_push slots rows r short.1 le)

pub length_push : {A : Type 0} (xs : List A) (x : A) → length (xs ++ x ∷ []) ≡ suc (length xs)
length_push [] x = refl
length_push (y ∷ xs) x = ap suc (length_push xs x)

rows_short_more : (slots : List Slot) (slot : Slot) (rows : List KeptRow) → RowsShort slots rows → RowsShort (slots ++ slot ∷ []) rows
rows_short_more slots slot [] short = tt
rows_short_more slots slot (r ∷ rows) short = (omega (arith, short.0, length_push slots slot), rows_short_more slots slot rows short.1)

length_spread : (g : ℕ → Bool) (slots : List Slot) (row : List Value) → length (spread g slots row) ≡ length slots
length_spread g [] row = refl
length_spread g (slot ∷ slots) [] = ap suc (length_spread g slots [])
length_spread g (slot ∷ slots) (v ∷ row) = by_test (g slot.maker) (length_spread g slots row) (length_spread g slots (v ∷ row)) where
  by_test : (b : Bool) → length (spread g slots row) ≡ length slots → length (spread g slots (v ∷ row)) ≡ length slots → length (cond b (v ∷ spread g slots row) (slot.column.default ∷ spread g slots (v ∷ row))) ≡ suc (length slots)
  by_test true own other = ap suc own
  by_test false own other = ap suc other

sound_more : (low next later : ℕ) (tables : List KeptTable) → next ≤ later → AreSound low next tables → AreSound low later tables
sound_more low next later [] le sound = tt
sound_more low next later (t ∷ tables) le sound = (record { from = sound.0.from; below = omega (arith, sound.0.below); rows_below = rows_below_more next later t.rows le sound.0.rows_below; rows_short = sound.0.rows_short }, sound_more (t.number + 1) next later tables le sound.1)

sound_push : (low next later : ℕ) (tables : List KeptTable) (t : KeptTable) → low ≤ next → t.number ≡ next → next < later → t.rows ≡ [] → AreSound low next tables → AreSound low later (tables ++ t ∷ [])
sound_push low next later [] t le number lt none sound = (record { from = omega arith; below = omega arith; rows_below = rw none tt; rows_short = rw none tt }, tt)
sound_push low next later (u ∷ tables) t le number lt none sound = (record { from = sound.0.from; below = omega (arith, sound.0.below); rows_below = rows_below_more next later u.rows (omega arith) sound.0.rows_below; rows_short = sound.0.rows_short }, sound_push (u.number + 1) next later tables t (omega (arith, sound.0.below)) number lt none sound.1)

-- a change of tables that keeps their numbers and their soundness
sound_with : (low next later number : ℕ) (h : KeptTable → KeptTable) (tables : List KeptTable) → next ≤ later → ((t : KeptTable) → (h t).number ≡ t.number) → ((l : ℕ) (t : KeptTable) → IsSound l next t → IsSound l later (h t)) → AreSound low next tables → AreSound low later (with_kept number h tables)
sound_with low next later number h [] le same keeps sound = tt
sound_with low next later number h (t ∷ tables) le same keeps sound =
    let more : IsSound low later t = record { from = sound.0.from; below = omega (arith, sound.0.below); rows_below = rows_below_more next later t.rows le sound.0.rows_below; rows_short = sound.0.rows_short } in
    by_test (t.number == number) more (sound_with (t.number + 1) next later number h tables le same keeps sound.1) where
      by_test : (b : Bool) → IsSound low later t → AreSound (t.number + 1) later (with_kept number h tables) → AreSound low later (cond b (h t) t ∷ with_kept number h tables)
      by_test true more rest = (keeps low t sound.0, rw (same t) rest)
      by_test false more rest = (more, rest)

row_keeps : (next x : ℕ) (g : ℕ → Bool) (row : List Value) (l : ℕ) (t : KeptTable) → IsSound l next t → IsSound l (suc next) (kept_row next x g row t)
row_keeps next x g row l t sound = record {
  from = sound.from;
  below = omega (arith, sound.below);
  rows_below = rows_below_push (suc next) t.rows _ (rows_below_more next (suc next) t.rows (omega arith) sound.rows_below) (omega arith);
  rows_short = rows_short_push t.slots t.rows _ sound.rows_short (omega (arith, length_spread g t.slots row));
}

slot_same : (o : Option Statement) (x : ℕ) (t : KeptTable) → ((kept_slot o x t).number ≡ t.number) × ((kept_slot o x t).maker ≡ t.maker)
slot_same None x t = (refl, refl)
slot_same (Some statements.Begin) x t = (refl, refl)
slot_same (Some statements.Commit) x t = (refl, refl)
slot_same (Some statements.Rollback) x t = (refl, refl)
slot_same (Some (statements.CreateTable name columns)) x t = (refl, refl)
slot_same (Some (statements.Insert name values)) x t = (refl, refl)
slot_same (Some (statements.Select name)) x t = (refl, refl)
slot_same (Some (statements.AddColumn name column)) x t = (refl, refl)

as_was : (next l : ℕ) (t : KeptTable) → IsSound l next t → IsSound l (suc next) t
as_was next l t sound = record { from = sound.from; below = omega (arith, sound.below); rows_below = rows_below_more next (suc next) t.rows (omega arith) sound.rows_below; rows_short = sound.rows_short }

slot_keeps : (o : Option Statement) (next x l : ℕ) (t : KeptTable) → IsSound l next t → IsSound l (suc next) (kept_slot o x t)
slot_keeps None next x l t sound = as_was next l t sound
slot_keeps (Some statements.Begin) next x l t sound = as_was next l t sound
slot_keeps (Some statements.Commit) next x l t sound = as_was next l t sound
slot_keeps (Some statements.Rollback) next x l t sound = as_was next l t sound
slot_keeps (Some (statements.CreateTable name columns)) next x l t sound = as_was next l t sound
slot_keeps (Some (statements.Insert name values)) next x l t sound = as_was next l t sound
slot_keeps (Some (statements.Select name)) next x l t sound = as_was next l t sound
slot_keeps (Some (statements.AddColumn name column)) next x l t sound = record { from = sound.from; below = omega (arith, sound.below); rows_below = rows_below_more next (suc next) t.rows (omega arith) sound.rows_below; rows_short = rows_short_more t.slots _ t.rows sound.rows_short }

store_sound : (terms : Terms) (past : Past) → Fits terms past → AreSound 0 (length past) (store terms past)
store_sound terms [] fits = tt
store_sound terms (Give s block ∷ past) fits = sound_more 0 (length past) _ _ (omega arith) (store_sound terms past fits)
store_sound terms (Start s level ∷ past) fits = sound_more 0 (length past) _ _ (omega arith) (store_sound terms past fits)
store_sound terms (Wait x want ∷ past) fits = sound_more 0 (length past) _ _ (omega arith) (store_sound terms past fits)
store_sound terms (Lock x table mode ∷ past) fits = sound_more 0 (length past) _ _ (omega arith) (store_sound terms past fits)
store_sound terms (Look x ∷ past) fits = sound_more 0 (length past) _ _ (omega arith) (store_sound terms past fits)
store_sound terms (Make x table name shape ∷ past) fits = sound_push 0 (length past) _ _ _ (omega arith) fits.0.number (omega arith) refl (store_sound terms past fits.1)
store_sound terms (Add x table row ∷ past) fits = sound_with 0 (length past) _ table _ _ (omega arith) (λ t. refl) (λ l t sound. row_keeps (length past) x (sees past (Some x)) row l t sound) (store_sound terms past fits.1)
store_sound terms (Read x names rows ∷ past) fits = sound_more 0 (length past) _ _ (omega arith) (store_sound terms past fits)
store_sound terms (Alter x table statement rewritten ∷ past) fits =
    let o : Option Statement = statement_of terms (hand past (session_of past x)) statement in
    sound_with 0 (length past) _ table (kept_slot o x) _ (omega arith) (λ t. (slot_same o x t).0) (λ l t sound. slot_keeps o (length past) x l t sound) (store_sound terms past fits.1)
store_sound terms (Done s reply ∷ past) fits = sound_more 0 (length past) _ _ (omega arith) (store_sound terms past fits)
store_sound terms (Refuse s cause ∷ past) fits = sound_more 0 (length past) _ _ (omega arith) (store_sound terms past fits)
store_sound terms (Commit x ∷ past) fits = sound_more 0 (length past) _ _ (omega arith) (store_sound terms past fits.1)
store_sound terms (Abort x ∷ past) fits = sound_more 0 (length past) _ _ (omega arith) (store_sound terms past fits.1)
store_sound terms (Cancel s ∷ past) fits = sound_more 0 (length past) _ _ (omega arith) (store_sound terms past fits)
store_sound terms (End s ∷ past) fits = sound_more 0 (length past) _ _ (omega arith) (store_sound terms past fits)
store_sound terms (Close s ∷ past) fits = sound_more 0 (length past) _ _ (omega arith) (store_sound terms past fits)

-- ---- what is shown of a table that has changed

shown_push : (f : ℕ → Bool) (tables : List KeptTable) (t : KeptTable) → shown f (tables ++ t ∷ []) ≡ shown f tables ++ cond (f t.maker) (shown_table f t ∷ []) []
shown_push f [] t = refl
shown_push f (u ∷ tables) t = by_test (f u.maker) (shown_push f tables t) where
  by_test : (b : Bool) → shown f (tables ++ t ∷ []) ≡ shown f tables ++ cond (f t.maker) (shown_table f t ∷ []) [] → cond b (shown_table f u ∷ shown f (tables ++ t ∷ [])) (shown f (tables ++ t ∷ [])) ≡ cond b (shown_table f u ∷ shown f tables) (shown f tables) ++ cond (f t.maker) (shown_table f t ∷ []) []
  by_test true more = ap (λ (rest : Database). shown_table f u ∷ rest) more
  by_test false more = more

-- no table that is shown has a number below or past those of the list
none_shown : (f : ℕ → Bool) (low next number : ℕ) (g : Table → Table) (tables : List KeptTable) → number < low → AreSound low next tables → with_table number g (shown f tables) ≡ shown f tables
none_shown f low next number g [] lt sound = refl
none_shown f low next number g (t ∷ tables) lt sound = by_test (f t.maker) (none_shown f (t.number + 1) next number g tables (omega (arith, sound.0.from)) sound.1) where
  by_test : (b : Bool) → with_table number g (shown f tables) ≡ shown f tables → with_table number g (cond b (shown_table f t ∷ shown f tables) (shown f tables)) ≡ cond b (shown_table f t ∷ shown f tables) (shown f tables)
  by_test true more = let other : (t.number == number) ≡ false = ne_eqb t.number number (λ e. omega (arith, sound.0.from)) in rw other (ap (λ (rest : Database). shown_table f t ∷ rest) more)
  by_test false more = more

none_kept : (low next number : ℕ) (h : KeptTable → KeptTable) (tables : List KeptTable) → number < low → AreSound low next tables → with_kept number h tables ≡ tables
none_kept low next number h [] lt sound = refl
none_kept low next number h (t ∷ tables) lt sound =
    let other : (t.number == number) ≡ false = ne_eqb t.number number (λ e. omega (arith, sound.0.from)) in
    rw other (ap (λ (rest : List KeptTable). t ∷ rest) (none_kept (t.number + 1) next number h tables (omega (arith, sound.0.from)) sound.1))

-- a change that a reader sees of each table of the number is one of what is shown
shown_with : (f : ℕ → Bool) (low next number : ℕ) (h : KeptTable → KeptTable) (g : Table → Table) (tables : List KeptTable) → ((t : KeptTable) → (h t).maker ≡ t.maker) → AreSound low next tables → EachOf number (λ t. f t.maker ≡ true → shown_table f (h t) ≡ g (shown_table f t)) tables → shown f (with_kept number h tables) ≡ with_table number g (shown f tables)
shown_with f low next number h g [] same sound each = refl
shown_with f low next number h g (t ∷ tables) same sound each = by_number (t.number == number) refl (shown_with f (t.number + 1) next number h g tables same sound.1 each.1) where
  by_seen : (b : Bool) → f t.maker ≡ b → (t.number == number) ≡ true → t.number ≡ number → shown f (h t ∷ tables) ≡ with_table number g (shown f (t ∷ tables))
  by_seen true seen here is = rw (same t, seen, here) (ap (λ (u : Table). u ∷ shown f tables) (each.0 is seen))
  by_seen false seen here is = rw (same t, seen) (sym (none_shown f (t.number + 1) next number g tables (omega arith) sound.1))

  by_number : (b : Bool) → (t.number == number) ≡ b → shown f (with_kept number h tables) ≡ with_table number g (shown f tables) → shown f (cond b (h t) t ∷ with_kept number h tables) ≡ with_table number g (shown f (t ∷ tables))
  by_number true here more =
      let is : t.number ≡ number = eqb-true t.number number here in
      rw (none_kept (t.number + 1) next number h tables (omega arith) sound.1) (by_seen (f t.maker) refl here is)
  by_number false here more = by_other (f t.maker) more where
    by_other : (b : Bool) → shown f (with_kept number h tables) ≡ with_table number g (shown f tables) → cond b (shown_table f t ∷ shown f (with_kept number h tables)) (shown f (with_kept number h tables)) ≡ with_table number g (cond b (shown_table f t ∷ shown f tables) (shown f tables))
    by_other true more = rw here (ap (λ (rest : Database). shown_table f t ∷ rest) more)
    by_other false more = more

-- a change that a reader doesn't see leaves what is shown
shown_unseen : (f : ℕ → Bool) (number : ℕ) (h : KeptTable → KeptTable) (tables : List KeptTable) → ((t : KeptTable) → (h t).maker ≡ t.maker) → EachOf number (λ t. shown_table f (h t) ≡ shown_table f t) tables → shown f (with_kept number h tables) ≡ shown f tables
shown_unseen f number h [] same each = refl
shown_unseen f number h (t ∷ tables) same each = by_number (t.number == number) refl (shown_unseen f number h tables same each.1) where
  by_seen : (b : Bool) (u : Table) → u ≡ shown_table f t → shown f (with_kept number h tables) ≡ shown f tables → cond b (u ∷ shown f (with_kept number h tables)) (shown f (with_kept number h tables)) ≡ cond b (shown_table f t ∷ shown f tables) (shown f tables)
  by_seen true u is more = rw (is, more) refl
  by_seen false u is more = more

  by_number : (b : Bool) → (t.number == number) ≡ b → shown f (with_kept number h tables) ≡ shown f tables → shown f (cond b (h t) t ∷ with_kept number h tables) ≡ shown f (t ∷ tables)
  by_number true here more = rw (same t) (by_seen (f t.maker) (shown_table f (h t)) (each.0 (eqb-true t.number number here)) more)
  by_number false here more = by_seen (f t.maker) (shown_table f t) refl more

-- ---- rows

-- a new row's values are shown as they were given
shown_spread : (f g : ℕ → Bool) (slots : List Slot) (row : List Value) → Agree f g slots → length row ≡ length (shown_columns f slots) → shown_values f slots (spread g slots row) ≡ row
shown_spread f g [] [] agree fits = refl
shown_spread f g [] (v ∷ row) agree fits = absurd (omega (arith, fits))
shown_spread f g (slot ∷ slots) [] agree fits = by_seen (f slot.maker) refl fits (λ m. shown_spread f g slots [] agree.1 m) where
  by_seen : (b : Bool) → f slot.maker ≡ b → 0 ≡ length (cond b (slot.column ∷ shown_columns f slots) (shown_columns f slots)) → (0 ≡ length (shown_columns f slots) → shown_values f slots (spread g slots []) ≡ []) → cond b (slot.column.default ∷ shown_values f slots (spread g slots [])) (shown_values f slots (spread g slots [])) ≡ []
  by_seen true seen fits more = absurd (omega (arith, fits))
  by_seen false seen fits more = more fits
shown_spread f g (slot ∷ slots) (v ∷ row) agree fits = by_seen (f slot.maker) refl (sym agree.0) fits (λ m. shown_spread f g slots row agree.1 m) (λ m. shown_spread f g slots (v ∷ row) agree.1 m) where
  by_seen : (b : Bool) → f slot.maker ≡ b → g slot.maker ≡ f slot.maker → suc (length row) ≡ length (cond b (slot.column ∷ shown_columns f slots) (shown_columns f slots)) → (length row ≡ length (shown_columns f slots) → shown_values f slots (spread g slots row) ≡ row) → (suc (length row) ≡ length (shown_columns f slots) → shown_values f slots (spread g slots (v ∷ row)) ≡ v ∷ row) → shown_values f (slot ∷ slots) (cond (g slot.maker) (v ∷ spread g slots row) (slot.column.default ∷ spread g slots (v ∷ row))) ≡ v ∷ row
  by_seen true seen same fits own other = rw (same, seen, seen) (ap (λ (rest : List Value). v ∷ rest) (own (omega (arith, fits))))
  by_seen false seen same fits own other = rw (same, seen, seen) (other fits)

shown_rows_push : (f : ℕ → Bool) (slots : List Slot) (rows : List KeptRow) (r : KeptRow) → shown_rows f slots (rows ++ r ∷ []) ≡ shown_rows f slots rows ++ cond (f r.maker) (shown_row f slots r ∷ []) []
shown_rows_push f slots [] r = refl
shown_rows_push f slots (q ∷ rows) r = by_test (f q.maker) (shown_rows_push f slots rows r) where
  by_test : (b : Bool) → shown_rows f slots (rows ++ r ∷ []) ≡ shown_rows f slots rows ++ cond (f r.maker) (shown_row f slots r ∷ []) [] → cond b (shown_row f slots q ∷ shown_rows f slots (rows ++ r ∷ [])) (shown_rows f slots (rows ++ r ∷ [])) ≡ cond b (shown_row f slots q ∷ shown_rows f slots rows) (shown_rows f slots rows) ++ cond (f r.maker) (shown_row f slots r ∷ []) []
  by_test true more = ap (λ (rest : List VersionedRow). shown_row f slots q ∷ rest) more
  by_test false more = more

row_fresh : (f : ℕ → Bool) (slots : List Slot) (next : ℕ) (rows : List KeptRow) → RowsBelow next rows → has_row (shown_rows f slots rows) next ≡ false
row_fresh f slots next [] below = refl
row_fresh f slots next (r ∷ rows) below = by_test (f r.maker) (row_fresh f slots next rows below.1) where
  by_test : (b : Bool) → has_row (shown_rows f slots rows) next ≡ false → has_row (cond b (shown_row f slots r ∷ shown_rows f slots rows) (shown_rows f slots rows)) next ≡ false
  by_test true more = let other : (r.number == next) ≡ false = ne_eqb r.number next (λ e. omega (arith, below.0)) in rw (other, more) refl
  by_test false more = more

-- ---- columns

shown_columns_push : (f : ℕ → Bool) (slots : List Slot) (slot : Slot) → shown_columns f (slots ++ slot ∷ []) ≡ shown_columns f slots ++ cond (f slot.maker) (slot.column ∷ []) []
shown_columns_push f [] slot = refl
shown_columns_push f (s ∷ slots) slot = by_test (f s.maker) (shown_columns_push f slots slot) where
  by_test : (b : Bool) → shown_columns f (slots ++ slot ∷ []) ≡ shown_columns f slots ++ cond (f slot.maker) (slot.column ∷ []) [] → cond b (s.column ∷ shown_columns f (slots ++ slot ∷ [])) (shown_columns f (slots ++ slot ∷ [])) ≡ cond b (s.column ∷ shown_columns f slots) (shown_columns f slots) ++ cond (f slot.maker) (slot.column ∷ []) []
  by_test true more = ap (λ (rest : List Column). s.column ∷ rest) more
  by_test false more = more

shown_values_push : (f : ℕ → Bool) (slots : List Slot) (slot : Slot) (values : List Value) → length values ≤ length slots → shown_values f (slots ++ slot ∷ []) values ≡ shown_values f slots values ++ cond (f slot.maker) (slot.column.default ∷ []) []
shown_values_push f [] slot [] le = refl
shown_values_push f [] slot (v ∷ values) le = absurd (omega (arith, le))
shown_values_push f (s ∷ slots) slot [] le = by_test (f s.maker) (shown_values_push f slots slot [] (omega arith)) where
  by_test : (b : Bool) → shown_values f (slots ++ slot ∷ []) [] ≡ shown_values f slots [] ++ cond (f slot.maker) (slot.column.default ∷ []) [] → cond b (s.column.default ∷ shown_values f (slots ++ slot ∷ []) []) (shown_values f (slots ++ slot ∷ []) []) ≡ cond b (s.column.default ∷ shown_values f slots []) (shown_values f slots []) ++ cond (f slot.maker) (slot.column.default ∷ []) []
  by_test true more = ap (λ (rest : List Value). s.column.default ∷ rest) more
  by_test false more = more
shown_values_push f (s ∷ slots) slot (v ∷ values) le = by_test (f s.maker) (shown_values_push f slots slot values (omega (arith, le))) where
  by_test : (b : Bool) → shown_values f (slots ++ slot ∷ []) values ≡ shown_values f slots values ++ cond (f slot.maker) (slot.column.default ∷ []) [] → cond b (v ∷ shown_values f (slots ++ slot ∷ []) values) (shown_values f (slots ++ slot ∷ []) values) ≡ cond b (v ∷ shown_values f slots values) (shown_values f slots values) ++ cond (f slot.maker) (slot.column.default ∷ []) []
  by_test true more = ap (λ (rest : List Value). v ∷ rest) more
  by_test false more = more

append_none : {A : Type 0} (xs : List A) → xs ++ [] ≡ xs
append_none [] = refl
append_none (x ∷ xs) = ap (λ (rest : List _). x ∷ rest) (append_none xs)

-- rows under one more column: each has its default, where it is seen
rows_under_seen : (f : ℕ → Bool) (slots : List Slot) (slot : Slot) (rows : List KeptRow) → f slot.maker ≡ true → RowsShort slots rows → shown_rows f (slots ++ slot ∷ []) rows ≡ map (λ (r : VersionedRow). record r { values = r.values ++ slot.column.default ∷ [] }) (shown_rows f slots rows)
rows_under_seen f slots slot [] seen short = refl
rows_under_seen f slots slot (r ∷ rows) seen short = by_test (f r.maker) (rows_under_seen f slots slot rows seen short.1) where
  own : shown_values f (slots ++ slot ∷ []) r.values ≡ shown_values f slots r.values ++ slot.column.default ∷ []
  own = shown_values_push f slots slot r.values short.0 ∙ rw seen refl

  by_test : (b : Bool) → shown_rows f (slots ++ slot ∷ []) rows ≡ map (λ (q : VersionedRow). record q { values = q.values ++ slot.column.default ∷ [] }) (shown_rows f slots rows) → cond b (shown_row f (slots ++ slot ∷ []) r ∷ shown_rows f (slots ++ slot ∷ []) rows) (shown_rows f (slots ++ slot ∷ []) rows) ≡ map (λ (q : VersionedRow). record q { values = q.values ++ slot.column.default ∷ [] }) (cond b (shown_row f slots r ∷ shown_rows f slots rows) (shown_rows f slots rows))
  by_test true more = rw (own, more) refl
  by_test false more = more

rows_under_unseen : (f : ℕ → Bool) (slots : List Slot) (slot : Slot) (rows : List KeptRow) → f slot.maker ≡ false → RowsShort slots rows → shown_rows f (slots ++ slot ∷ []) rows ≡ shown_rows f slots rows
rows_under_unseen f slots slot [] seen short = refl
rows_under_unseen f slots slot (r ∷ rows) seen short = by_test (f r.maker) (rows_under_unseen f slots slot rows seen short.1) where
  own : shown_values f (slots ++ slot ∷ []) r.values ≡ shown_values f slots r.values
  own = shown_values_push f slots slot r.values short.0 ∙ rw seen (append_none (shown_values f slots r.values))

  by_test : (b : Bool) → shown_rows f (slots ++ slot ∷ []) rows ≡ shown_rows f slots rows → cond b (shown_row f (slots ++ slot ∷ []) r ∷ shown_rows f (slots ++ slot ∷ []) rows) (shown_rows f (slots ++ slot ∷ []) rows) ≡ cond b (shown_row f slots r ∷ shown_rows f slots rows) (shown_rows f slots rows)
  by_test true more = rw (own, more) refl
  by_test false more = more

-- ---- each entry

-- what can be seen after a Commit or an Abort could be seen before
seen_before_commit : (past : Past) (x : ℕ) (f : ℕ → Bool) → fate past x ≡ Open → CanSee (Commit x ∷ past) f → CanSee past f
seen_before_commit past x f open_so can = record {
  committed = λ z e. can.committed z (by_test (x == z) e);
  aborted = λ z e. can.aborted z (let other : (x == z) ≡ false = ne_eqb x z (λ (same : x ≡ z). let both : ◌≡◌ {A = Fate} Open Aborted = sym open_so ∙ rw same e in cc) in rw other e);
} where
  by_test : {F : Fate} (b : Bool) → F ≡ Committed → cond b Committed F ≡ Committed
  by_test true e = refl
  by_test false e = e

seen_before_abort : (past : Past) (x : ℕ) (f : ℕ → Bool) → fate past x ≡ Open → CanSee (Abort x ∷ past) f → CanSee past f
seen_before_abort past x f open_so can = record {
  committed = λ z e. can.committed z (let other : (x == z) ≡ false = ne_eqb x z (λ (same : x ≡ z). let both : ◌≡◌ {A = Fate} Open Committed = sym open_so ∙ rw same e in cc) in rw other e);
  aborted = λ z e. can.aborted z (by_test (x == z) e);
} where
  by_test : {F : Fate} (b : Bool) → F ≡ Aborted → cond b Aborted F ≡ Aborted
  by_test true e = refl
  by_test false e = e

-- an entry that changes nothing for the readers
still : (past after : Past) (f : ℕ → Bool) → ((z : ℕ) → fate after z ≡ fate past z) → CanSee after f → CanSee past f
still past after f same can = record { committed = λ z e. can.committed z (same z ∙ e); aborted = λ z e. can.aborted z (same z ∙ e) }

all_slots : (f : ℕ → Bool) (x : ℕ) (columns : List Column) → f x ≡ true → shown_columns f (slots_of x columns) ≡ columns
all_slots f x [] seen = refl
all_slots f x (c ∷ columns) seen = rw seen (ap (λ (rest : List Column). c ∷ rest) (all_slots f x columns seen))

no_number : (f : ℕ → Bool) (low next : ℕ) (tables : List KeptTable) → AreSound low next tables → has_table (shown f tables) next ≡ false
no_number f low next [] sound = refl
no_number f low next (t ∷ tables) sound = by_test (f t.maker) (no_number f (t.number + 1) next tables sound.1) where
  by_test : (b : Bool) → has_table (shown f tables) next ≡ false → has_table (cond b (shown_table f t ∷ shown f tables) (shown f tables)) next ≡ false
  by_test true more = let other : (t.number == next) ≡ false = ne_eqb t.number next (λ e. omega (arith, sound.0.below)) in rw (other, more) refl
  by_test false more = more

makes : (terms : Terms) (past : Past) (f : ℕ → Bool) (x table : ℕ) (name : List ℕ) (shape : List Column) → MakeFits terms past x table name → CanSee past f → AreSound 0 (length past) (store terms past) → for_both (stands f x) (made table name shape (shown f (store terms past))) (shown f (store terms past)) ≡ shown f (store terms past ++ record { number = table; maker = x; name = name; slots = slots_of x shape; rows = [] } ∷ [])
makes terms past f x table name shape fits can sound = by_seen (f x) refl where
  by_seen : (b : Bool) → f x ≡ b → for_both (stands f x) (made table name shape (shown f (store terms past))) (shown f (store terms past)) ≡ shown f (store terms past ++ record { number = table; maker = x; name = name; slots = slots_of x shape; rows = [] } ∷ [])
  by_seen true seen =
      let number : has_table (shown f (store terms past)) table ≡ false = rw fits.number (no_number f 0 (length past) (store terms past) sound) in
      let unnamed : is_some (named (shown f (store terms past)) name) ≡ false = fits.unnamed f can seen in
      rw (seen, number, unnamed, shown_push, seen, all_slots f x shape seen) refl
  by_seen false seen = rw (seen, shown_push, seen) (sym (append_none (shown f (store terms past))))

adds : (terms : Terms) (past : Past) (f : ℕ → Bool) (x table : ℕ) (row : List Value) → AddFits terms past x table row → CanSee past f → AreSound 0 (length past) (store terms past) → for_inside (stands f x) (added (length past) table row (shown f (store terms past))) (shown f (store terms past)) ≡ shown f (with_kept table (kept_row (length past) x (sees past (Some x)) row) (store terms past))
adds terms past f x table row fits can sound = by_seen (f x) refl where
  own : (seen : f x ≡ true) (low : ℕ) (tables : List KeptTable) → AreSound low (length past) tables → EachOf table (λ t. f t.maker ≡ true → Agree f (sees past (Some x)) t.slots × (length row ≡ length (shown_columns f t.slots))) tables → EachOf table (λ t. f t.maker ≡ true → shown_table f (kept_row (length past) x (sees past (Some x)) row t) ≡ with_row (length past) row (shown_table f t)) tables
  own seen low [] sound each = tt
  own seen low (t ∷ tables) sound each = (
    (λ is maker.
        let fit = each.0 is maker in
        let fresh : has_row (shown_rows f t.slots t.rows) (length past) ≡ false = row_fresh f t.slots (length past) t.rows sound.0.rows_below in
        let fits_so : (length row == length (shown_columns f t.slots)) ≡ true = eq-eqb _ _ fit.1 in
        rw (fresh, fits_so, shown_rows_push, seen, shown_spread f (sees past (Some x)) t.slots row fit.0 fit.1) refl),
    own seen (t.number + 1) tables sound.1 each.1,
  )

  other : (seen : f x ≡ false) (tables : List KeptTable) → EachOf table (λ t. shown_table f (kept_row (length past) x (sees past (Some x)) row t) ≡ shown_table f t) tables
  other seen [] = tt
  other seen (t ∷ tables) = ((λ is. rw (shown_rows_push, seen, append_none (shown_rows f t.slots t.rows)) refl), other seen tables)

  by_seen : (b : Bool) → f x ≡ b → for_inside (stands f x) (added (length past) table row (shown f (store terms past))) (shown f (store terms past)) ≡ shown f (with_kept table (kept_row (length past) x (sees past (Some x)) row) (store terms past))
  by_seen true seen = rw seen (sym (shown_with f 0 (length past) table (kept_row (length past) x (sees past (Some x)) row) (with_row (length past) row) (store terms past) (λ t. refl) sound (own seen 0 (store terms past) sound (fits.fits f can seen))))
  by_seen false seen = rw seen (sym (shown_unseen f table (kept_row (length past) x (sees past (Some x)) row) (store terms past) (λ t. refl) (other seen (store terms past))))

-- a new column, as a reader of its maker sees it, and as another does
slot_seen : (f : ℕ → Bool) (next l x : ℕ) (column : Column) (t : KeptTable) → f x ≡ true → IsSound l next t → column_cause column.name (shown_columns f t.slots) ≡ None → shown_table f (record t { slots = t.slots ++ record { maker = x; column = column } ∷ [] }) ≡ after_alteration (alteration column (shown_table f t)) (shown_table f t)
slot_seen f next l x column t seen sound absent = rw (absent, shown_columns_push, seen, rows_under_seen f t.slots (record { maker = x; column = column }) t.rows seen sound.rows_short) refl

slot_unseen : (f : ℕ → Bool) (next l x : ℕ) (o : Option Statement) (t : KeptTable) → f x ≡ false → IsSound l next t → shown_table f (kept_slot o x t) ≡ shown_table f t
slot_unseen f next l x None t seen sound = refl
slot_unseen f next l x (Some statements.Begin) t seen sound = refl
slot_unseen f next l x (Some statements.Commit) t seen sound = refl
slot_unseen f next l x (Some statements.Rollback) t seen sound = refl
slot_unseen f next l x (Some (statements.CreateTable name columns)) t seen sound = refl
slot_unseen f next l x (Some (statements.Insert name values)) t seen sound = refl
slot_unseen f next l x (Some (statements.Select name)) t seen sound = refl
slot_unseen f next l x (Some (statements.AddColumn name column)) t seen sound = rw (shown_columns_push, seen, append_none (shown_columns f t.slots), rows_under_unseen f t.slots (record { maker = x; column = column }) t.rows seen sound.rows_short) refl

unseen_each : (f : ℕ → Bool) (next low x number : ℕ) (o : Option Statement) (tables : List KeptTable) → f x ≡ false → AreSound low next tables → EachOf number (λ t. shown_table f (kept_slot o x t) ≡ shown_table f t) tables
unseen_each f next low x number o [] seen sound = tt
unseen_each f next low x number o (t ∷ tables) seen sound = ((λ is. slot_unseen f next low x o t seen sound.0), unseen_each f next (t.number + 1) x number o tables seen sound.1)

seen_each : (f : ℕ → Bool) (next low x number : ℕ) (column : Column) (tables : List KeptTable) → f x ≡ true → AreSound low next tables → EachOf number (λ t. f t.maker ≡ true → column_cause column.name (shown_columns f t.slots) ≡ None) tables → EachOf number (λ t. f t.maker ≡ true → shown_table f (record t { slots = t.slots ++ record { maker = x; column = column } ∷ [] }) ≡ after_alteration (alteration column (shown_table f t)) (shown_table f t)) tables
seen_each f next low x number column [] seen sound each = tt
seen_each f next low x number column (t ∷ tables) seen sound each = ((λ is maker. slot_seen f next low x column t seen sound.0 (each.0 is maker)), seen_each f next (t.number + 1) x number column tables seen sound.1 each.1)

-- a statement that alters nothing keeps all tables
kept_all : (number : ℕ) (h : KeptTable → KeptTable) (tables : List KeptTable) → ((t : KeptTable) → h t ≡ t) → with_kept number h tables ≡ tables
kept_all number h [] same = refl
kept_all number h (t ∷ tables) same = rw (same t, kept_all number h tables same) (by_test (t.number == number)) where
  by_test : (b : Bool) → cond b t t ∷ tables ≡ t ∷ tables
  by_test true = refl
  by_test false = refl

alters : (terms : Terms) (past : Past) (f : ℕ → Bool) (x table : ℕ) (o : Option Statement) → CanSee past f → AreSound 0 (length past) (store terms past) → (f x ≡ true → (name : List ℕ) (column : Column) → o ≡ Some (statements.AddColumn name column) → EachOf table (λ t. f t.maker ≡ true → column_cause column.name (shown_columns f t.slots) ≡ None) (store terms past)) → for_both (stands f x) (altered o table (shown f (store terms past))) (shown f (store terms past)) ≡ shown f (with_kept table (kept_slot o x) (store terms past))
alters terms past f x table o can sound absent = by_seen (f x) refl where
  by_statement : (q : Option Statement) → f x ≡ true → o ≡ q → altered q table (shown f (store terms past)) ≡ shown f (with_kept table (kept_slot q x) (store terms past))
  by_statement None seen is = rw (kept_all table (kept_slot None x) (store terms past) (λ t. refl)) refl
  by_statement (Some statements.Begin) seen is = rw (kept_all table (kept_slot (Some statements.Begin) x) (store terms past) (λ t. refl)) refl
  by_statement (Some statements.Commit) seen is = rw (kept_all table (kept_slot (Some statements.Commit) x) (store terms past) (λ t. refl)) refl
  by_statement (Some statements.Rollback) seen is = rw (kept_all table (kept_slot (Some statements.Rollback) x) (store terms past) (λ t. refl)) refl
  by_statement (Some (statements.CreateTable name columns)) seen is = rw (kept_all table (kept_slot (Some (statements.CreateTable name columns)) x) (store terms past) (λ t. refl)) refl
  by_statement (Some (statements.Insert name values)) seen is = rw (kept_all table (kept_slot (Some (statements.Insert name values)) x) (store terms past) (λ t. refl)) refl
  by_statement (Some (statements.Select name)) seen is = rw (kept_all table (kept_slot (Some (statements.Select name)) x) (store terms past) (λ t. refl)) refl
  by_statement (Some (statements.AddColumn name column)) seen is = sym (shown_with f 0 (length past) table (kept_slot (Some (statements.AddColumn name column)) x) (λ (t : Table). after_alteration (alteration column t) t) (store terms past) (λ t. refl) sound (seen_each f (length past) 0 x table column (store terms past) seen sound (absent seen name column is)))

  by_seen : (b : Bool) → f x ≡ b → for_both (stands f x) (altered o table (shown f (store terms past))) (shown f (store terms past)) ≡ shown f (with_kept table (kept_slot o x) (store terms past))
  by_seen true seen = rw seen (by_statement o seen refl)
  by_seen false seen = rw seen (sym (shown_unseen f table (kept_slot o x) (store terms past) (λ t. (slot_same o x t).1) (unseen_each f (length past) 0 x table o (store terms past) seen sound)))

-- ---- the theorem

pub serves_all : (terms : Terms) (past : Past) (f : ℕ → Bool) → Fits terms past → CanSee past f → view_by terms (stands f) past ≡ shown f (store terms past)
serves_all terms [] f fits can = refl
serves_all terms (Give s block ∷ past) f fits can = serves_all terms past f fits (still past _ f (λ z. refl) can)
serves_all terms (Start s level ∷ past) f fits can = serves_all terms past f fits (still past _ f (λ z. refl) can)
serves_all terms (Wait x want ∷ past) f fits can = serves_all terms past f fits (still past _ f (λ z. refl) can)
serves_all terms (Lock x table mode ∷ past) f fits can = serves_all terms past f fits (still past _ f (λ z. refl) can)
serves_all terms (Look x ∷ past) f fits can = serves_all terms past f fits (still past _ f (λ z. refl) can)
serves_all terms (Make x table name shape ∷ past) f fits can =
    let before : CanSee past f = still past _ f (λ z. refl) can in
    rw (serves_all terms past f fits.1 before) (makes terms past f x table name shape fits.0 before (store_sound terms past fits.1))
serves_all terms (Add x table row ∷ past) f fits can =
    let before : CanSee past f = still past _ f (λ z. refl) can in
    rw (serves_all terms past f fits.1 before) (adds terms past f x table row fits.0 before (store_sound terms past fits.1))
serves_all terms (Read x names rows ∷ past) f fits can = serves_all terms past f fits (still past _ f (λ z. refl) can)
serves_all terms (Alter x table statement rewritten ∷ past) f fits can =
    let before : CanSee past f = still past _ f (λ z. refl) can in
    let o : Option Statement = statement_of terms (hand past (session_of past x)) statement in
    rw (serves_all terms past f fits.1 before) (alters terms past f x table o before (store_sound terms past fits.1) (fits.0.absent f before))
serves_all terms (Done s reply ∷ past) f fits can = serves_all terms past f fits (still past _ f (λ z. refl) can)
serves_all terms (Refuse s cause ∷ past) f fits can = serves_all terms past f fits (still past _ f (λ z. refl) can)
serves_all terms (Commit x ∷ past) f fits can = serves_all terms past f fits.1 (seen_before_commit past x f fits.0 can)
serves_all terms (Abort x ∷ past) f fits can = serves_all terms past f fits.1 (seen_before_abort past x f fits.0 can)
serves_all terms (Cancel s ∷ past) f fits can = serves_all terms past f fits (still past _ f (λ z. refl) can)
serves_all terms (End s ∷ past) f fits can = serves_all terms past f fits (still past _ f (λ z. refl) can)
serves_all terms (Close s ∷ past) f fits can = serves_all terms past f fits (still past _ f (λ z. refl) can)

-- what a reader sees stands where the journal says
sees_stands : (past : Past) (reader : Option ℕ) (z : ℕ) → standing past past reader z ≡ stands (sees past reader) z
sees_stands past reader z = by_fate (is_that reader z) (fate past z) where
  by_fate : (b : Bool) (f : Fate) → cond b Inside (inside_if f (outside_if f)) ≡ cond (b || is_committed f) Inside Absent
  by_fate true f = refl
  by_fate false Open = refl
  by_fate false Committed = refl
  by_fate false Aborted = refl

-- a transaction that isn't aborted sees its own and what is committed, and nobody sees what is committed
may_see : (past : Past) (x : ℕ) → fate past x ≡ Open → CanSee past (sees past (Some x))
may_see past x open_so = record {
  committed = λ z e. rw e (or_true (x == z));
  aborted = λ z e. let other : (x == z) ≡ false = ne_eqb x z (λ (same : x ≡ z). let both : ◌≡◌ {A = Fate} Open Aborted = sym open_so ∙ rw same e in cc) in rw (other, e) refl;
} where
  or_true : (b : Bool) → (b || true) ≡ true
  or_true true = refl
  or_true false = refl

-- the latest database of an open transaction, and the committed one, are shown by the one list
pub latest_shown : (terms : Terms) (past : Past) (x : ℕ) → Fits terms past → fate past x ≡ Open → latest terms past x ≡ shown (sees past (Some x)) (store terms past)
latest_shown terms past x fits open_so = ap (λ (s : ℕ → Standing). view_by terms s past) (fun_ext (sees_stands past (Some x))) ∙ serves_all terms past (sees past (Some x)) fits (may_see past x open_so)

pub committed_shown : (terms : Terms) (past : Past) → Fits terms past → committed terms past ≡ shown (sees past None) (store terms past)
committed_shown terms past fits = ap (λ (s : ℕ → Standing). view_by terms s past) (fun_ext (sees_stands past None)) ∙ serves_all terms past (sees past None) fits (record { committed = λ z e. rw e refl; aborted = λ z e. rw e refl })
