-- The rows that are kept of a table are no more than the row entries.
use Rattle.std.proofs.Common.{◌≡◌, ℕ, ◌+◌, ◌≤◌, List, [], ◌∷◌, ◌++◌, length, refl, Bool, true, false, cond, Option, Some, None, arith, slice_get, zero, suc, map, reverse, subst}
use Rattle.std.specs.Prelude.{◌==◌}
use Rattle.std.specs.List.{AllByRecursion}
use Rattle.al_values.specs.declared.scalar.Value.{Value}
use Rattle.al_history.specs.declared.entry.Entry.TheVariants.{Make, Add, Alter}
use Rattle.al_history.specs.declared.statement.Statement.{Statement}
use Rattle.al_history.specs.declared.statement.Statement.TheVariants as statements
use Rattle.al_history.specs.declared.statement.Terms.{Terms}
use Rattle.al_history.specs.Past.{Past}
use Rattle.al_history.specs.Hand.{hand, session_of, statement_of}
use Rattle.al_history.specs.Made.{row_entries}
use Rattle.al_history.specs.Store.{KeptTable, sees, with_kept, kept_row, kept_slot, slots_of, spread, store}
use Rattle.al_history.proofs.Stores.{length_push}
use Rattle.al_history.proofs.Worked.Journals.{terms, ended_create, journal}

-- no table has more than n rows
abbrev pub HaveAtMost : ℕ → List KeptTable → Type 0
HaveAtMost n tables = AllByRecursion (λ (t : KeptTable). length t.rows ≤ n) tables

at_most_push : (n : ℕ) (tables : List KeptTable) (t : KeptTable) → length t.rows ≤ n → HaveAtMost n tables → HaveAtMost n (tables ++ t ∷ [])
at_most_push n [] t le few = (le, tt)
at_most_push n (u ∷ tables) t le few = (few.0, at_most_push n tables t le few.1)

-- a change of one table that gives it no more than m rows
at_most_with : (n m number : ℕ) (f : KeptTable → KeptTable) (tables : List KeptTable) → n ≤ m → ((t : KeptTable) → length t.rows ≤ n → length (f t).rows ≤ m) → HaveAtMost n tables → HaveAtMost m (with_kept number f tables)
at_most_with n m number f [] le small few = tt
at_most_with n m number f (t ∷ tables) le small few = (by_test (t.number == number), at_most_with n m number f tables le small few.1) where
  by_test : (b : Bool) → length (cond b (f t) t).rows ≤ m
  by_test true = small t few.0
  by_test false = omega (arith, few.0, le)

-- a new row is one more
row_rows : (n number maker : ℕ) (g : ℕ → Bool) (row : List Value) (t : KeptTable) → length t.rows ≤ n → length (kept_row number maker g row t).rows ≤ n + 1
row_rows n number maker g row t le = omega (arith, le, length_push t.rows (record { number = number; maker = maker; values = spread g t.slots row }))

-- a new column brings no row
slot_rows : (n : ℕ) (o : Option Statement) (x : ℕ) (t : KeptTable) → length t.rows ≤ n → length (kept_slot o x t).rows ≤ n
slot_rows n None x t le = le
slot_rows n (Some statements.Begin) x t le = le
slot_rows n (Some statements.Commit) x t le = le
slot_rows n (Some statements.Rollback) x t le = le
slot_rows n (Some (statements.CreateTable name columns)) x t le = le
slot_rows n (Some (statements.Insert name values)) x t le = le
slot_rows n (Some (statements.Select name)) x t le = le
slot_rows n (Some (statements.AddColumn name column)) x t le = le

-- each table of the store has at most as many rows as the journal has row entries
pub rows_counted : (terms : Terms) (past : Past) → HaveAtMost (row_entries past) (store terms past)
rows_counted terms [] = tt
rows_counted terms (Make x table name shape ∷ past) = at_most_push (row_entries past) (store terms past) (record { number = table; maker = x; name = name; slots = slots_of x shape; rows = [] }) (omega arith) (rows_counted terms past)
rows_counted terms (Add x table row ∷ past) = at_most_with (row_entries past) (row_entries past + 1) table (kept_row (length past) x (sees past (Some x)) row) (store terms past) (omega arith) (row_rows (row_entries past) (length past) x (sees past (Some x)) row) (rows_counted terms past)
rows_counted terms (Alter x table statement rewritten ∷ past) = at_most_with (row_entries past) (row_entries past) table (kept_slot (statement_of terms (hand past (session_of past x)) statement) x) (store terms past) (omega arith) (slot_rows (row_entries past) (statement_of terms (hand past (session_of past x)) statement) x) (rows_counted terms past)
rows_counted terms (e ∷ past) = rows_counted terms past

few_at : (n : ℕ) (tables : List KeptTable) (at : ℕ) (t : KeptTable) → HaveAtMost n tables → slice_get tables at ≡ Some t → length t.rows ≤ n
few_at n [] at t few there = absurd cc
few_at n (u ∷ tables) zero t few there = let e : u ≡ t = cc in subst (λ (v : KeptTable). length v.rows ≤ n) e few.0
few_at n (u ∷ tables) (suc at) t few there = few_at n tables at t few.1 there

-- the table at a place of the store
pub rows_counted_at : (terms : Terms) (past : Past) (at : ℕ) (t : KeptTable) → slice_get (store terms past) at ≡ Some t → length t.rows ≤ row_entries past
rows_counted_at terms past at t there = few_at (row_entries past) (store terms past) at t (rows_counted terms past) there

-- a table is made without a row entry,
none_at_first : row_entries (reverse ended_create) ≡ 0
none_at_first = refl

-- and its row is one row entry, whatever is altered and read later
one_at_last : row_entries (reverse journal) ≡ 1
one_at_last = refl

one_is_kept : map (λ (t : KeptTable). length t.rows) (store terms (reverse journal)) ≡ 1 ∷ []
one_is_kept = refl
