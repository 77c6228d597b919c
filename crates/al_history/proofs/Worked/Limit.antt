-- The weight of a journal, and statements that are refused because it would pass its limit.
use Rattle.std.specs.Prelude.{◌≡◌, ℕ, List, [], ◌∷◌, ◌++◌, true, Option, Some, None, nat_le, reverse, codes, refl}
use Rattle.std.proofs.Common.{arith, ap, inl, inr}
use Rattle.al_values.specs.declared.scalar.Value.TheVariants as values
use Rattle.al_modes.specs.declared.level.Level.TheVariants as levels
use Rattle.al_modes.specs.declared.mode.Mode.TheVariants.{AccessShare, RowExclusive, AccessExclusive}
use Rattle.al_statements.specs.declared.reply.Tag.TheVariants as tags
use Rattle.al_statements.specs.declared.reply.Reply.TheVariants as replies
use Rattle.al_statements.specs.declared.cause.RunLimit.TheVariants as limits
use Rattle.al_statements.specs.declared.cause.Cause.{Cause}
use Rattle.al_statements.specs.declared.cause.Cause.TheVariants as causes
use Rattle.al_history.specs.declared.entry.Want.TheVariants as wants
use Rattle.al_history.specs.declared.entry.Entry.{Entry}
use Rattle.al_history.specs.declared.entry.Entry.TheVariants.{Give, Start, Wait, Lock, Look, Make, Add, Read, Alter, Done, Refuse, Commit, Abort, Cancel, End, Close}
use Rattle.al_history.specs.declared.statement.Statement.TheVariants as statements
use Rattle.al_history.specs.declared.statement.Terms.{Terms}
use Rattle.al_history.specs.Weight.{weight}
use Rattle.al_history.specs.Cause.{cause_of}
use Rattle.al_history.specs.Waits.{is_blocked}
use Rattle.al_history.specs.Legal.{IsLegal}
use Rattle.al_history.proofs.Worked.Journals.{name_t, name_a, name_b, int, column_a, column_b, create, insert, add_column, select, alone, looked_create, acted_create, ended_create}
use Rattle.al_history.proofs.Worked.Rules.{◌▸◌, commits, may_give, may_start, may_wait_for_lock, may_wait_for_end, may_lock, may_be_granted, may_look, may_act, may_make, may_add, may_read, may_alter, may_be_done, may_refuse, may_commit, may_abort, may_end, false_true, none_some, some_none, differ, no_more}

-- ---- what entries weigh

-- these weigh nothing
light_weighs : weight (Give 0 0 ∷ Start 0 levels.ReadCommitted ∷ Done 0 (replies.Tag tags.Begin 0) ∷ Refuse 0 (causes.NoTable name_t) ∷ Commit 0 ∷ Abort 0 ∷ Cancel 0 ∷ End 0 ∷ Close 0 ∷ []) ≡ 0
light_weighs = refl

-- a wait weighs 2, for a lock or for an end
wait_weighs : weight (Wait 0 (wants.Table 3 AccessShare) ∷ []) ≡ 2
wait_weighs = refl

wait_for_end_weighs : weight (Wait 0 (wants.Ends 1) ∷ []) ≡ 2
wait_for_end_weighs = refl

-- a lock weighs 1, and nothing where it was waited for
lock_weighs : weight (Lock 0 3 AccessShare ∷ []) ≡ 1
lock_weighs = refl

waited_lock_weighs : weight (Lock 0 3 AccessShare ∷ Wait 0 (wants.Table 3 AccessShare) ∷ []) ≡ 2
waited_lock_weighs = refl

-- in another mode, or of another table, it isn't the one that was waited for
other_mode_weighs : weight (Lock 0 3 RowExclusive ∷ Wait 0 (wants.Table 3 AccessShare) ∷ []) ≡ 3
other_mode_weighs = refl

other_table_weighs : weight (Lock 0 6 AccessShare ∷ Wait 0 (wants.Table 3 AccessShare) ∷ []) ≡ 3
other_table_weighs = refl

look_weighs : weight (Look 0 ∷ []) ≡ 1
look_weighs = refl

-- a table weighs 1 and its columns
make_weighs : weight (Make 0 2 name_t (column_a ∷ column_b ∷ []) ∷ []) ≡ 3
make_weighs = refl

-- a row weighs 1 and its values,
add_weighs : weight (Add 0 3 (int 1 ∷ values.Null ∷ int 70000 ∷ []) ∷ []) ≡ 4
add_weighs = refl

-- and 1 more for each 16 bytes of its texts together, which begin to count once they are whole
abbrev of_fifteen : List ℕ
of_fifteen = codes "fifteen letters"

abbrev of_sixteen : List ℕ
of_sixteen = codes "sixteen letters."

abbrev of_seventeen : List ℕ
of_seventeen = codes "seventeen letters"

fifteen_bytes_weigh : weight (Add 0 3 (values.Text of_fifteen ∷ []) ∷ []) ≡ 2
fifteen_bytes_weigh = refl

sixteen_bytes_weigh : weight (Add 0 3 (values.Text of_sixteen ∷ []) ∷ []) ≡ 3
sixteen_bytes_weigh = refl

thirty_three_bytes_weigh : weight (Add 0 3 (values.Text of_sixteen ∷ int 1 ∷ values.Text of_seventeen ∷ []) ∷ []) ≡ 6
thirty_three_bytes_weigh = refl

-- two texts of 15 bytes have 30 together
bytes_together : weight (Add 0 3 (values.Text of_fifteen ∷ values.Text of_fifteen ∷ []) ∷ []) ≡ 4
bytes_together = refl

-- what is read weighs 1, its names, and for each row 1 and the row; texts of two rows aren't put together
read_weighs : weight (Read 0 (name_a ∷ name_b ∷ []) ((int 1 ∷ int 5 ∷ []) ∷ (int 2 ∷ values.Null ∷ []) ∷ []) ∷ []) ≡ 9
read_weighs = refl

read_nothing_weighs : weight (Read 0 (name_a ∷ []) [] ∷ []) ≡ 2
read_nothing_weighs = refl

texts_of_rows_weigh : weight (Read 0 (name_a ∷ []) ((values.Text of_fifteen ∷ []) ∷ (values.Text of_fifteen ∷ []) ∷ []) ∷ []) ≡ 6
texts_of_rows_weigh = refl

-- an ALTER TABLE weighs 1 and the rows of all tables that it rewrote
alter_weighs : weight (Alter 0 3 0 [] ∷ []) ≡ 1
alter_weighs = refl

rewritten_weighs : weight (Alter 0 3 0 (
    record { table = 3; rows = record { number = 4; values = int 1 ∷ int 5 ∷ [] } ∷ record { number = 5; values = int 2 ∷ values.Text of_sixteen ∷ [] } ∷ [] }
    ∷ record { table = 6; rows = record { number = 7; values = int 1 ∷ [] } ∷ [] }
    ∷ []) ∷ []) ≡ 7
rewritten_weighs = refl

-- ---- a journal and its limit

-- Three sessions, whose journal may weigh n. Block 0 makes t. Blocks 1 to 4 are BEGIN, an ALTER TABLE of t, COMMIT and CREATE TABLE
-- t in session 1; blocks 5 to 8 are a SELECT, an INSERT, an ALTER TABLE and a CREATE TABLE of t in session 2;
-- block 9 is an INSERT in session 1.
abbrev limited : ℕ → Terms
limited n = record {
  scripts = record {
    sessions = 3;
    blocks =
        alone 0 create
        ∷ alone 1 statements.Begin
        ∷ alone 1 add_column
        ∷ alone 1 statements.Commit
        ∷ alone 1 create
        ∷ alone 2 select
        ∷ alone 2 insert
        ∷ alone 2 add_column
        ∷ alone 2 create
        ∷ alone 1 insert
        ∷ [];
  };
  weight = n;
}

-- what is told of a limit that would be passed
abbrev too_heavy : ℕ → Cause
too_heavy count = causes.Limit limits.Journal count

-- the number that is told
abbrev count_told : Option Cause → ℕ
count_told (Some (causes.Limit what count)) = count
count_told cause = 0

-- The table is made with 3.
create_weighs : weight (reverse ended_create) ≡ 3
create_weighs = refl

create_fits : (n : ℕ) → nat_le 1 n ≡ true → nat_le 3 n ≡ true → IsLegal (limited n) ended_create
create_fits n look make =
    tt
    ▸ may_give (omega arith) refl refl refl refl tt
    ▸ may_start refl refl refl refl tt
    ▸ may_look refl refl refl refl refl (rw look refl) refl tt tt
    ▸ may_make refl (may_act refl refl refl refl (rw make refl)) refl (refl, refl) refl refl tt
    ▸ may_be_done refl refl refl tt
    ▸ may_commit refl refl refl refl refl refl refl
    ▸ may_end refl refl (inl (no_more refl refl)) refl refl refl

-- A SELECT comes with 4 more: its lock, its Look, and what it reads.
abbrev select_started : List Entry
select_started = ended_create ++ Give 2 5 ∷ Start 2 levels.ReadCommitted ∷ []

abbrev select_locked : List Entry
select_locked = select_started ++ Lock 8 3 AccessShare ∷ []

abbrev select_looked : List Entry
select_looked = select_locked ++ Look 8 ∷ []

abbrev select_read : List Entry
select_read = select_looked ++ Read 8 (name_a ∷ []) [] ∷ []

select_weighs : weight (reverse select_read) ≡ 7
select_weighs = refl

select_started_fits : (n : ℕ) → nat_le 1 n ≡ true → nat_le 3 n ≡ true → IsLegal (limited n) select_started
select_started_fits n look make = create_fits n look make ▸ may_give (omega arith) refl refl refl refl tt ▸ may_start refl refl refl refl tt

-- a journal comes to its limit, and then ends with what weighs nothing
full_is_legal : IsLegal (limited 7) (select_read ++ Done 2 (replies.Rows 11) ∷ Commit 8 ∷ End 2 ∷ [])
full_is_legal =
    select_started_fits 7 refl refl
    ▸ may_lock refl refl refl refl refl refl refl refl tt tt
    ▸ may_look refl refl refl refl refl refl refl tt tt
    ▸ may_read refl (may_act refl refl refl refl refl) (refl, refl) refl tt tt
    ▸ may_be_done refl refl refl tt
    ▸ may_commit refl refl refl refl refl refl refl
    ▸ may_end refl refl (inl (no_more refl refl)) refl refl refl

-- what it reads would be too heavy: the SELECT is refused after its Look,
read_refused : IsLegal (limited 6) (select_looked ++ Refuse 2 (too_heavy 7) ∷ Abort 8 ∷ End 2 ∷ [])
read_refused =
    select_started_fits 6 refl refl
    ▸ may_lock refl refl refl refl refl refl refl refl tt tt
    ▸ may_look refl refl refl refl refl refl refl tt tt
    ▸ may_refuse refl refl refl tt
    ▸ may_abort refl refl (inl refl) refl refl
    ▸ may_end refl refl (inr refl) refl refl refl

-- its Look would be too heavy,
look_refused : IsLegal (limited 4) (select_locked ++ Refuse 2 (too_heavy 5) ∷ Abort 8 ∷ End 2 ∷ [])
look_refused =
    select_started_fits 4 refl refl
    ▸ may_lock refl refl refl refl refl refl refl refl tt tt
    ▸ may_refuse refl refl refl tt
    ▸ may_abort refl refl (inl refl) refl refl
    ▸ may_end refl refl (inr refl) refl refl refl

-- or its lock
lock_refused : IsLegal (limited 3) (select_started ++ Refuse 2 (too_heavy 4) ∷ Abort 8 ∷ End 2 ∷ [])
lock_refused =
    select_started_fits 3 refl refl
    ▸ may_refuse refl refl refl tt
    ▸ may_abort refl refl (inl refl) refl refl
    ▸ may_end refl refl (inr refl) refl refl refl

-- a table would be too heavy: CREATE TABLE is refused after its Look,
make_refused : IsLegal (limited 2) (looked_create ++ Refuse 0 (too_heavy 3) ∷ Abort 1 ∷ End 0 ∷ [])
make_refused =
    tt
    ▸ may_give (omega arith) refl refl refl refl tt
    ▸ may_start refl refl refl refl tt
    ▸ may_look refl refl refl refl refl refl refl tt tt
    ▸ may_refuse refl refl refl tt
    ▸ may_abort refl refl (inl refl) refl refl
    ▸ may_end refl refl (inr refl) refl refl refl

-- or before it
first_look_refused : IsLegal (limited 0) (Give 0 0 ∷ Start 0 levels.ReadCommitted ∷ Refuse 0 (too_heavy 1) ∷ Abort 1 ∷ End 0 ∷ [])
first_look_refused =
    tt
    ▸ may_give (omega arith) refl refl refl refl tt
    ▸ may_start refl refl refl refl tt
    ▸ may_refuse refl refl refl tt
    ▸ may_abort refl refl (inl refl) refl refl
    ▸ may_end refl refl (inr refl) refl refl refl

-- a row would be too heavy
abbrev insert_looked : List Entry
insert_looked = ended_create ++ Give 2 6 ∷ Start 2 levels.ReadCommitted ∷ Lock 8 3 RowExclusive ∷ Look 8 ∷ []

add_refused : IsLegal (limited 6) (insert_looked ++ Refuse 2 (too_heavy 7) ∷ Abort 8 ∷ End 2 ∷ [])
add_refused =
    create_fits 6 refl refl
    ▸ may_give (omega arith) refl refl refl refl tt
    ▸ may_start refl refl refl refl tt
    ▸ may_lock refl refl refl refl refl refl refl refl tt tt
    ▸ may_look refl refl refl refl refl refl refl tt tt
    ▸ may_refuse refl refl refl tt
    ▸ may_abort refl refl (inl refl) refl refl
    ▸ may_end refl refl (inr refl) refl refl refl

-- The rows that are there count for what is read:
abbrev row_looked : List Entry
row_looked = insert_looked ++ Add 8 3 (int 1 ∷ []) ∷ Done 2 (replies.Tag tags.Insert 1) ∷ Commit 8 ∷ End 2
    ∷ Give 2 5 ∷ Start 2 levels.ReadCommitted ∷ Lock 16 3 AccessShare ∷ Look 16 ∷ []

row_refused : IsLegal (limited 12) (row_looked ++ Refuse 2 (too_heavy 13) ∷ Abort 16 ∷ End 2 ∷ [])
row_refused =
    create_fits 12 refl refl
    ▸ may_give (omega arith) refl refl refl refl tt
    ▸ may_start refl refl refl refl tt
    ▸ may_lock refl refl refl refl refl refl refl refl tt tt
    ▸ may_look refl refl refl refl refl refl refl tt tt
    ▸ may_add refl (may_act refl refl refl refl refl) (refl, refl) refl tt tt
    ▸ may_be_done refl refl refl tt
    ▸ may_commit refl refl refl refl refl refl refl
    ▸ may_end refl refl (inl (no_more refl refl)) refl refl refl
    ▸ may_give (omega arith) refl refl refl refl tt
    ▸ may_start refl refl refl refl tt
    ▸ may_lock refl refl refl refl refl refl refl refl tt tt
    ▸ may_look refl refl refl refl refl refl refl tt tt
    ▸ may_refuse refl refl refl tt
    ▸ may_abort refl refl (inl refl) refl refl
    ▸ may_end refl refl (inr refl) refl refl refl

-- those that were there at the Look, though another has come since
abbrev row_since : List Entry
row_since = select_looked ++ Give 1 9 ∷ Start 1 levels.ReadCommitted ∷ Lock 12 3 RowExclusive ∷ Look 12 ∷ Add 12 3 (int 1 ∷ [])
    ∷ Done 1 (replies.Tag tags.Insert 1) ∷ Commit 12 ∷ End 1 ∷ []

read_as_at_look : IsLegal (limited 11) (row_since ++ Read 8 (name_a ∷ []) [] ∷ [])
read_as_at_look =
    select_started_fits 11 refl refl
    ▸ may_lock refl refl refl refl refl refl refl refl tt tt
    ▸ may_look refl refl refl refl refl refl refl tt tt
    ▸ may_give (omega arith) refl refl refl refl tt
    ▸ may_start refl refl refl refl tt
    ▸ may_lock refl refl refl refl refl refl refl refl tt tt
    ▸ may_look refl refl refl refl refl refl refl tt tt
    ▸ may_add refl (may_act refl refl refl refl refl) (refl, refl) refl tt tt
    ▸ may_be_done refl refl refl tt
    ▸ may_commit refl refl refl refl refl refl refl
    ▸ may_end refl refl (inl (no_more refl refl)) refl refl refl
    ▸ may_read refl (may_act refl refl refl refl refl) (refl, refl) refl tt tt

-- an ALTER TABLE would be too heavy
abbrev alter_looked : List Entry
alter_looked = ended_create ++ Give 2 7 ∷ Start 2 levels.ReadCommitted ∷ Lock 8 3 AccessExclusive ∷ Look 8 ∷ []

alter_refused : IsLegal (limited 5) (alter_looked ++ Refuse 2 (too_heavy 6) ∷ Abort 8 ∷ End 2 ∷ [])
alter_refused =
    create_fits 5 refl refl
    ▸ may_give (omega arith) refl refl refl refl tt
    ▸ may_start refl refl refl refl tt
    ▸ may_lock refl refl refl refl refl refl refl refl tt tt
    ▸ may_look refl refl refl refl refl refl refl tt refl
    ▸ may_refuse refl refl refl tt
    ▸ may_abort refl refl (inl refl) refl refl
    ▸ may_end refl refl (inr refl) refl refl refl

-- What is found of names comes first: a table that isn't there is told, though nothing may weigh anything,
no_table_first : IsLegal (limited 0) (Give 2 5 ∷ Start 2 levels.ReadCommitted ∷ Refuse 2 (causes.NoTable name_t) ∷ Abort 1 ∷ End 2 ∷ [])
no_table_first =
    tt
    ▸ may_give (omega arith) refl refl refl refl tt
    ▸ may_start refl refl refl refl tt
    ▸ may_refuse refl refl refl tt
    ▸ may_abort refl refl (inl refl) refl refl
    ▸ may_end refl refl (inr refl) refl refl refl

-- and so is a table that is there already
abbrev create_looked : List Entry
create_looked = ended_create ++ Give 2 8 ∷ Start 2 levels.ReadCommitted ∷ Look 8 ∷ []

name_first : IsLegal (limited 4) (create_looked ++ Refuse 2 (causes.TwiceTable name_t) ∷ Abort 8 ∷ End 2 ∷ [])
name_first =
    create_fits 4 refl refl
    ▸ may_give (omega arith) refl refl refl refl tt
    ▸ may_start refl refl refl refl tt
    ▸ may_look refl refl refl refl refl refl refl tt tt
    ▸ may_refuse refl refl refl tt
    ▸ may_abort refl refl (inl refl) refl refl
    ▸ may_end refl refl (inr refl) refl refl refl

-- ---- waits

-- Session 1 alters t in a block, so session 2, which reads it, has to wait with 2.
abbrev asked : List Entry
asked = ended_create
    ++ Give 1 1 ∷ Start 1 levels.ReadCommitted ∷ Done 1 (replies.Tag tags.Begin 0) ∷ End 1
    ∷ Give 1 2 ∷ Lock 8 3 AccessExclusive ∷ Look 8 ∷ Alter 8 3 0 [] ∷ Done 1 (replies.Tag tags.AlterTable 0) ∷ End 1
    ∷ Give 2 5 ∷ Start 2 levels.ReadCommitted ∷ []

abbrev waits : List Entry
waits = asked ++ Wait 18 (wants.Table 3 AccessShare) ∷ []

wait_comes_to : weight (reverse waits) ≡ 8
wait_comes_to = refl

asked_fits : (n : ℕ) → nat_le 1 n ≡ true → nat_le 3 n ≡ true → nat_le 4 n ≡ true → nat_le 5 n ≡ true → nat_le 6 n ≡ true → IsLegal (limited n) asked
asked_fits n first make lock look alter =
    create_fits n first make
    ▸ may_give (omega arith) refl refl refl refl tt
    ▸ may_start refl refl refl refl tt
    ▸ may_be_done refl refl refl tt
    ▸ may_end refl refl (inl (no_more refl refl)) refl refl refl
    ▸ may_give (omega arith) refl refl refl refl tt
    ▸ may_lock refl refl refl refl refl refl (rw lock refl) refl tt tt
    ▸ may_look refl refl refl refl refl (rw look refl) refl tt refl
    ▸ may_alter refl (may_act refl refl refl refl (rw alter refl)) (refl, λ c there. absurd c.demand) refl refl tt refl
    ▸ may_be_done refl refl refl tt
    ▸ may_end refl refl (inl (no_more refl refl)) refl refl refl
    ▸ may_give (omega arith) refl refl refl refl tt
    ▸ may_start refl refl refl refl tt

-- the wait would be too heavy, where a lock would not
wait_refused : IsLegal (limited 7) (asked ++ Refuse 2 (too_heavy 8) ∷ Abort 18 ∷ End 2 ∷ [])
wait_refused =
    asked_fits 7 refl refl refl refl refl
    ▸ may_refuse refl refl refl tt
    ▸ may_abort refl refl (inl refl) refl refl
    ▸ may_end refl refl (inr refl) refl refl refl

-- The wait fills the journal; then the COMMIT and the lock that was waited for weigh nothing,
abbrev granted : List Entry
granted = waits ++ Give 1 3 ∷ Commit 8 ∷ Lock 18 3 AccessShare ∷ Done 1 (replies.Tag tags.Commit 0) ∷ End 1 ∷ []

granted_is_legal : IsLegal (limited 8) granted
granted_is_legal =
    asked_fits 8 refl refl refl refl refl
    ▸ may_wait_for_lock refl refl refl refl refl refl refl refl tt
    ▸ may_give (omega arith) refl refl refl refl tt
    ▸ commits refl refl refl refl refl refl tt
    ▸ may_be_granted refl refl refl tt tt
    ▸ may_be_done refl refl refl refl
    ▸ may_end refl refl (inl (no_more refl refl)) refl refl refl

grant_adds_nothing : weight (reverse granted) ≡ 8
grant_adds_nothing = refl

-- and the Look that comes next is refused
refused_after_grant : IsLegal (limited 8) (granted ++ Refuse 2 (too_heavy 9) ∷ Abort 18 ∷ End 2 ∷ [])
refused_after_grant =
    granted_is_legal
    ▸ may_refuse refl refl refl tt
    ▸ may_abort refl refl (inl refl) refl refl
    ▸ may_end refl refl (inr refl) refl refl refl

-- who waits isn't refused for what comes after
none_while_blocked : (is_blocked (reverse waits) 2 ≡ true) × (cause_of (limited 8) (reverse waits) 2 ≡ None)
none_while_blocked = (refl, refl)

-- Session 1 makes t in a block, so session 2, which makes it too, has to wait with 2 after its Look.
abbrev taken : List Entry
taken = Give 1 1 ∷ Start 1 levels.ReadCommitted ∷ Done 1 (replies.Tag tags.Begin 0) ∷ End 1
    ∷ Give 1 4 ∷ Look 1 ∷ Make 1 6 name_t (column_a ∷ []) ∷ Done 1 (replies.Tag tags.CreateTable 0) ∷ End 1
    ∷ Give 2 8 ∷ Start 2 levels.ReadCommitted ∷ Look 10 ∷ []

taken_fits : (n : ℕ) → nat_le 1 n ≡ true → nat_le 3 n ≡ true → nat_le 4 n ≡ true → IsLegal (limited n) taken
taken_fits n first make look =
    tt
    ▸ may_give (omega arith) refl refl refl refl tt
    ▸ may_start refl refl refl refl tt
    ▸ may_be_done refl refl refl tt
    ▸ may_end refl refl (inl (no_more refl refl)) refl refl refl
    ▸ may_give (omega arith) refl refl refl refl tt
    ▸ may_look refl refl refl refl refl (rw first refl) refl tt tt
    ▸ may_make refl (may_act refl refl refl refl (rw make refl)) refl (refl, refl) refl refl tt
    ▸ may_be_done refl refl refl tt
    ▸ may_end refl refl (inl (no_more refl refl)) refl refl refl
    ▸ may_give (omega arith) refl refl refl refl tt
    ▸ may_start refl refl refl refl tt
    ▸ may_look refl refl refl refl refl (rw look refl) refl tt tt

waits_for_name : IsLegal (limited 6) (taken ++ Wait 10 (wants.Ends 1) ∷ [])
waits_for_name = taken_fits 6 refl refl refl ▸ may_wait_for_end refl refl refl refl refl refl refl refl tt

wait_for_name_refused : IsLegal (limited 5) (taken ++ Refuse 2 (too_heavy 6) ∷ Abort 10 ∷ End 2 ∷ [])
wait_for_name_refused =
    taken_fits 5 refl refl refl
    ▸ may_refuse refl refl refl tt
    ▸ may_abort refl refl (inl refl) refl refl
    ▸ may_end refl refl (inr refl) refl refl refl

-- ---- journals that aren't legal

-- the journal comes above its limit by a lock,
lock_above : IsLegal (limited 3) select_locked → ⊥
lock_above l = elim l.0.rule.asked [ inl waited ↦ false_true waited.waits | inr lacked ↦ some_none lacked.not_refused ]

-- a Look,
look_above : IsLegal (limited 4) select_looked → ⊥
look_above l = some_none l.0.rule.not_refused

first_look_above : IsLegal (limited 0) looked_create → ⊥
first_look_above l = some_none l.0.rule.not_refused

-- a table,
make_above : IsLegal (limited 2) acted_create → ⊥
make_above l = some_none l.0.rule.act.not_refused

-- a row,
add_above : IsLegal (limited 6) (insert_looked ++ Add 8 3 (int 1 ∷ []) ∷ []) → ⊥
add_above l = some_none l.0.rule.act.not_refused

-- what is read,
read_above : IsLegal (limited 6) select_read → ⊥
read_above l = some_none l.0.rule.act.not_refused

-- an ALTER TABLE,
alter_above : IsLegal (limited 5) (alter_looked ++ Alter 8 3 0 [] ∷ []) → ⊥
alter_above l = some_none l.0.rule.act.not_refused

-- a wait for a lock,
wait_above : IsLegal (limited 7) waits → ⊥
wait_above l = some_none l.0.rule.not_refused

-- or one for a name
wait_for_name_above : IsLegal (limited 5) (taken ++ Wait 10 (wants.Ends 1) ∷ []) → ⊥
wait_for_name_above l = some_none l.0.rule.not_refused

-- a statement is refused whose next entry would still fit:
read_refused_early : IsLegal (limited 7) (select_looked ++ Refuse 2 (too_heavy 7) ∷ []) → ⊥
read_refused_early l = none_some l.0.rule.first_true

lock_refused_early : IsLegal (limited 4) (select_started ++ Refuse 2 (too_heavy 4) ∷ []) → ⊥
lock_refused_early l = none_some l.0.rule.first_true

wait_refused_early : IsLegal (limited 8) (asked ++ Refuse 2 (too_heavy 8) ∷ []) → ⊥
wait_refused_early l = none_some l.0.rule.first_true

refused_as_now : IsLegal (limited 11) (row_since ++ Refuse 2 (too_heavy 13) ∷ []) → ⊥
refused_as_now l = none_some l.0.rule.first_true

-- while it waits,
refused_in_wait : IsLegal (limited 8) (waits ++ Refuse 2 (too_heavy 9) ∷ []) → ⊥
refused_in_wait l = none_some l.0.rule.first_true

-- once it has acted,
refused_after_act : IsLegal (limited 7) (select_read ++ Refuse 2 (too_heavy 8) ∷ []) → ⊥
refused_after_act l = none_some l.0.rule.first_true

-- or at its COMMIT, which weighs nothing
commit_refused : IsLegal (limited 8) (waits ++ Give 1 3 ∷ Refuse 1 (too_heavy 9) ∷ []) → ⊥
commit_refused l = none_some l.0.rule.first_true

-- the number that is told is too small,
told_less : IsLegal (limited 6) (select_looked ++ Refuse 2 (too_heavy 6) ∷ []) → ⊥
told_less l = differ 7 6 (ap count_told l.0.rule.first_true) refl

-- or too great
told_more : IsLegal (limited 6) (select_looked ++ Refuse 2 (too_heavy 8) ∷ []) → ⊥
told_more l = differ 7 8 (ap count_told l.0.rule.first_true) refl

-- a wait is told as a lock
told_as_lock : IsLegal (limited 7) (asked ++ Refuse 2 (too_heavy 7) ∷ []) → ⊥
told_as_lock l = differ 8 7 (ap count_told l.0.rule.first_true) refl

-- the limit is told where the table isn't there,
told_for_name : IsLegal (limited 0) (Give 2 5 ∷ Start 2 levels.ReadCommitted ∷ Refuse 2 (too_heavy 1) ∷ []) → ⊥
told_for_name l = differ 0 1 (ap count_told l.0.rule.first_true) refl

-- or where the name is there already
told_for_twice : IsLegal (limited 4) (create_looked ++ Refuse 2 (too_heavy 6) ∷ []) → ⊥
told_for_twice l = differ 0 6 (ap count_told l.0.rule.first_true) refl
