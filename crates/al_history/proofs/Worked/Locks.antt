-- Locks of tables, and statements that wait for one: legal journals.
use Rattle.std.specs.Prelude.{◌≡◌, ℕ, List, [], ◌∷◌, ◌++◌, true, false, None, Some, reverse, refl, Ok}
use Rattle.std.proofs.Common.{arith, inl, inr}
use Rattle.al_modes.specs.declared.level.Level.TheVariants as levels
use Rattle.al_modes.specs.declared.mode.Mode.{Mode}
use Rattle.al_modes.specs.declared.mode.Mode.TheVariants.{AccessShare, RowExclusive, AccessExclusive}
use Rattle.al_statements.specs.declared.reply.Tag.TheVariants as tags
use Rattle.al_statements.specs.declared.reply.Reply.TheVariants as replies
use Rattle.al_statements.specs.declared.cause.Cause.TheVariants as causes
use Rattle.al_history.specs.declared.entry.Want.TheVariants as wants
use Rattle.al_history.specs.declared.entry.Entry.{Entry}
use Rattle.al_history.specs.declared.entry.Entry.TheVariants.{Give, Start, Wait, Lock, Look, Make, Add, Read, Alter, Done, Refuse, Commit, Abort, Cancel, End}
use Rattle.al_history.specs.declared.statement.Statement.{Statement}
use Rattle.al_history.specs.declared.statement.Statement.TheVariants as statements
use Rattle.al_history.specs.declared.statement.Terms.{Terms}
use Rattle.al_history.specs.Locks.{Claim, held, waiting}
use Rattle.al_history.specs.Waits.{is_blocked, can_go_on}
use Rattle.al_history.specs.Alone.{sole_user}
use Rattle.al_history.specs.Legal.{IsLegal}
use Rattle.al_history.proofs.Worked.Journals.{terms_of, name_t, name_a, name_b, int, column_a, column_b, create, insert, add_column, select, alone}
use Rattle.al_history.proofs.Worked.Causes.{name_u}
use Rattle.al_history.proofs.Worked.Rules.{◌▸◌, commits, rolls_back, may_give, may_start, may_wait_for_lock, may_lock, may_be_granted, may_look, may_act, may_make, may_add, may_read, may_alter, may_be_done, may_refuse, may_commit, may_abort, may_cancel, may_end, no_more}

-- CREATE TABLE u (a integer), ALTER TABLE u ADD COLUMN b integer DEFAULT 5, SELECT * FROM u
abbrev pub create_u : Statement
create_u = statements.CreateTable name_u (name_a ∷ [])

abbrev pub add_column_u : Statement
add_column_u = statements.AddColumn name_u column_b

abbrev pub select_u : Statement
select_u = statements.Select name_u

-- Four sessions. Block 0 makes t and u, and a row of t. Blocks 1 to 4 are BEGIN, COMMIT, ROLLBACK and an ALTER TABLE of t in
-- session 1; blocks 5 and 6 read t in sessions 2 and 3. The last alters u and then reads t.
abbrev pub locks : Terms
locks = terms_of 4 (
    record { session = 0; script = Ok (create ∷ create_u ∷ insert ∷ []) }
    ∷ alone 1 statements.Begin
    ∷ alone 1 statements.Commit
    ∷ alone 1 statements.Rollback
    ∷ alone 1 add_column
    ∷ alone 2 select
    ∷ alone 3 select
    ∷ alone 1 add_column_u
    ∷ alone 2 select_u
    ∷ alone 1 insert
    ∷ alone 2 insert
    ∷ alone 1 select
    ∷ alone 2 add_column
    ∷ record { session = 2; script = Ok (add_column_u ∷ select ∷ []) }
    ∷ [])

-- a lock of a session, or its request for one
abbrev pub of : ℕ → ℕ → Mode → Claim
of s table mode = record { session = s; table = table; mode = mode }

-- The tables are made, whose numbers are 3 and 6, and session 1 begins a block:
abbrev pub begun : List Entry
begun = Give 0 0 ∷ Start 0 levels.ReadCommitted
    ∷ Look 1 ∷ Make 1 3 name_t (column_a ∷ []) ∷ Done 0 (replies.Tag tags.CreateTable 0)
    ∷ Look 1 ∷ Make 1 6 name_u (column_a ∷ []) ∷ Done 0 (replies.Tag tags.CreateTable 0)
    ∷ Lock 1 3 RowExclusive ∷ Look 1 ∷ Add 1 3 (int 1 ∷ []) ∷ Done 0 (replies.Tag tags.Insert 1)
    ∷ Commit 1 ∷ End 0
    ∷ Give 1 1 ∷ Start 1 levels.ReadCommitted ∷ Done 1 (replies.Tag tags.Begin 0) ∷ End 1 ∷ []

pub begun_is_legal : IsLegal locks begun
begun_is_legal =
    tt
    ▸ may_give (omega arith) refl refl refl refl tt
    ▸ may_start refl refl refl refl tt
    ▸ may_look refl refl refl refl refl refl refl tt tt
    ▸ may_make refl (may_act refl refl refl refl refl) refl (refl, refl) refl refl tt
    ▸ may_be_done refl refl refl tt
    ▸ may_look refl refl refl refl refl refl refl tt tt
    ▸ may_make refl (may_act refl refl refl refl refl) refl (refl, refl) refl refl tt
    ▸ may_be_done refl refl refl tt
    ▸ may_lock refl refl refl refl refl refl refl refl tt tt
    ▸ may_look refl refl refl refl refl refl refl tt tt
    ▸ may_add refl (may_act refl refl refl refl refl) (refl, refl) refl tt tt
    ▸ may_be_done refl refl refl tt
    ▸ may_commit refl refl refl refl refl refl refl
    ▸ may_end refl refl (inl (no_more refl refl)) refl refl refl
    ▸ may_give (omega arith) refl refl refl refl tt
    ▸ may_start refl refl refl refl tt
    ▸ may_be_done refl refl refl tt
    ▸ may_end refl refl (inl (no_more refl refl)) refl refl refl

-- it adds a column to t,
abbrev pub altered : List Entry
altered = begun ++ Give 1 4 ∷ Lock 15 3 AccessExclusive ∷ Look 15 ∷ Alter 15 3 0 [] ∷ Done 1 (replies.Tag tags.AlterTable 0) ∷ End 1 ∷ []

pub altered_is_legal : IsLegal locks altered
altered_is_legal =
    begun_is_legal
    ▸ may_give (omega arith) refl refl refl refl tt
    ▸ may_lock refl refl refl refl refl refl refl refl tt tt
    ▸ may_look refl refl refl refl refl refl refl tt refl
    ▸ may_alter refl (may_act refl refl refl refl refl) (refl, λ c there. absurd c.demand) refl refl tt refl
    ▸ may_be_done refl refl refl tt
    ▸ may_end refl refl (inl (no_more refl refl)) refl refl refl

-- and keeps its lock until the block ends, so session 2, which reads t, waits.
abbrev pub asked : List Entry
asked = altered ++ Give 2 5 ∷ Start 2 levels.ReadCommitted ∷ []

pub asked_is_legal : IsLegal locks asked
asked_is_legal = altered_is_legal ▸ may_give (omega arith) refl refl refl refl tt ▸ may_start refl refl refl refl tt

abbrev pub waits : List Entry
waits = asked ++ Wait 25 (wants.Table 3 AccessShare) ∷ []

pub waits_is_legal : IsLegal locks waits
waits_is_legal = asked_is_legal ▸ may_wait_for_lock refl refl refl refl refl refl refl refl tt

-- session 1 holds its lock, and has t alone
alter_holds : held (reverse waits) ≡ of 1 3 AccessExclusive ∷ []
alter_holds = refl

alter_is_alone : sole_user (reverse waits) 3 ≡ Some 1
alter_is_alone = refl

-- nobody has u alone
none_alone : sole_user (reverse waits) 6 ≡ None
none_alone = refl

-- the request of session 2 waits
reader_waits : waiting (reverse waits) ≡ of 2 3 AccessShare ∷ []
reader_waits = refl

-- it is blocked from its Wait on,
not_blocked_before : is_blocked (reverse asked) 2 ≡ false
not_blocked_before = refl

blocked : is_blocked (reverse waits) 2 ≡ true
blocked = refl

-- so it can't go on, though it has a step in hand
goes_on_before : can_go_on (reverse asked) 2 ≡ true
goes_on_before = refl

stands_still : can_go_on (reverse waits) 2 ≡ false
stands_still = refl

-- COMMIT frees the lock, and the request is granted right after the Commit.
abbrev pub freed : List Entry
freed = waits ++ Give 1 2 ∷ Commit 15 ∷ []

pub freed_is_legal : IsLegal locks freed
freed_is_legal = waits_is_legal ▸ may_give (omega arith) refl refl refl refl tt ▸ commits refl refl refl refl refl refl tt

-- nobody holds a lock then,
none_held : held (reverse freed) ≡ []
none_held = refl

-- and nobody holds session 2 up
let_go : is_blocked (reverse freed) 2 ≡ false
let_go = refl

abbrev pub granted : List Entry
granted = freed ++ Lock 25 3 AccessShare ∷ Done 1 (replies.Tag tags.Commit 0) ∷ End 1 ∷ []

pub granted_is_legal : IsLegal locks granted
granted_is_legal = freed_is_legal ▸ may_be_granted refl refl refl tt tt ▸ may_be_done refl refl refl refl ▸ may_end refl refl (inl (no_more refl refl)) refl refl refl

-- the request has become a lock
now_held : held (reverse granted) ≡ of 2 3 AccessShare ∷ []
now_held = refl

none_waits : waiting (reverse granted) ≡ []
none_waits = refl

-- session 2 goes on, and reads the new column
reads_after_commit : IsLegal locks (granted ++ Look 25 ∷ Read 25 (name_a ∷ name_b ∷ []) ((int 1 ∷ int 5 ∷ []) ∷ []) ∷ Done 2 (replies.Rows 33) ∷ Commit 25 ∷ End 2 ∷ [])
reads_after_commit =
    granted_is_legal
    ▸ may_look refl refl refl refl refl refl refl tt tt
    ▸ may_read refl (may_act refl refl refl refl refl) (refl, refl) refl tt tt
    ▸ may_be_done refl refl refl tt
    ▸ may_commit refl refl refl refl refl refl refl
    ▸ may_end refl refl (inl (no_more refl refl)) refl refl refl

-- after ROLLBACK it reads t as it was
reads_after_rollback : IsLegal locks (waits ++ Give 1 3 ∷ Abort 15 ∷ Lock 25 3 AccessShare ∷ Done 1 (replies.Tag tags.Rollback 0) ∷ End 1 ∷ Look 25 ∷ Read 25 (name_a ∷ []) ((int 1 ∷ []) ∷ []) ∷ Done 2 (replies.Rows 33) ∷ Commit 25 ∷ End 2 ∷ [])
reads_after_rollback =
    waits_is_legal
    ▸ may_give (omega arith) refl refl refl refl tt
    ▸ rolls_back refl refl refl refl tt
    ▸ may_be_granted refl refl refl tt tt
    ▸ may_be_done refl refl refl refl
    ▸ may_end refl refl (inl (no_more refl refl)) refl refl refl
    ▸ may_look refl refl refl refl refl refl refl tt tt
    ▸ may_read refl (may_act refl refl refl refl refl) (refl, refl) refl tt tt
    ▸ may_be_done refl refl refl tt
    ▸ may_commit refl refl refl refl refl refl refl
    ▸ may_end refl refl (inl (no_more refl refl)) refl refl refl

-- The step that waits is cancelled: it is refused, and its request leaves.
abbrev cancelled : List Entry
cancelled = waits ++ Cancel 2 ∷ Refuse 2 (causes.Cancelled 27) ∷ Abort 25 ∷ End 2 ∷ []

cancelled_is_legal : IsLegal locks cancelled
cancelled_is_legal =
    waits_is_legal
    ▸ may_cancel refl refl tt
    ▸ may_refuse refl refl refl refl
    ▸ may_abort refl refl (inl refl) refl refl
    ▸ may_end refl refl (inr refl) refl refl refl

request_left : waiting (reverse cancelled) ≡ []
request_left = refl
