-- A new table whose name another's open transaction has made: the second CREATE TABLE waits for that transaction's end.
use Rattle.std.specs.Prelude.{◌≡◌, ℕ, List, [], ◌∷◌, ◌++◌, Option, Some, None, true, reverse, refl}
use Rattle.std.proofs.Common.{arith, ap, inl, inr}
use Rattle.al_modes.specs.declared.level.Level.TheVariants as levels
use Rattle.al_modes.specs.declared.mode.Mode.TheVariants.{AccessShare}
use Rattle.al_statements.specs.declared.reply.Tag.TheVariants as tags
use Rattle.al_statements.specs.declared.reply.Reply.TheVariants as replies
use Rattle.al_statements.specs.declared.cause.Cause.TheVariants as causes
use Rattle.al_history.specs.declared.entry.Want.TheVariants as wants
use Rattle.al_history.specs.declared.entry.Entry.{Entry}
use Rattle.al_history.specs.declared.entry.Entry.TheVariants.{Give, Start, Wait, Lock, Look, Make, Read, Done, Refuse, Commit, Abort, Cancel, End}
use Rattle.al_history.specs.declared.statement.Statement.{Statement}
use Rattle.al_history.specs.declared.statement.Statement.TheVariants as statements
use Rattle.al_history.specs.declared.statement.Terms.{Terms}
use Rattle.al_history.specs.Locks.{waiting}
use Rattle.al_history.specs.Waits.{is_blocked, can_go_on}
use Rattle.al_history.specs.Legal.{IsLegal}
use Rattle.al_history.proofs.Worked.Journals.{terms_of, name_t, name_a, name_b, column_a, create, alone}
use Rattle.al_history.proofs.Worked.Causes.{name_u}
use Rattle.al_history.proofs.Worked.Rules.{false_true, none_some, some_none, differ, ◌▸◌, commits, rolls_back, may_give, may_start, may_wait_for_end, may_look, may_act, may_make, may_be_done, may_refuse, may_commit, may_abort, may_cancel, may_end, no_more}

-- CREATE TABLE u (a integer), and the same with a column twice
abbrev create_u : Statement
create_u = statements.CreateTable name_u (name_a ∷ [])

abbrev create_twice : Statement
create_twice = statements.CreateTable name_u (name_b ∷ name_b ∷ [])

-- BEGIN, CREATE TABLE u, COMMIT and ROLLBACK in session 1; CREATE TABLE u, the one with a column twice, a SELECT of u, and
-- CREATE TABLE t in session 2
abbrev names : Terms
names = terms_of 3 (
    alone 1 statements.Begin
    ∷ alone 1 create_u
    ∷ alone 1 statements.Commit
    ∷ alone 1 statements.Rollback
    ∷ alone 2 create_u
    ∷ alone 2 create_twice
    ∷ alone 2 (statements.Select name_u)
    ∷ alone 2 create
    ∷ [])

-- Session 1 makes the table in a block.
abbrev taken : List Entry
taken = Give 1 0 ∷ Start 1 levels.ReadCommitted ∷ Done 1 (replies.Tag tags.Begin 0) ∷ End 1
    ∷ Give 1 1 ∷ Look 1 ∷ Make 1 6 name_u (column_a ∷ []) ∷ Done 1 (replies.Tag tags.CreateTable 0) ∷ End 1 ∷ []

taken_is_legal : IsLegal names taken
taken_is_legal =
    tt
    ▸ may_give (omega arith) refl refl refl refl tt
    ▸ may_start refl refl refl refl tt
    ▸ may_be_done refl refl refl tt
    ▸ may_end refl refl (inl (no_more refl refl)) refl refl refl
    ▸ may_give (omega arith) refl refl refl refl tt
    ▸ may_look refl refl refl refl refl refl refl tt tt
    ▸ may_make refl (may_act refl refl refl refl refl) refl (refl, refl) refl refl tt
    ▸ may_be_done refl refl refl tt
    ▸ may_end refl refl (inl (no_more refl refl)) refl refl refl

-- Session 2 wants to make it too, and waits after its Look.
abbrev looked : List Entry
looked = taken ++ Give 2 4 ∷ Start 2 levels.ReadCommitted ∷ Look 10 ∷ []

looked_is_legal : IsLegal names looked
looked_is_legal =
    taken_is_legal
    ▸ may_give (omega arith) refl refl refl refl tt
    ▸ may_start refl refl refl refl tt
    ▸ may_look refl refl refl refl refl refl refl tt tt

abbrev waits : List Entry
waits = looked ++ Wait 10 (wants.Ends 1) ∷ []

waits_is_legal : IsLegal names waits
waits_is_legal = looked_is_legal ▸ may_wait_for_end refl refl refl refl refl refl refl refl tt

-- it is blocked, though no request for a lock waits
blocked : is_blocked (reverse waits) 2 ≡ true
blocked = refl

no_request : waiting (reverse waits) ≡ []
no_request = refl

-- After COMMIT the name is there, and session 2 is refused,
abbrev committed : List Entry
committed = waits ++ Give 1 2 ∷ Commit 1 ∷ Done 1 (replies.Tag tags.Commit 0) ∷ End 1 ∷ []

committed_is_legal : IsLegal names committed
committed_is_legal =
    waits_is_legal
    ▸ may_give (omega arith) refl refl refl refl tt
    ▸ commits refl refl refl refl refl refl tt
    ▸ may_be_done refl refl refl refl
    ▸ may_end refl refl (inl (no_more refl refl)) refl refl refl

goes_on : can_go_on (reverse committed) 2 ≡ true
goes_on = refl

refused_after_commit : IsLegal names (committed ++ Refuse 2 (causes.TwiceTable name_u) ∷ Abort 10 ∷ End 2 ∷ [])
refused_after_commit =
    committed_is_legal
    ▸ may_refuse refl refl refl tt
    ▸ may_abort refl refl (inl refl) refl refl
    ▸ may_end refl refl (inr refl) refl refl refl

-- and after ROLLBACK it makes its table.
made_after_rollback : IsLegal names (waits ++ Give 1 3 ∷ Abort 1 ∷ Done 1 (replies.Tag tags.Rollback 0) ∷ End 1 ∷ Make 10 17 name_u (column_a ∷ []) ∷ Done 2 (replies.Tag tags.CreateTable 0) ∷ Commit 10 ∷ End 2 ∷ [])
made_after_rollback =
    waits_is_legal
    ▸ may_give (omega arith) refl refl refl refl tt
    ▸ rolls_back refl refl refl refl tt
    ▸ may_be_done refl refl refl refl
    ▸ may_end refl refl (inl (no_more refl refl)) refl refl refl
    ▸ may_make refl (may_act refl refl refl refl refl) refl (refl, refl) refl refl tt
    ▸ may_be_done refl refl refl tt
    ▸ may_commit refl refl refl refl refl refl refl
    ▸ may_end refl refl (inl (no_more refl refl)) refl refl refl

-- the step that waits is cancelled
cancelled_is_legal : IsLegal names (waits ++ Cancel 2 ∷ Refuse 2 (causes.Cancelled 13) ∷ Abort 10 ∷ End 2 ∷ [])
cancelled_is_legal =
    waits_is_legal
    ▸ may_cancel refl refl tt
    ▸ may_refuse refl refl refl refl
    ▸ may_abort refl refl (inl refl) refl refl
    ▸ may_end refl refl (inr refl) refl refl refl

-- a column that stands twice is told at once, without a wait
told_at_once : IsLegal names (taken ++ Give 2 5 ∷ Start 2 levels.ReadCommitted ∷ Look 10 ∷ Refuse 2 (causes.TwiceColumn name_b) ∷ [])
told_at_once =
    taken_is_legal
    ▸ may_give (omega arith) refl refl refl refl tt
    ▸ may_start refl refl refl refl tt
    ▸ may_look refl refl refl refl refl refl refl tt tt
    ▸ may_refuse refl refl refl tt

-- the table isn't there for session 2 before COMMIT
not_there : IsLegal names (taken ++ Give 2 6 ∷ Start 2 levels.ReadCommitted ∷ Refuse 2 (causes.NoTable name_u) ∷ [])
not_there = taken_is_legal ▸ may_give (omega arith) refl refl refl refl tt ▸ may_start refl refl refl refl tt ▸ may_refuse refl refl refl tt

-- a table of another name is made beside it
other_name : IsLegal names (taken ++ Give 2 7 ∷ Start 2 levels.ReadCommitted ∷ Look 10 ∷ Make 10 12 name_t (column_a ∷ []) ∷ [])
other_name =
    taken_is_legal
    ▸ may_give (omega arith) refl refl refl refl tt
    ▸ may_start refl refl refl refl tt
    ▸ may_look refl refl refl refl refl refl refl tt tt
    ▸ may_make refl (may_act refl refl refl refl refl) refl (refl, refl) refl refl tt

-- nobody waits for itself: where session 1 makes the table twice in its block, the second is refused at once
own_name : IsLegal names (taken ++ Give 1 1 ∷ Look 1 ∷ Refuse 1 (causes.TwiceTable name_u) ∷ Abort 1 ∷ End 1 ∷ [])
own_name =
    taken_is_legal
    ▸ may_give (omega arith) refl refl refl refl tt
    ▸ may_look refl refl refl refl refl refl refl tt tt
    ▸ may_refuse refl refl refl tt
    ▸ may_abort refl refl (inl refl) refl refl
    ▸ may_end refl refl (inr refl) refl refl refl

-- ---- what isn't legal

-- a table is made of a name that another's open transaction has made,
made_beside : IsLegal names (looked ++ Make 10 12 name_u (column_a ∷ []) ∷ []) → ⊥
made_beside l = some_none l.0.rule.free

-- also by one that waits for that transaction,
made_in_wait : IsLegal names (waits ++ Make 10 13 name_u (column_a ∷ []) ∷ []) → ⊥
made_in_wait l = some_none l.0.rule.free

-- and whatever stands between, before it ends
made_before_end : IsLegal names (waits ++ Give 1 2 ∷ Make 10 14 name_u (column_a ∷ []) ∷ Commit 1 ∷ []) → ⊥
made_before_end l = some_none l.1.0.rule.free

-- a name is refused while it isn't known yet whether it will be there
refused_too_early : IsLegal names (waits ++ Refuse 2 (causes.TwiceTable name_u) ∷ []) → ⊥
refused_too_early l = none_some l.0.rule.first_true

-- a statement waits before its Look
waits_before_look : IsLegal names (taken ++ Give 2 4 ∷ Start 2 levels.ReadCommitted ∷ Wait 10 (wants.Ends 1) ∷ []) → ⊥
waits_before_look l = false_true l.0.rule.waits_for.0

-- the number, 0 where there is none
abbrev number_of : Option ℕ → ℕ
number_of None = 0
number_of (Some number) = number

-- a transaction that isn't in the way is waited for
waits_for_other : IsLegal names (looked ++ Wait 10 (wants.Ends 10) ∷ []) → ⊥
waits_for_other l = differ 1 10 (ap number_of l.0.rule.waits_for.1) refl

-- or one that has ended
waits_for_ended : IsLegal names (committed ++ Wait 10 (wants.Ends 1) ∷ []) → ⊥
waits_for_ended l = none_some l.0.rule.waits_for.1

-- a blocked session waits twice
waits_twice : IsLegal names (waits ++ Wait 10 (wants.Ends 1) ∷ []) → ⊥
waits_twice l = false_true l.0.rule.in_step

-- a statement with a column twice waits in place of its refusal
waits_for_refusal : IsLegal names (taken ++ Give 2 5 ∷ Start 2 levels.ReadCommitted ∷ Look 10 ∷ Wait 10 (wants.Ends 1) ∷ []) → ⊥
waits_for_refusal l = some_none l.0.rule.not_refused

-- a SELECT looks for another's table before its COMMIT,
looks_for_uncommitted : IsLegal names (taken ++ Give 2 6 ∷ Start 2 levels.ReadCommitted ∷ Look 10 ∷ []) → ⊥
looks_for_uncommitted l = some_none l.0.rule.not_refused

-- locks it,
locks_uncommitted : IsLegal names (taken ++ Give 2 6 ∷ Start 2 levels.ReadCommitted ∷ Lock 10 6 AccessShare ∷ []) → ⊥
locks_uncommitted l = elim l.0.rule.asked [ inl waited ↦ false_true waited.waits | inr lacked ↦ none_some lacked.lacks ]

-- or reads it
reads_uncommitted : IsLegal names (taken ++ Give 2 6 ∷ Start 2 levels.ReadCommitted ∷ Look 10 ∷ Read 10 (name_a ∷ []) [] ∷ []) → ⊥
reads_uncommitted l = l.0.rule.selects

-- after COMMIT the name is there, and a table is made of it again
made_after_commit : IsLegal names (committed ++ Make 10 17 name_u (column_a ∷ []) ∷ []) → ⊥
made_after_commit l = some_none l.0.rule.act.not_refused
