-- Journals with locks that aren't legal.
use Rattle.std.specs.Prelude.{ℕ, List, [], ◌∷◌, ◌++◌, ◌≤◌, Option, Some, None, refl}
use Rattle.std.proofs.Common.{arith, ap, inl, inr}
use Rattle.al_modes.specs.declared.level.Level.TheVariants as levels
use Rattle.al_modes.specs.declared.mode.Mode.TheVariants.{AccessShare, RowExclusive, AccessExclusive}
use Rattle.al_statements.specs.declared.reply.Tag.TheVariants as tags
use Rattle.al_statements.specs.declared.reply.Reply.TheVariants as replies
use Rattle.al_statements.specs.declared.cause.Cause.TheVariants as causes
use Rattle.al_history.specs.declared.entry.Want.TheVariants as wants
use Rattle.al_history.specs.declared.entry.Entry.{Entry}
use Rattle.al_history.specs.declared.entry.Entry.TheVariants.{Give, Start, Wait, Lock, Look, Add, Read, Alter, Done, Refuse, Commit, Abort, Cancel, End}
use Rattle.al_modes.specs.Conflicts.{strictness}
use Rattle.al_history.specs.Locks.{Claim}
use Rattle.al_history.specs.Legal.{IsLegal}
use Rattle.al_history.proofs.Worked.Journals.{name_t, name_a, int}
use Rattle.al_history.proofs.Worked.Locks.{locks, begun, altered, asked, waits, freed, granted}
use Rattle.al_history.proofs.Worked.Queues.{two_freed, reader_asks, queue}
use Rattle.al_history.proofs.Worked.Rules.{false_true, true_false, none_some, some_none, differ}

six_above_three : 6 ≤ 3 → ⊥
six_above_three le = omega arith

-- A lock is got that can't be granted.

-- against one that another holds
lock_against_holder : IsLegal locks (asked ++ Lock 25 3 AccessShare ∷ []) → ⊥
lock_against_holder l = false_true l.0.rule.can_be

-- also by a request that has waited
granted_too_early : IsLegal locks (waits ++ Lock 25 3 AccessShare ∷ []) → ⊥
granted_too_early l = false_true l.0.rule.can_be

-- ahead of a request that waits, though no lock that is held is in the way
lock_jumps_queue : IsLegal locks (reader_asks ++ Lock 28 3 AccessShare ∷ []) → ⊥
lock_jumps_queue l = false_true l.0.rule.can_be

-- the same by a request that waits itself
granted_out_of_order : IsLegal locks (queue ++ Give 1 2 ∷ Commit 15 ∷ Lock 28 3 AccessShare ∷ []) → ⊥
granted_out_of_order l = false_true l.0.rule.can_be

-- of two requests that one COMMIT frees, that for the table of the greater number is granted first
granted_descending : IsLegal locks (two_freed ++ Lock 31 6 AccessShare ∷ Lock 34 3 AccessShare ∷ []) → ⊥
granted_descending l = elim l.0.rule.asked [ inl waited ↦ six_above_three waited.ascends | inr lacked ↦ true_false lacked.not_waiting ]

-- the strictness of a lock that is lacking, and its table
abbrev strictness_of : Option Claim → ℕ
strictness_of None = 0
strictness_of (Some c) = strictness c.mode

abbrev table_of : Option Claim → ℕ
table_of None = 0
table_of (Some c) = c.table

-- A lock is got that isn't asked for.

-- a SELECT gets the lock of an INSERT
lock_too_strong : IsLegal locks (begun ++ Give 2 5 ∷ Start 2 levels.ReadCommitted ∷ Lock 19 3 RowExclusive ∷ []) → ⊥
lock_too_strong l = elim l.0.rule.asked [ inl waited ↦ false_true waited.waits | inr lacked ↦ differ 1 3 (ap strictness_of lacked.lacks) refl ]

-- an INSERT gets the lock of a SELECT
lock_too_weak : IsLegal locks (begun ++ Give 2 10 ∷ Start 2 levels.ReadCommitted ∷ Lock 19 3 AccessShare ∷ []) → ⊥
lock_too_weak l = elim l.0.rule.asked [ inl waited ↦ false_true waited.waits | inr lacked ↦ differ 3 1 (ap strictness_of lacked.lacks) refl ]

-- of another table
lock_elsewhere : IsLegal locks (begun ++ Give 2 5 ∷ Start 2 levels.ReadCommitted ∷ Lock 19 6 AccessShare ∷ []) → ⊥
lock_elsewhere l = elim l.0.rule.asked [ inl waited ↦ false_true waited.waits | inr lacked ↦ differ 3 6 (ap table_of lacked.lacks) refl ]

-- twice
lock_doubled : IsLegal locks (begun ++ Give 2 5 ∷ Start 2 levels.ReadCommitted ∷ Lock 19 3 AccessShare ∷ Lock 19 3 AccessShare ∷ []) → ⊥
lock_doubled l = elim l.0.rule.asked [ inl waited ↦ false_true waited.waits | inr lacked ↦ none_some lacked.lacks ]

-- before a transaction begins
lock_before_start : IsLegal locks (begun ++ Give 2 5 ∷ Lock 19 3 AccessShare ∷ []) → ⊥
lock_before_start l = none_some l.0.rule.open_xact

-- A lock is lacking.

-- a statement looks without its lock,
lock_dropped : IsLegal locks (begun ++ Give 2 5 ∷ Start 2 levels.ReadCommitted ∷ Look 19 ∷ []) → ⊥
lock_dropped l = some_none l.0.rule.locked

-- or with a weaker one that it holds already
lock_of_select_for_insert : IsLegal locks (begun ++ Give 1 11 ∷ Lock 15 3 AccessShare ∷ Look 15 ∷ Read 15 (name_a ∷ []) ((int 1 ∷ []) ∷ []) ∷ Done 1 (replies.Rows 21) ∷ End 1 ∷ Give 1 9 ∷ Look 15 ∷ []) → ⊥
lock_of_select_for_insert l = some_none l.0.rule.locked

-- or while it waits for it
looks_in_wait : IsLegal locks (waits ++ Look 25 ∷ []) → ⊥
looks_in_wait l = some_none l.0.rule.locked

-- A table is used that another has alone: it is locked,
alone_locked : IsLegal locks (asked ++ Lock 25 3 AccessShare ∷ []) → ⊥
alone_locked l = differ 2 1 l.0.alone refl

-- looked at,
alone_looked : IsLegal locks (asked ++ Look 25 ∷ []) → ⊥
alone_looked l = differ 2 1 (l.0.alone 3 refl) refl

-- gets a row,
abbrev row_asked : List Entry
row_asked = altered ++ Give 2 10 ∷ Start 2 levels.ReadCommitted ∷ []

alone_added : IsLegal locks (row_asked ++ Lock 25 3 RowExclusive ∷ Look 25 ∷ Add 25 3 (int 1 ∷ []) ∷ []) → ⊥
alone_added l = differ 2 1 l.0.alone refl

-- is read,
alone_read : IsLegal locks (asked ++ Lock 25 3 AccessShare ∷ Look 25 ∷ Read 25 (name_a ∷ []) ((int 1 ∷ []) ∷ []) ∷ []) → ⊥
alone_read l = differ 2 1 (l.0.alone 3 refl) refl

-- or altered
alone_altered : IsLegal locks (altered ++ Give 2 12 ∷ Start 2 levels.ReadCommitted ∷ Lock 25 3 AccessExclusive ∷ Look 25 ∷ Alter 25 3 0 [] ∷ []) → ⊥
alone_altered l = differ 2 1 (l.0.alone 3 refl) refl

-- a row is added before the ALTER TABLE of another is committed, without its lock,
row_before_commit : IsLegal locks (row_asked ++ Look 25 ∷ Add 25 3 (int 1 ∷ []) ∷ []) → ⊥
row_before_commit l = some_none l.0.rule.act.locked

-- or with it
row_before_commit_locked : IsLegal locks (row_asked ++ Lock 25 3 RowExclusive ∷ Look 25 ∷ Add 25 3 (int 1 ∷ []) ∷ []) → ⊥
row_before_commit_locked l = false_true l.1.1.0.rule.can_be

-- A waiting request can be granted, and another entry comes first:

-- the Done of the COMMIT,
done_before_grant : IsLegal locks (freed ++ Done 1 (replies.Tag tags.Commit 0) ∷ []) → ⊥
done_before_grant l = false_true l.0.settled

-- a Give,
given_before_grant : IsLegal locks (freed ++ Give 3 6 ∷ []) → ⊥
given_before_grant l = false_true l.0.settled

-- or the cancel of the step that waits
cancelled_before_grant : IsLegal locks (freed ++ Cancel 2 ∷ []) → ⊥
cancelled_before_grant l = false_true l.0.settled

-- one of two requests is left out
one_grant_dropped : IsLegal locks (two_freed ++ Lock 34 3 AccessShare ∷ Done 1 (replies.Tag tags.Commit 0) ∷ []) → ⊥
one_grant_dropped l = false_true l.0.settled

-- A session waits that needn't, or can't.

-- for a lock that can be granted
waits_for_free : IsLegal locks (begun ++ Give 2 5 ∷ Start 2 levels.ReadCommitted ∷ Wait 19 (wants.Table 3 AccessShare) ∷ []) → ⊥
waits_for_free l = true_false l.0.rule.waits_for.2

-- for a lock that it doesn't lack
waits_for_other : IsLegal locks (asked ++ Wait 25 (wants.Table 3 RowExclusive) ∷ []) → ⊥
waits_for_other l = differ 1 3 (ap strictness_of l.0.rule.waits_for.1) refl

-- for the end of a transaction that holds its table
waits_for_holder : IsLegal locks (asked ++ Wait 25 (wants.Ends 15) ∷ []) → ⊥
waits_for_holder l = false_true l.0.rule.waits_for.0

-- twice
waits_twice : IsLegal locks (waits ++ Wait 25 (wants.Table 3 AccessShare) ∷ []) → ⊥
waits_twice l = false_true l.0.rule.in_step

-- A session that waits is given another block,
give_to_waiter : IsLegal locks (waits ++ Give 2 8 ∷ []) → ⊥
give_to_waiter l = some_none l.0.rule.idle

-- is refused for nothing,
refused_in_wait : IsLegal locks (waits ++ Refuse 2 (causes.NoTable name_t) ∷ []) → ⊥
refused_in_wait l = none_some l.0.rule.first_true

-- or ends its step
ended_in_wait : IsLegal locks (waits ++ End 2 ∷ []) → ⊥
ended_in_wait l = elim l.0.rule.over [ inl last ↦ some_none last.none_left | inr was_refused ↦ false_true was_refused ]

-- A step that waited goes on after its cancel
granted_after_cancel : IsLegal locks (waits ++ Cancel 2 ∷ Refuse 2 (causes.Cancelled 27) ∷ Abort 25 ∷ End 2 ∷ Give 1 2 ∷ Commit 15 ∷ Lock 25 3 AccessShare ∷ []) → ⊥
granted_after_cancel l = none_some l.0.rule.open_xact

-- a lock is got once its statement has looked
lock_after_look : IsLegal locks (granted ++ Look 25 ∷ Lock 25 3 AccessShare ∷ []) → ⊥
lock_after_look l = elim l.0.rule.asked [ inl waited ↦ false_true waited.waits | inr lacked ↦ some_none lacked.before_look ]
