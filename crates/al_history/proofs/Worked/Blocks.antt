-- Transaction blocks: BEGIN, COMMIT, ROLLBACK, and a block that has failed.
use Rattle.std.specs.Prelude.{◌≡◌, List, [], ◌∷◌, ◌++◌, refl, reverse}
use Rattle.std.proofs.Common.{inl, inr, arith}
use Rattle.al_modes.specs.declared.level.Level.TheVariants as levels
use Rattle.al_statements.specs.declared.reply.Tag.TheVariants as tags
use Rattle.al_statements.specs.declared.reply.Reply.TheVariants as replies
use Rattle.al_statements.specs.declared.cause.Cause.TheVariants as causes
use Rattle.al_history.specs.declared.entry.Entry.{Entry}
use Rattle.al_history.specs.declared.entry.Entry.TheVariants.{Give, Start, Look, Make, Done, Refuse, Commit, Abort, Cancel, End, Close}
use Rattle.al_history.specs.declared.statement.Statement.TheVariants as statements
use Rattle.al_history.specs.declared.statement.Terms.{Terms}
use Rattle.al_history.specs.View.{committed}
use Rattle.al_history.specs.Legal.{IsLegal}
use Rattle.al_history.proofs.Worked.Journals.{terms_of, name_t, name_a, column_a, insert, alone}
use Rattle.al_history.proofs.Worked.Rules.{◌▸◌, commits, rolls_back, may_give, may_start, may_look, may_act, may_make, may_be_done, may_refuse, may_abort, may_cancel, may_end, may_close, false_true, some_none, no_more}

-- blocks of session 1: BEGIN, CREATE TABLE t (a integer), COMMIT, ROLLBACK, and an INSERT of t
abbrev blocks : Terms
blocks = terms_of 2 (alone 1 statements.Begin ∷ alone 1 (statements.CreateTable name_t (name_a ∷ [])) ∷ alone 1 statements.Commit ∷ alone 1 statements.Rollback ∷ alone 1 insert ∷ [])

abbrev begun : List Entry
begun = Give 1 0 ∷ Start 1 levels.ReadCommitted ∷ Done 1 (replies.Tag tags.Begin 0) ∷ End 1 ∷ []

begun_is_legal : IsLegal blocks begun
begun_is_legal = tt ▸ may_give (omega arith) refl refl refl refl tt ▸ may_start refl refl refl refl tt ▸ may_be_done refl refl refl tt ▸ may_end refl refl (inl (no_more refl refl)) refl refl refl

abbrev made : List Entry
made = begun ++ Give 1 1 ∷ Look 1 ∷ Make 1 6 name_t (column_a ∷ []) ∷ Done 1 (replies.Tag tags.CreateTable 0) ∷ End 1 ∷ []

-- the transaction of a block stays open over its steps
made_is_legal : IsLegal blocks made
made_is_legal =
    begun_is_legal
    ▸ may_give (omega arith) refl refl refl refl tt
    ▸ may_look refl refl refl refl refl refl refl tt tt
    ▸ may_make refl (may_act refl refl refl refl refl) refl (refl, refl) refl refl tt
    ▸ may_be_done refl refl refl tt
    ▸ may_end refl refl (inl (no_more refl refl)) refl refl refl

-- nobody else sees the table yet
not_committed : committed blocks (reverse made) ≡ []
not_committed = refl

-- COMMIT: the Commit, and then its Done
committed_is_legal : IsLegal blocks (made ++ Give 1 2 ∷ Commit 1 ∷ Done 1 (replies.Tag tags.Commit 0) ∷ End 1 ∷ [])
committed_is_legal =
    made_is_legal
    ▸ may_give (omega arith) refl refl refl refl tt
    ▸ commits refl refl refl refl refl refl tt
    ▸ may_be_done refl refl refl refl
    ▸ may_end refl refl (inl (no_more refl refl)) refl refl refl

-- ROLLBACK, after which the table isn't there
abbrev rolled : List Entry
rolled = made ++ Give 1 3 ∷ Abort 1 ∷ Done 1 (replies.Tag tags.Rollback 0) ∷ End 1 ∷ []

rolled_back_is_legal : IsLegal blocks rolled
rolled_back_is_legal =
    made_is_legal
    ▸ may_give (omega arith) refl refl refl refl tt
    ▸ rolls_back refl refl refl refl tt
    ▸ may_be_done refl refl refl refl
    ▸ may_end refl refl (inl (no_more refl refl)) refl refl refl

gone : committed blocks (reverse rolled) ≡ []
gone = refl

-- a refusal fails the block, and frees its transaction at once
abbrev failed : List Entry
failed = begun ++ Give 1 4 ∷ Refuse 1 (causes.NoTable name_t) ∷ Abort 1 ∷ End 1 ∷ []

failed_is_legal : IsLegal blocks failed
failed_is_legal =
    begun_is_legal
    ▸ may_give (omega arith) refl refl refl refl tt
    ▸ may_refuse refl refl refl tt
    ▸ may_abort refl refl (inl refl) refl refl
    ▸ may_end refl refl (inr refl) refl refl refl

-- then every statement is refused but the two that end it, BEGIN among them
refused_in_failed_is_legal : IsLegal blocks (failed ++ Give 1 0 ∷ Refuse 1 (causes.BlockFailed 5) ∷ End 1 ∷ [])
refused_in_failed_is_legal =
    failed_is_legal
    ▸ may_give (omega arith) refl refl refl refl tt
    ▸ may_refuse refl refl refl tt
    ▸ may_end refl refl (inr refl) refl refl refl

-- and COMMIT rolls back
commit_of_failed_is_legal : IsLegal blocks (failed ++ Give 1 2 ∷ Done 1 (replies.Tag tags.Rollback 0) ∷ End 1 ∷ [])
commit_of_failed_is_legal = failed_is_legal ▸ may_give (omega arith) refl refl refl refl tt ▸ may_be_done refl refl refl tt ▸ may_end refl refl (inl (no_more refl refl)) refl refl refl

-- COMMIT where no transaction is open changes nothing
idle_commit_is_legal : IsLegal blocks (Give 1 2 ∷ Done 1 (replies.Tag tags.Commit 0) ∷ End 1 ∷ [])
idle_commit_is_legal = tt ▸ may_give (omega arith) refl refl refl refl tt ▸ may_be_done refl refl refl tt ▸ may_end refl refl (inl (no_more refl refl)) refl refl refl

-- a step in a block is cancelled: the block fails, and its transaction is aborted
cancelled_in_block_is_legal : IsLegal blocks (begun ++ Give 1 4 ∷ Cancel 1 ∷ Refuse 1 (causes.Cancelled 5) ∷ Abort 1 ∷ End 1 ∷ Give 1 4 ∷ Refuse 1 (causes.BlockFailed 6) ∷ [])
cancelled_in_block_is_legal =
    begun_is_legal
    ▸ may_give (omega arith) refl refl refl refl tt
    ▸ may_cancel refl refl tt
    ▸ may_refuse refl refl refl refl
    ▸ may_abort refl refl (inl refl) refl refl
    ▸ may_end refl refl (inr refl) refl refl refl
    ▸ may_give (omega arith) refl refl refl refl tt
    ▸ may_refuse refl refl refl tt

-- a session with an open block is closed: its transaction is aborted first
closed_in_block_is_legal : IsLegal blocks (begun ++ Abort 1 ∷ Close 1 ∷ [])
closed_in_block_is_legal = begun_is_legal ▸ may_abort refl refl (inr refl) refl tt ▸ may_close (omega arith) refl refl refl refl refl

-- ---- what isn't legal

-- the block's transaction commits with its first step
commits_with_step : IsLegal blocks (Give 1 0 ∷ Start 1 levels.ReadCommitted ∷ Done 1 (replies.Tag tags.Begin 0) ∷ Commit 1 ∷ []) → ⊥
commits_with_step l = cc l.0.follows

-- a failed block goes on
goes_on_after_failure : IsLegal blocks (failed ++ Give 1 1 ∷ Start 1 levels.ReadCommitted ∷ []) → ⊥
goes_on_after_failure l = cc l.0.rule.statement

-- COMMIT of a failed block says that it committed
commit_of_failed_says_commit : IsLegal blocks (failed ++ Give 1 2 ∷ Done 1 (replies.Tag tags.Commit 0) ∷ []) → ⊥
commit_of_failed_says_commit l = cc l.0.rule.answers

-- COMMIT is done and the transaction stays open
commit_without_commit : IsLegal blocks (begun ++ Give 1 2 ∷ Done 1 (replies.Tag tags.Commit 0) ∷ []) → ⊥
commit_without_commit l = l.0.rule.answers

-- ROLLBACK commits
rollback_commits : IsLegal blocks (begun ++ Give 1 3 ∷ Commit 1 ∷ []) → ⊥
rollback_commits l = elim l.0.rule.ends [ inl last ↦ cc last.0 | inr commit ↦ cc commit ]

-- COMMIT aborts
commit_aborts : IsLegal blocks (begun ++ Give 1 2 ∷ Abort 1 ∷ []) → ⊥
commit_aborts l = elim l.0.rule.refused_or_idle [ inl was ↦ elim was [ inl refused ↦ cc refused | inr idle ↦ cc idle ] | inr rollback ↦ cc rollback ]

-- a session with an open block is closed as it is
close_in_block : IsLegal blocks (begun ++ Close 1 ∷ []) → ⊥
close_in_block l = some_none l.0.rule.none_open

-- the open transaction of a closed session commits
close_commits : IsLegal blocks (begun ++ Commit 1 ∷ []) → ⊥
close_commits l = false_true l.0.rule.in_step
