-- Several requests that wait, locks beside each other, and names that are waited for: legal journals.
use Rattle.std.specs.Prelude.{◌≡◌, List, [], ◌∷◌, ◌++◌, true, false, reverse, refl}
use Rattle.std.proofs.Common.{arith, inl, inr}
use Rattle.al_modes.specs.declared.level.Level.TheVariants as levels
use Rattle.al_modes.specs.declared.mode.Mode.TheVariants.{AccessShare, RowExclusive, AccessExclusive}
use Rattle.al_statements.specs.declared.reply.Tag.TheVariants as tags
use Rattle.al_statements.specs.declared.reply.Reply.TheVariants as replies
use Rattle.al_statements.specs.declared.cause.Cause.TheVariants as causes
use Rattle.al_history.specs.declared.entry.Want.TheVariants as wants
use Rattle.al_history.specs.declared.entry.Entry.{Entry}
use Rattle.al_history.specs.declared.entry.Entry.TheVariants.{Give, Start, Wait, Lock, Look, Add, Read, Alter, Done, Refuse, Commit, Abort, Cancel, End}
use Rattle.al_history.specs.Locks.{held, waiting, is_settled}
use Rattle.al_history.specs.Waits.{is_blocked, can_go_on}
use Rattle.al_history.specs.Made.{IsOf, Extends}
use Rattle.al_history.specs.Legal.{IsLegal}
use Rattle.al_history.proofs.Worked.Journals.{name_a, int}
use Rattle.al_history.proofs.Worked.Locks.{locks, of, begun, begun_is_legal, altered, altered_is_legal}
use Rattle.al_history.proofs.Worked.Rules.{◌▸◌, commits, may_give, may_start, may_wait_for_lock, may_lock, may_be_granted, may_look, may_act, may_add, may_read, may_alter, may_be_done, may_refuse, may_commit, may_abort, may_cancel, may_end, false_true, differ, no_more}

-- Session 1 has altered t and alters u too. Session 2 waits for u, and then session 3 for t.
abbrev pub two_wait : List Entry
two_wait = altered
    ++ Give 1 7 ∷ Lock 15 6 AccessExclusive ∷ Look 15 ∷ Alter 15 6 0 [] ∷ Done 1 (replies.Tag tags.AlterTable 0) ∷ End 1
    ∷ Give 2 8 ∷ Start 2 levels.ReadCommitted ∷ Wait 31 (wants.Table 6 AccessShare)
    ∷ Give 3 6 ∷ Start 3 levels.ReadCommitted ∷ Wait 34 (wants.Table 3 AccessShare) ∷ []

abbrev pub two_freed : List Entry
two_freed = two_wait ++ Give 1 2 ∷ Commit 15 ∷ []

pub two_freed_is_legal : IsLegal locks two_freed
two_freed_is_legal =
    altered_is_legal
    ▸ may_give (omega arith) refl refl refl refl tt
    ▸ may_lock refl refl refl refl refl refl refl refl tt tt
    ▸ may_look refl refl refl refl refl refl refl tt refl
    ▸ may_alter refl (may_act refl refl refl refl refl) (refl, λ c there. absurd c.demand) refl refl tt refl
    ▸ may_be_done refl refl refl tt
    ▸ may_end refl refl (inl (no_more refl refl)) refl refl refl
    ▸ may_give (omega arith) refl refl refl refl tt
    ▸ may_start refl refl refl refl tt
    ▸ may_wait_for_lock refl refl refl refl refl refl refl refl tt
    ▸ may_give (omega arith) refl refl refl refl tt
    ▸ may_start refl refl refl refl tt
    ▸ may_wait_for_lock refl refl refl refl refl refl refl refl tt
    ▸ may_give (omega arith) refl refl refl refl tt
    ▸ commits refl refl refl refl refl refl tt

-- both are granted by the one COMMIT: t has the smaller number, so session 3 comes first, though it asked later
both_granted_is_legal : IsLegal locks (two_freed ++ Lock 34 3 AccessShare ∷ Lock 31 6 AccessShare ∷ Done 1 (replies.Tag tags.Commit 0) ∷ End 1 ∷ [])
both_granted_is_legal =
    two_freed_is_legal
    ▸ may_be_granted refl refl refl tt tt
    ▸ may_be_granted refl refl refl (omega arith) tt
    ▸ may_be_done refl refl refl refl
    ▸ may_end refl refl (inl (no_more refl refl)) refl refl refl

-- An INSERT beside an INSERT: both hold their locks at once.
abbrev beside : List Entry
beside = begun
    ++ Give 1 9 ∷ Lock 15 3 RowExclusive ∷ Look 15 ∷ Add 15 3 (int 1 ∷ []) ∷ Done 1 (replies.Tag tags.Insert 1) ∷ End 1
    ∷ Give 2 10 ∷ Start 2 levels.ReadCommitted ∷ Lock 25 3 RowExclusive ∷ Look 25 ∷ Add 25 3 (int 1 ∷ []) ∷ Done 2 (replies.Tag tags.Insert 1) ∷ []

beside_is_legal : IsLegal locks beside
beside_is_legal =
    begun_is_legal
    ▸ may_give (omega arith) refl refl refl refl tt
    ▸ may_lock refl refl refl refl refl refl refl refl tt tt
    ▸ may_look refl refl refl refl refl refl refl tt tt
    ▸ may_add refl (may_act refl refl refl refl refl) (refl, refl) refl tt tt
    ▸ may_be_done refl refl refl tt
    ▸ may_end refl refl (inl (no_more refl refl)) refl refl refl
    ▸ may_give (omega arith) refl refl refl refl tt
    ▸ may_start refl refl refl refl tt
    ▸ may_lock refl refl refl refl refl refl refl refl tt tt
    ▸ may_look refl refl refl refl refl refl refl tt tt
    ▸ may_add refl (may_act refl refl refl refl refl) (refl, refl) refl tt tt
    ▸ may_be_done refl refl refl tt

both_held : held (reverse beside) ≡ of 1 3 RowExclusive ∷ of 2 3 RowExclusive ∷ []
both_held = refl

-- A reader in a block, an ALTER TABLE behind it, and a reader behind the ALTER TABLE, which waits too:
abbrev pub reader_asks : List Entry
reader_asks = begun
    ++ Give 1 11 ∷ Lock 15 3 AccessShare ∷ Look 15 ∷ Read 15 (name_a ∷ []) ((int 1 ∷ []) ∷ []) ∷ Done 1 (replies.Rows 21) ∷ End 1
    ∷ Give 2 12 ∷ Start 2 levels.ReadCommitted ∷ Wait 25 (wants.Table 3 AccessExclusive)
    ∷ Give 3 6 ∷ Start 3 levels.ReadCommitted ∷ []

pub reader_asks_is_legal : IsLegal locks reader_asks
reader_asks_is_legal =
    begun_is_legal
    ▸ may_give (omega arith) refl refl refl refl tt
    ▸ may_lock refl refl refl refl refl refl refl refl tt tt
    ▸ may_look refl refl refl refl refl refl refl tt tt
    ▸ may_read refl (may_act refl refl refl refl refl) (refl, refl) refl tt tt
    ▸ may_be_done refl refl refl tt
    ▸ may_end refl refl (inl (no_more refl refl)) refl refl refl
    ▸ may_give (omega arith) refl refl refl refl tt
    ▸ may_start refl refl refl refl tt
    ▸ may_wait_for_lock refl refl refl refl refl refl refl refl tt
    ▸ may_give (omega arith) refl refl refl refl tt
    ▸ may_start refl refl refl refl tt

abbrev pub queue : List Entry
queue = reader_asks ++ Wait 28 (wants.Table 3 AccessShare) ∷ []

pub queue_is_legal : IsLegal locks queue
queue_is_legal = reader_asks_is_legal ▸ may_wait_for_lock refl refl refl refl refl refl refl refl tt

-- the requests wait in the order in which they came, and none can be granted
queue_in_order : waiting (reverse queue) ≡ of 2 3 AccessExclusive ∷ of 3 3 AccessShare ∷ []
queue_in_order = refl

queue_is_settled : is_settled (reverse queue) ≡ true
queue_is_settled = refl

-- COMMIT of the first reader lets the ALTER TABLE go on, and the second reader goes on waiting until it is committed
abbrev passed : List Entry
passed = queue ++ Give 1 2 ∷ Commit 15 ∷ Lock 25 3 AccessExclusive ∷ Done 1 (replies.Tag tags.Commit 0) ∷ End 1 ∷ []

passed_is_legal : IsLegal locks passed
passed_is_legal =
    queue_is_legal
    ▸ may_give (omega arith) refl refl refl refl tt
    ▸ commits refl refl refl refl refl refl tt
    ▸ may_be_granted refl refl refl tt tt
    ▸ may_be_done refl refl refl refl
    ▸ may_end refl refl (inl (no_more refl refl)) refl refl refl

alter_goes_on : can_go_on (reverse passed) 2 ≡ true
alter_goes_on = refl

reader_still_blocked : is_blocked (reverse passed) 3 ≡ true
reader_still_blocked = refl

-- the second is granted in the tail of the ALTER TABLE's step
queue_is_done : IsLegal locks (passed ++ Look 25 ∷ Alter 25 3 0 [] ∷ Done 2 (replies.Tag tags.AlterTable 0) ∷ Commit 25 ∷ Lock 28 3 AccessShare ∷ End 2 ∷ Look 28 ∷ [])
queue_is_done =
    passed_is_legal
    ▸ may_look refl refl refl refl refl refl refl tt refl
    ▸ may_alter refl (may_act refl refl refl refl refl) (refl, λ c there. absurd c.demand) refl refl tt refl
    ▸ may_be_done refl refl refl tt
    ▸ may_commit refl refl refl refl refl refl refl
    ▸ may_be_granted refl refl refl tt tt
    ▸ may_end refl refl (inl (no_more refl refl)) refl refl refl
    ▸ may_look refl refl refl refl refl refl refl tt tt

-- Two sessions wait for each other: session 1 has t alone and wants u, session 2 has u alone and wants t.
abbrev each_waits : List Entry
each_waits = altered
    ++ Give 2 13 ∷ Start 2 levels.ReadCommitted ∷ Lock 25 6 AccessExclusive ∷ Look 25 ∷ Alter 25 6 0 [] ∷ Done 2 (replies.Tag tags.AlterTable 0)
    ∷ Wait 25 (wants.Table 3 AccessShare)
    ∷ Give 1 7 ∷ Wait 15 (wants.Table 6 AccessExclusive) ∷ []

each_waits_is_legal : IsLegal locks each_waits
each_waits_is_legal =
    altered_is_legal
    ▸ may_give (omega arith) refl refl refl refl tt
    ▸ may_start refl refl refl refl tt
    ▸ may_lock refl refl refl refl refl refl refl refl tt tt
    ▸ may_look refl refl refl refl refl refl refl tt refl
    ▸ may_alter refl (may_act refl refl refl refl refl) (refl, λ c there. absurd c.demand) refl refl tt refl
    ▸ may_be_done refl refl refl tt
    ▸ may_wait_for_lock refl refl refl refl refl refl refl refl tt
    ▸ may_give (omega arith) refl refl refl refl tt
    ▸ may_wait_for_lock refl refl refl refl refl refl refl refl tt

first_stands_still : can_go_on (reverse each_waits) 1 ≡ false
first_stands_still = refl

second_stands_still : can_go_on (reverse each_waits) 2 ≡ false
second_stands_still = refl

-- the cancel of the one lets the other go on
one_is_cancelled : IsLegal locks (each_waits ++ Cancel 1 ∷ Refuse 1 (causes.Cancelled 33) ∷ Abort 15 ∷ Lock 25 3 AccessShare ∷ End 1 ∷ Look 25 ∷ Read 25 (name_a ∷ []) ((int 1 ∷ []) ∷ []) ∷ Done 2 (replies.Rows 39) ∷ Commit 25 ∷ End 2 ∷ [])
one_is_cancelled =
    each_waits_is_legal
    ▸ may_cancel refl refl tt
    ▸ may_refuse refl refl refl refl
    ▸ may_abort refl refl (inl refl) refl refl
    ▸ may_be_granted refl refl refl tt tt
    ▸ may_end refl refl (inr refl) refl refl refl
    ▸ may_look refl refl refl refl refl refl refl tt tt
    ▸ may_read refl (may_act refl refl refl refl refl) (refl, refl) refl tt tt
    ▸ may_be_done refl refl refl tt
    ▸ may_commit refl refl refl refl refl refl refl
    ▸ may_end refl refl (inl (no_more refl refl)) refl refl refl

-- a turn of session 1 is its own Commit, Done and End, and the locks that it lets go on
turn_of_commit : Extends 1 (reverse (queue ++ Give 1 2 ∷ [])) (reverse passed)
turn_of_commit = record {
  entries = End 1 ∷ Done 1 (replies.Tag tags.Commit 0) ∷ Lock 25 3 AccessExclusive ∷ Commit 15 ∷ [];
  more = refl;
  own = (inl refl, (inl refl, (inr refl, (inl refl, tt))));
}

-- a Wait of another is no part of it
wait_of_other : IsOf 1 (reverse reader_asks) (Wait 28 (wants.Table 3 AccessShare)) → ⊥
wait_of_other is = elim is [ inl own ↦ differ 3 1 own refl | inr granted ↦ false_true granted ]
