-- Runs, and journals that are legal but no whole run's.
use Rattle.std.specs.Prelude.{zero, suc, ◌≤◌, true, ℕ, List, [], ◌∷◌, ◌++◌, ◌<◌, ◌≡◌, reverse, codes, refl}
use Rattle.std.proofs.Common.{arith, inl, inr}
use Rattle.al_modes.specs.declared.level.Level.TheVariants as levels
use Rattle.al_modes.specs.declared.mode.Mode.TheVariants.{AccessShare, AccessExclusive}
use Rattle.al_statements.specs.declared.reply.Tag.TheVariants as tags
use Rattle.al_statements.specs.declared.reply.Reply.TheVariants as replies
use Rattle.al_statements.specs.declared.cause.Cause.TheVariants as causes
use Rattle.al_history.specs.declared.entry.Entry.{Entry}
use Rattle.al_history.specs.declared.entry.Entry.TheVariants.{Give, Start, Lock, Look, Read, Alter, Done, Refuse, Abort, Commit, End, Close}
use Rattle.al_spec.specs.declared.spec.Spec.{Spec}
use Rattle.al_history.specs.declared.statement.ScriptBlock.{ScriptBlock}
use Rattle.al_history.specs.declared.run.Run.{Run}
use Rattle.al_history.specs.declared.run.Setup.{Setup}
use Rattle.al_history.specs.declared.run.Setup.TheVariants as setups
use Rattle.al_history.specs.Hand.{closed}
use Rattle.al_history.specs.Legal.{IsLegal}
use Rattle.al_history.specs.Whole.{Driven, IsWhole, IsRun, AreRuns}
use Rattle.al_history.proofs.Worked.Journals.{name_a, int, alone, select, terms, filled_with, spec, spec_with, given_create, ended_insert, ended_alter, ended_select, journal, insert_is_legal, alter_is_legal, select_is_legal, journal_is_legal, journal_is_whole, IsAtRest, at_rest, zero_below, idle, rest_after_insert, driven_insert}
use Rattle.al_history.proofs.Worked.Causes.{add_again, again, spec_again, ended_again, failed, again_is_legal, failed_is_legal, failed_is_whole}
use Rattle.al_history.proofs.Worked.Rules.{◌▸◌, in_turn_seven, in_turn_eight, may_give, may_start, may_lock, may_look, may_act, may_read, may_alter, may_be_done, may_refuse, may_commit, may_abort, may_end, may_close, false_true, no_more}
use Rattle.al_history.proofs.Views.{hold_always}

-- a run of this number and this outcome of its setup, with this journal
abbrev pub run_of : ℕ → Setup → List Entry → Run
run_of number setup entries = record { permutation = number; setup = setup; history = record { entries = entries; room = 0 } }

-- the whole journal is that of the first run
pub first_run : IsRun spec terms 1 (2 ∷ 3 ∷ []) (run_of 1 setups.Done journal)
first_run = record { permutation = refl; legal = journal_is_legal; whole = journal_is_whole; holding = hold_always terms (reverse journal); setup = refl }

-- and the file has no other
pub runs : AreRuns spec terms (run_of 1 setups.Done journal ∷ [])
runs = (first_run, tt)

-- the run whose second setup block fails says so
pub failed_run : AreRuns spec_again again (run_of 1 (setups.Failed 1) failed ∷ [])
failed_run = (record { permutation = refl; legal = failed_is_legal; whole = failed_is_whole; holding = hold_always again (reverse failed); setup = refl }, tt)

-- runs count from 1
counted_from_zero : AreRuns spec terms (run_of 0 setups.Done journal ∷ []) → ⊥
counted_from_zero r = cc r.0.permutation

-- a permutation is left out
run_missing : AreRuns spec terms [] → ⊥
run_missing r = r

-- a permutation is run twice
run_doubled : AreRuns spec terms (run_of 1 setups.Done journal ∷ run_of 1 setups.Done journal ∷ []) → ⊥
run_doubled r = r.1

-- a run tells a failed setup block where none failed
failed_for_done : IsRun spec terms 1 (2 ∷ 3 ∷ []) (run_of 1 (setups.Failed 1) journal) → ⊥
failed_for_done r = cc r.setup

-- a run tells no failed setup block where one failed
done_for_failed : IsRun spec_again again 1 (2 ∷ 3 ∷ []) (run_of 1 setups.Done failed) → ⊥
done_for_failed r = cc r.setup

-- a run tells another setup block than the one that failed
other_block_failed : IsRun spec_again again 1 (2 ∷ 3 ∷ []) (run_of 1 (setups.Failed 0) failed) → ⊥
other_block_failed r = cc r.setup

-- The last Close is left out:
abbrev unclosed : List Entry
unclosed = ended_select ++ Close 1 ∷ []

-- that is legal,
unclosed_is_legal : IsLegal terms unclosed
unclosed_is_legal = select_is_legal ▸ may_close (omega arith) refl refl refl refl tt

-- but not whole: the control session is open
unclosed_is_no_run : IsWhole spec terms (2 ∷ 3 ∷ []) (reverse unclosed) → ⊥
unclosed_is_no_run w = false_true (w.all_closed 0 (omega arith))

-- The second step of the permutation is left out:
abbrev step_missing : List Entry
step_missing = ended_alter ++ Close 1 ∷ Close 0 ∷ []

-- that is legal,
step_missing_is_legal : IsLegal terms step_missing
step_missing_is_legal = alter_is_legal ▸ may_close (omega arith) refl refl refl refl tt ▸ may_close (omega arith) refl refl refl refl tt

-- but not whole
step_missing_is_no_run : IsWhole spec terms (2 ∷ 3 ∷ []) (reverse step_missing) → ⊥
step_missing_is_no_run w = cc w.as_due.1.0

-- the whole journal isn't that of the steps in the other order
order_swapped : IsWhole spec terms (3 ∷ 2 ∷ []) (reverse journal) → ⊥
order_swapped w = cc w.as_due.1.1.0

-- The control session is closed first:
abbrev control_first : List Entry
control_first = ended_select ++ Close 0 ∷ Close 1 ∷ []

-- that is legal,
control_first_is_legal : IsLegal terms control_first
control_first_is_legal = select_is_legal ▸ may_close (omega arith) refl refl refl refl tt ▸ may_close (omega arith) refl refl refl refl tt

-- but not whole
control_first_is_no_run : IsWhole spec terms (2 ∷ 3 ∷ []) (reverse control_first) → ⊥
control_first_is_no_run w = cc w.as_due.1.0

-- After a failed setup the control session is closed last:
abbrev control_last : List Entry
control_last = ended_again ++ Close 1 ∷ Close 0 ∷ []

-- that is legal,
control_last_is_legal : IsLegal again control_last
control_last_is_legal = again_is_legal ▸ may_close (omega arith) refl refl refl refl tt ▸ may_close (omega arith) refl refl refl refl tt

-- but not whole
control_last_is_no_run : IsWhole spec_again again (2 ∷ 3 ∷ []) (reverse control_last) → ⊥
control_last_is_no_run w = cc w.as_due.1.0

-- A step is given after a failed setup:
abbrev gone_on : List Entry
gone_on = ended_again ++ Give 1 2 ∷ Start 1 levels.ReadCommitted ∷ Lock 14 3 AccessExclusive ∷ Look 14 ∷ Alter 14 3 0 [] ∷ Done 1 (replies.Tag tags.AlterTable 0) ∷ Commit 14 ∷ End 1 ∷ Close 0 ∷ Close 1 ∷ []

-- that is legal,
gone_on_is_legal : IsLegal again gone_on
gone_on_is_legal =
    again_is_legal
    ▸ may_give (omega arith) refl refl refl refl tt
    ▸ may_start refl refl refl refl tt
    ▸ may_lock refl refl refl refl refl refl refl refl tt tt
    ▸ may_look refl refl refl refl refl refl refl tt refl
    ▸ may_alter refl (may_act refl refl refl refl refl) (refl, λ c there. absurd c.demand) refl refl tt refl
    ▸ may_be_done refl refl refl tt
    ▸ may_commit refl refl refl refl refl refl refl
    ▸ may_end refl refl (inl (no_more refl refl)) refl refl refl
    ▸ may_close (omega arith) refl refl refl refl tt
    ▸ may_close (omega arith) refl refl refl refl tt

-- but not whole
gone_on_is_no_run : IsWhole spec_again again (2 ∷ 3 ∷ []) (reverse gone_on) → ⊥
gone_on_is_no_run w = cc w.as_due.1.1.0

-- A block is given while another session has one in hand:
abbrev both_given : List Entry
both_given = given_create ++ Give 1 2 ∷ []

-- that is legal,
both_given_is_legal : IsLegal terms both_given
both_given_is_legal = tt ▸ may_give (omega arith) refl refl refl refl tt ▸ may_give (omega arith) refl refl refl refl tt

-- but the driver waits
both_given_is_no_turn : Driven terms (reverse both_given) → ⊥
both_given_is_no_turn d = cc (d.0 0)

-- Session 1 begins, where the control session could go on:
abbrev later_first : List Entry
later_first = both_given ++ Start 1 levels.ReadCommitted ∷ []

-- that is legal,
later_first_is_legal : IsLegal terms later_first
later_first_is_legal = both_given_is_legal ▸ may_start refl refl refl refl tt

-- but not its turn
later_first_is_no_turn : Driven terms (reverse later_first) → ⊥
later_first_is_no_turn d = let turn : 0 < 1 = omega arith in cc (d.0.1 0 turn)

-- The first step adds a column that is there, and the second reads.
abbrev refused_steps : List ScriptBlock
refused_steps = alone 1 add_again ∷ alone 1 select ∷ []

abbrev spec_refused : Spec
spec_refused = spec_with (codes "INSERT INTO t VALUES (1)") (codes "ALTER TABLE t ADD COLUMN a integer;")

abbrev step_refused : List Entry
step_refused = ended_insert ++ Give 1 2 ∷ Start 1 levels.ReadCommitted ∷ Lock 16 3 AccessExclusive ∷ Look 16 ∷ Refuse 1 (causes.TwiceColumn name_a) ∷ Abort 16 ∷ End 1 ∷ []

abbrev refused_next : List Entry
refused_next = Give 1 3 ∷ Start 1 levels.ReadCommitted ∷ Lock 23 3 AccessShare ∷ Look 23 ∷ Read 23 (name_a ∷ []) ((int 1 ∷ []) ∷ []) ∷ Done 1 (replies.Rows 26) ∷ Commit 23 ∷ End 1 ∷ []

abbrev refused_journal : List Entry
refused_journal = step_refused ++ refused_next ++ Close 1 ∷ Close 0 ∷ []

-- a session goes on after a step of it was refused, and finds the table as it was
refused_journal_is_legal : IsLegal (filled_with refused_steps) refused_journal
refused_journal_is_legal =
    insert_is_legal refused_steps
    ▸ may_give (omega arith) refl refl refl refl tt
    ▸ may_start refl refl refl refl tt
    ▸ may_lock refl refl refl refl refl refl refl refl tt tt
    ▸ may_look refl refl refl refl refl refl refl tt refl
    ▸ may_refuse refl refl refl tt
    ▸ may_abort refl refl (inl refl) refl refl
    ▸ may_end refl refl (inr refl) refl refl refl
    ▸ may_give (omega arith) refl refl refl refl tt
    ▸ may_start refl refl refl refl tt
    ▸ may_lock refl refl refl refl refl refl refl refl tt tt
    ▸ may_look refl refl refl refl refl refl refl tt tt
    ▸ may_read refl (may_act refl refl refl refl refl) (refl, refl) refl tt tt
    ▸ may_be_done refl refl refl tt
    ▸ may_commit refl refl refl refl refl refl refl
    ▸ may_end refl refl (inl (no_more refl refl)) refl refl refl
    ▸ may_close (omega arith) refl refl refl refl tt
    ▸ may_close (omega arith) refl refl refl refl tt

-- both sessions are closed at its end
refused_both_closed : (s : ℕ) → s ≤ 1 → closed (reverse refused_journal) s ≡ true
refused_both_closed zero le = refl
refused_both_closed (suc zero) le = refl
refused_both_closed (suc (suc s)) le = absurd (omega arith)

-- no session has a step in hand after the step that was refused
rest_after_refusal : IsAtRest (reverse step_refused)
rest_after_refusal r = at_rest (reverse ended_insert) 1 2 rest_after_insert r

-- each entry of the step that is refused is of session 1
driven_step_refused : Driven (filled_with refused_steps) (reverse step_refused)
driven_step_refused = in_turn_seven tt tt (refl, zero_below _ refl) (refl, zero_below _ refl) (refl, zero_below _ refl) (refl, zero_below _ refl) (idle (reverse ended_insert) rest_after_insert) (driven_insert refused_steps)

-- so is each of the second
driven_refused : Driven (filled_with refused_steps) (reverse (step_refused ++ refused_next))
driven_refused = in_turn_eight tt tt (refl, zero_below _ refl) (refl, zero_below _ refl) (refl, zero_below _ refl) (refl, zero_below _ refl) (refl, zero_below _ refl) (idle (reverse step_refused) rest_after_refusal) driven_step_refused

-- a step that is refused ends no run: its setup didn't fail, and the next step is given
refused_run : AreRuns spec_refused (filled_with refused_steps) (run_of 1 setups.Done refused_journal ∷ [])
refused_run = (
  record {
    permutation = refl;
    legal = refused_journal_is_legal;
    whole = record {
      as_due = (refl, (refl, (refl, (refl, (refl, (refl, tt))))));
      all_done = refl;
      in_turn = (tt, (tt, driven_refused));
      all_closed = refused_both_closed;
    };
    holding = hold_always (filled_with refused_steps) (reverse refused_journal);
    setup = refl;
  },
  tt,
)
