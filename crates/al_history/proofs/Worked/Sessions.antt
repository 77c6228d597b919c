-- Whole runs with setup and teardown blocks of sessions, a setup block that is cancelled, and runs that aren't whole.
use Rattle.std.specs.Prelude.{◌≡◌, ℕ, zero, suc, ◌≤◌, ◌<◌, Bool, true, false, List, [], ◌∷◌, ◌++◌, Ok, reverse, codes, refl}
use Rattle.std.proofs.Common.{arith, inl, inr}
use Rattle.std.proofs.lemmas.Bool.{ne_eqb}
use Rattle.al_modes.specs.declared.level.Level.TheVariants as levels
use Rattle.al_spec.specs.declared.spec.Block.{Block}
use Rattle.al_spec.specs.declared.spec.Part.{Part}
use Rattle.al_spec.specs.declared.spec.Part.TheVariants as parts
use Rattle.al_spec.specs.declared.spec.Spec.{Spec}
use Rattle.al_statements.specs.declared.reply.Tag.TheVariants as tags
use Rattle.al_statements.specs.declared.reply.Reply.TheVariants as replies
use Rattle.al_history.specs.declared.entry.Want.TheVariants as wants
use Rattle.al_statements.specs.declared.cause.Cause.TheVariants as causes
use Rattle.al_history.specs.declared.entry.Entry.{Entry}
use Rattle.al_history.specs.declared.entry.Entry.TheVariants.{Give, Start, Wait, Look, Make, Done, Refuse, Abort, Cancel, End, Close}
use Rattle.al_history.specs.declared.run.Setup.TheVariants as setups
use Rattle.al_history.specs.declared.statement.ScriptBlock.{ScriptBlock}
use Rattle.al_history.specs.declared.statement.Statement.TheVariants as statements
use Rattle.al_history.specs.declared.statement.Terms.{Terms}
use Rattle.al_history.specs.Hand.{closed}
use Rattle.al_history.specs.Legal.{IsLegal}
use Rattle.al_history.specs.Whole.{Driven, IsIdle, IsWhole, AreRuns}
use Rattle.al_history.proofs.Worked.Journals.{terms_of, column_a, create, alone, IsAtRest, at_rest, idle, none_below, zero_below, rest_at_first}
use Rattle.al_history.proofs.Worked.Rules.{◌▸◌, may_give, may_start, may_wait_for_end, may_look, may_act, may_make, may_be_done, may_refuse, may_cancel, may_abort, may_end, may_close, no_more, false_true}
use Rattle.al_history.proofs.Worked.Whole.{run_of}
use Rattle.al_history.proofs.Views.{hold_always}

-- a block of a part, whose text is empty
abbrev block_of : Part → ℕ → Block
block_of part session = record { part = part; session = session; name = []; text = [] }

-- no statement at all
abbrev nothing : ℕ → ScriptBlock
nothing session = record { session = session; script = Ok [] }

-- ---- one session: each part of the file has one empty block

abbrev parted : Spec
parted = record {
  sessions = codes "s1" ∷ [];
  blocks = block_of parts.Setup 0 ∷ block_of parts.Teardown 0 ∷ block_of parts.SessionSetup 1 ∷ block_of parts.Step 1 ∷ block_of parts.SessionTeardown 1 ∷ [];
  permutations = (3 ∷ []) ∷ [];
}

abbrev empty : Terms
empty = terms_of 2 (nothing 0 ∷ nothing 0 ∷ nothing 1 ∷ nothing 1 ∷ nothing 1 ∷ [])

-- the setup block, the session's own, the step, the session's teardown block
abbrev set_up : List Entry
set_up = Give 0 0 ∷ End 0 ∷ []

abbrev session_up : List Entry
session_up = set_up ++ Give 1 2 ∷ End 1 ∷ []

abbrev stepped : List Entry
stepped = session_up ++ Give 1 3 ∷ End 1 ∷ []

abbrev torn_down : List Entry
torn_down = stepped ++ Give 1 4 ∷ End 1 ∷ []

-- the session's close, the teardown block, and the control session's close
abbrev pub whole_file : List Entry
whole_file = torn_down ++ Close 1 ∷ Give 0 1 ∷ End 0 ∷ Close 0 ∷ []

-- where a block without a statement comes, its End may follow at once
set_up_is_legal : IsLegal empty set_up
set_up_is_legal = tt ▸ may_give (omega arith) refl refl refl refl tt ▸ may_end refl refl (inl (no_more refl refl)) refl refl tt

session_up_is_legal : IsLegal empty session_up
session_up_is_legal = set_up_is_legal ▸ may_give (omega arith) refl refl refl refl tt ▸ may_end refl refl (inl (no_more refl refl)) refl refl tt

stepped_is_legal : IsLegal empty stepped
stepped_is_legal = session_up_is_legal ▸ may_give (omega arith) refl refl refl refl tt ▸ may_end refl refl (inl (no_more refl refl)) refl refl tt

torn_down_is_legal : IsLegal empty torn_down
torn_down_is_legal = stepped_is_legal ▸ may_give (omega arith) refl refl refl refl tt ▸ may_end refl refl (inl (no_more refl refl)) refl refl tt

whole_is_legal : IsLegal empty whole_file
whole_is_legal =
    torn_down_is_legal
    ▸ may_close (omega arith) refl refl refl refl tt
    ▸ may_give (omega arith) refl refl refl refl tt
    ▸ may_end refl refl (inl (no_more refl refl)) refl refl tt
    ▸ may_close (omega arith) refl refl refl refl tt

rest_set_up : IsAtRest (reverse set_up)
rest_set_up r = at_rest [] 0 0 rest_at_first r

rest_session_up : IsAtRest (reverse session_up)
rest_session_up r = at_rest (reverse set_up) 1 2 rest_set_up r

rest_stepped : IsAtRest (reverse stepped)
rest_stepped r = at_rest (reverse session_up) 1 3 rest_session_up r

rest_torn_down : IsAtRest (reverse torn_down)
rest_torn_down r = at_rest (reverse stepped) 1 4 rest_stepped r

driven_torn_down : Driven empty (reverse torn_down)
driven_torn_down = (
  (refl, zero_below _ refl),
  (
    idle (reverse stepped) rest_stepped,
    (
      (refl, zero_below _ refl),
      (
        idle (reverse session_up) rest_session_up,
        (
          (refl, zero_below _ refl),
          (
            idle (reverse set_up) rest_set_up,
            ((refl, none_below _), (idle [] rest_at_first, tt)),
          ),
        ),
      ),
    ),
  ),
)

both_closed : (s : ℕ) → s ≤ 1 → closed (reverse whole_file) s ≡ true
both_closed zero le = refl
both_closed (suc zero) le = refl
both_closed (suc (suc s)) le = absurd (omega arith)

-- it is the journal of a whole run
whole_is_whole : IsWhole parted empty (3 ∷ []) (reverse whole_file)
whole_is_whole = record {
  as_due = (refl, (refl, (refl, (refl, (refl, (refl, (refl, tt)))))));
  in_turn = (tt, ((refl, none_below _), (idle (Close 1 ∷ reverse torn_down) rest_torn_down, (tt, driven_torn_down))));
  all_done = refl;
  all_closed = both_closed;
}

pub whole_runs : AreRuns parted empty (run_of 1 setups.Done whole_file ∷ [])
whole_runs = (record { permutation = refl; legal = whole_is_legal; whole = whole_is_whole; holding = hold_always empty (reverse whole_file); setup = refl }, tt)

-- ---- what is legal but no whole run

-- the session's teardown block is left out
abbrev teardown_left_out : List Entry
teardown_left_out = stepped ++ Close 1 ∷ Give 0 1 ∷ End 0 ∷ Close 0 ∷ []

teardown_left_out_is_legal : IsLegal empty teardown_left_out
teardown_left_out_is_legal =
    stepped_is_legal
    ▸ may_close (omega arith) refl refl refl refl tt
    ▸ may_give (omega arith) refl refl refl refl tt
    ▸ may_end refl refl (inl (no_more refl refl)) refl refl tt
    ▸ may_close (omega arith) refl refl refl refl tt

teardown_left_out_is_no_run : IsWhole parted empty (3 ∷ []) (reverse teardown_left_out) → ⊥
teardown_left_out_is_no_run w = cc w.as_due.1.1.0

-- the main teardown block is left out
abbrev main_teardown_left_out : List Entry
main_teardown_left_out = torn_down ++ Close 1 ∷ Close 0 ∷ []

main_teardown_left_out_is_legal : IsLegal empty main_teardown_left_out
main_teardown_left_out_is_legal = torn_down_is_legal ▸ may_close (omega arith) refl refl refl refl tt ▸ may_close (omega arith) refl refl refl refl tt

main_teardown_left_out_is_no_run : IsWhole parted empty (3 ∷ []) (reverse main_teardown_left_out) → ⊥
main_teardown_left_out_is_no_run w = cc w.as_due.0

-- the main teardown block comes before the session is closed
abbrev teardown_before_close : List Entry
teardown_before_close = torn_down ++ Give 0 1 ∷ End 0 ∷ Close 1 ∷ Close 0 ∷ []

teardown_before_close_is_legal : IsLegal empty teardown_before_close
teardown_before_close_is_legal =
    torn_down_is_legal
    ▸ may_give (omega arith) refl refl refl refl tt
    ▸ may_end refl refl (inl (no_more refl refl)) refl refl tt
    ▸ may_close (omega arith) refl refl refl refl tt
    ▸ may_close (omega arith) refl refl refl refl tt

teardown_before_close_is_no_run : IsWhole parted empty (3 ∷ []) (reverse teardown_before_close) → ⊥
teardown_before_close_is_no_run w = cc w.as_due.1.1.0

-- the step is given again once the list has ended
abbrev step_after_list : List Entry
step_after_list = stepped ++ Give 1 3 ∷ End 1 ∷ []

step_after_list_is_legal : IsLegal empty step_after_list
step_after_list_is_legal = stepped_is_legal ▸ may_give (omega arith) refl refl refl refl tt ▸ may_end refl refl (inl (no_more refl refl)) refl refl tt

step_after_list_is_no_run : IsWhole parted empty (3 ∷ []) (reverse step_after_list) → ⊥
step_after_list_is_no_run w = cc w.as_due.0

-- the session's setup block comes before the main one
abbrev session_first : List Entry
session_first = Give 1 2 ∷ End 1 ∷ Give 0 0 ∷ End 0 ∷ []

session_first_is_legal : IsLegal empty session_first
session_first_is_legal =
    tt
    ▸ may_give (omega arith) refl refl refl refl tt
    ▸ may_end refl refl (inl (no_more refl refl)) refl refl tt
    ▸ may_give (omega arith) refl refl refl refl tt
    ▸ may_end refl refl (inl (no_more refl refl)) refl refl tt

session_first_is_no_run : IsWhole parted empty (3 ∷ []) (reverse session_first) → ⊥
session_first_is_no_run w = cc w.as_due.1.0

-- ---- two sessions: the setup block of the second waits for that of the first, and is cancelled

abbrev held : Spec
held = record {
  sessions = codes "s1" ∷ codes "s2" ∷ [];
  blocks =
      record { part = parts.SessionSetup; session = 1; name = []; text = codes "BEGIN; CREATE TABLE t (a integer)" }
      ∷ record { part = parts.SessionSetup; session = 2; name = []; text = codes "CREATE TABLE t (a integer)" }
      ∷ record { part = parts.Step; session = 1; name = codes "n"; text = [] }
      ∷ record { part = parts.SessionTeardown; session = 1; name = []; text = [] }
      ∷ [];
  permutations = (2 ∷ []) ∷ [];
}

abbrev holding : Terms
holding = terms_of 3 (record { session = 1; script = Ok (statements.Begin ∷ create ∷ []) } ∷ alone 2 create ∷ nothing 1 ∷ nothing 1 ∷ [])

abbrev made : List Entry
made = Give 1 0 ∷ Start 1 levels.ReadCommitted ∷ Done 1 (replies.Tag tags.Begin 0) ∷ Look 1 ∷ Make 1 4 (codes "t") (column_a ∷ []) ∷ Done 1 (replies.Tag tags.CreateTable 0) ∷ End 1 ∷ []

abbrev waits : List Entry
waits = made ++ Give 2 1 ∷ Start 2 levels.ReadCommitted ∷ Look 8 ∷ Wait 8 (wants.Ends 1) ∷ []

abbrev ended : List Entry
ended = waits ++ Cancel 2 ∷ Refuse 2 (causes.Cancelled 11) ∷ Abort 8 ∷ End 2 ∷ []

abbrev pub cancelled_setup : List Entry
cancelled_setup = ended ++ Close 0 ∷ Abort 1 ∷ Close 1 ∷ Close 2 ∷ []

made_is_legal : IsLegal holding made
made_is_legal =
    tt
    ▸ may_give (omega arith) refl refl refl refl tt
    ▸ may_start refl refl refl refl tt
    ▸ may_be_done refl refl refl tt
    ▸ may_look refl refl refl refl refl refl refl tt tt
    ▸ may_make refl (may_act refl refl refl refl refl) refl (refl, refl) refl refl tt
    ▸ may_be_done refl refl refl tt
    ▸ may_end refl refl (inl (no_more refl refl)) refl refl refl

waits_is_legal : IsLegal holding waits
waits_is_legal =
    made_is_legal
    ▸ may_give (omega arith) refl refl refl refl tt
    ▸ may_start refl refl refl refl tt
    ▸ may_look refl refl refl refl refl refl refl tt tt
    ▸ may_wait_for_end refl refl refl refl refl refl refl refl tt

cancelled_is_legal : IsLegal holding cancelled_setup
cancelled_is_legal =
    waits_is_legal
    ▸ may_cancel refl refl tt
    ▸ may_refuse refl refl refl refl
    ▸ may_abort refl refl (inl refl) refl refl
    ▸ may_end refl refl (inr refl) refl refl refl
    ▸ may_close (omega arith) refl refl refl refl tt
    ▸ may_abort refl refl (inr refl) refl tt
    ▸ may_close (omega arith) refl refl refl refl refl
    ▸ may_close (omega arith) refl refl refl refl tt

rest_made : IsAtRest (reverse made)
rest_made r = at_rest [] 1 0 rest_at_first r

-- session 2 has the step in hand that waits, and no other has one
waiting_idle : IsIdle (reverse waits)
waiting_idle zero = refl
waiting_idle (suc zero) = refl
waiting_idle (suc (suc zero)) = refl
waiting_idle (suc (suc (suc r))) = rw (ne_eqb 2 (suc (suc (suc r))) (λ e. omega arith), rest_made (suc (suc (suc r)))) refl

two_below : (P : ℕ → Bool) → P 0 ≡ false → P 1 ≡ false → (r : ℕ) → r < 2 → P r ≡ false
two_below P first second zero lt = first
two_below P first second (suc zero) lt = second
two_below P first second (suc (suc r)) lt = absurd (omega arith)

driven_made : Driven holding (reverse made)
driven_made = (tt, ((refl, zero_below _ refl), ((refl, zero_below _ refl), ((refl, zero_below _ refl), ((refl, zero_below _ refl), ((refl, zero_below _ refl), (idle [] rest_at_first, tt)))))))

driven_waits : Driven holding (reverse waits)
driven_waits = ((refl, two_below _ refl refl), ((refl, two_below _ refl refl), ((refl, two_below _ refl refl), (idle (reverse made) rest_made, driven_made))))

driven_cancelled : Driven holding (reverse cancelled_setup)
driven_cancelled = (tt, (tt, (tt, (tt, (tt, (tt, (tt, (waiting_idle, driven_waits))))))))

all_closed : (s : ℕ) → s ≤ 2 → closed (reverse cancelled_setup) s ≡ true
all_closed zero le = refl
all_closed (suc zero) le = refl
all_closed (suc (suc zero)) le = refl
all_closed (suc (suc (suc s))) le = absurd (omega arith)

-- that fails the setup: no step and no teardown block is given, and the open transaction is aborted by its session's close
pub cancelled_runs : AreRuns held holding (run_of 1 (setups.Failed 1) cancelled_setup ∷ [])
cancelled_runs = (
  record {
    permutation = refl;
    legal = cancelled_is_legal;
    whole = record { as_due = (refl, (refl, (refl, (refl, (refl, (refl, tt)))))); in_turn = driven_cancelled; all_done = refl; all_closed = all_closed };
    holding = hold_always holding (reverse cancelled_setup);
    setup = refl;
  },
  tt,
)

-- a teardown block is given all the same
abbrev torn_after_failure : List Entry
torn_after_failure = ended ++ Give 1 3 ∷ End 1 ∷ []

torn_after_failure_is_no_run : IsWhole held holding (2 ∷ []) (reverse torn_after_failure) → ⊥
torn_after_failure_is_no_run w = cc w.as_due.0

-- a setup block that waits isn't cancelled: the next session is closed beside it
abbrev not_cancelled : List Entry
not_cancelled = waits ++ Close 0 ∷ []

not_cancelled_is_no_run : IsWhole held holding (2 ∷ []) (reverse not_cancelled) → ⊥
not_cancelled_is_no_run w = cc w.as_due.0

-- a session that waits goes on before what it waits for has ended
goes_on_early : IsLegal holding (waits ++ Make 8 11 (codes "t") (column_a ∷ []) ∷ []) → ⊥
goes_on_early l = false_true l.0.timely

-- and its step ends while it waits
ends_early : IsLegal holding (waits ++ End 2 ∷ []) → ⊥
ends_early l = false_true l.0.timely
