-- The end of a run: the cancels of busy sessions, the teardown blocks, and the closes.
use Rattle.std.proofs.Common.{◌≡◌, ℕ, zero, suc, ◌+◌, ◌<◌, ◌≤◌, List, [], ◌∷◌, ◌++◌, length, refl, sym, ap, subst, cond, true, false, Bool, Option, Some, None, arith, ◌∙◌, inl, inr, slice_get, option_map}
use Rattle.std.specs.Prelude.{◌==◌, ◌≢◌, ◌⊎◌, eqb, leb}
use Rattle.std.proofs.lemmas.Bool.{ne_eqb}
use Rattle.std.proofs.lemmas.List.{append-nil}
use Rattle.std.proofs.lemmas.Bool.Decides.{eqb_tells, leb_tells}
use Rattle.al_history.specs.declared.entry.Entry.TheVariants.{Close}
use Rattle.al_history.specs.declared.run.Setup.{Setup}
use Rattle.al_history.specs.declared.run.Setup.TheVariants as setups
use Rattle.al_spec.specs.declared.spec.Block.{Block}
use Rattle.al_spec.specs.declared.spec.Part.{Part}
use Rattle.al_spec.specs.declared.spec.Part.TheVariants as parts
use Rattle.al_spec.specs.declared.spec.Spec.{Spec}
use Rattle.al_history.specs.declared.statement.Scripts.{Scripts}
use Rattle.al_history.specs.declared.statement.Terms.{Terms}
use Rattle.al_history.specs.Kept.{Kept}
use Rattle.al_history.specs.Past.{Past, past_of}
use Rattle.al_history.specs.Hand.{hand, closed}
use Rattle.al_history.specs.Whole.{is_setup, sessions_from, failed_setup, setup_by, Task, CancelIfBusy, CloseSession, each_block, each_session, Move, next_move, left, due, IsIdle, IsRun}
use Rattle.al_history.proofs.Views.{hold_always}
use Rattle.al_engine.specs.Ran.{Ran, IsLegalRun, IsClosed}
use Rattle.al_app.specs.declared.runs.Teardowns.{Teardowns}
use Rattle.al_app.specs.declared.runs.Teardowns.TheVariants as teardowns
use Rattle.al_spec.specs.Sound.{IsSound}
use Rattle.al_app.specs.Runs.{terms_for, HasLeft, left_when, tasks_from, after_closes, after_teardowns, after_cancels, IsAtRest, AreOfSetup, failed_by, CancelsIfBusy, WasCancelled, IsNoneBusy, IsAnyOpen, HasRunWhole, SetupFailed, StepsRan, SessionsCancelled, is_of, AreOpenFor, TeardownsRan, SessionsClosed, failed_block, IsEnded, HasRunOne}
use Rattle.al_app.proofs.QuietLemmas.{quietly_aborted, left_aborted}
use Rattle.al_app.proofs.LeftLemmas.{moves_same, then_left, left_none, tasks_here, tasks_skip, tasks_end}
use Rattle.al_app.proofs.SpecLemmas.{session_of_block, teardown_session, of_setup_not}
use Rattle.al_app.proofs.DriveLemmas.{none_later, stays_none, of_setup_later}

-- a task for each session, with one more session at the end
each_more : (task : ℕ → Task) (first count : ℕ) (tasks : List Task) → each_session task (sessions_from first (suc count)) ++ tasks ≡ each_session task (sessions_from first count) ++ task (first + count) ∷ tasks
each_more task first zero tasks = let n : first + 0 ≡ first = omega arith in rw n refl
each_more task first (suc count) tasks = let n : first + 1 + count ≡ first + suc count = omega arith in ap (λ (ts : List Task). task first ∷ ts) (each_more task (first + 1) count tasks ∙ ap (λ (m : ℕ). each_session task (sessions_from (first + 1) count) ++ task m ∷ tasks) n)

-- ---- cancels

pub cancels_begin : (ran : Ran) → IsAtRest ran → SessionsCancelled ran ran 0
cancels_begin ran rest = record {
  rest = rest;
  terms = refl;
  closed_same = λ s. refl;
  none_below = λ s lt. absurd (omega arith);
  hands = λ s. inr refl;
  failed = λ spec all. refl;
  goes_on = λ spec steps tasks all has. has;
}

below_one_more : (past : Past) (count : ℕ) → ((s : ℕ) → s < count → hand past s ≡ None) → hand past count ≡ None → (s : ℕ) → s < count + 1 → hand past s ≡ None
below_one_more past count below own s lt = by_session (eqb_tells count s) where
  by_session : ((eqb count s ≡ true) × (count ≡ s)) ⊎ ((eqb count s ≡ false) × (count ≢ s)) → hand past s ≡ None
  by_session (inl e) = subst (λ (r : ℕ). hand past r ≡ None) e.1 own
  by_session (inr e) = let apart : count ≢ s = e.1 in below s (omega arith)

failed_none : (failed : Option ℕ) (refused : Bool) → failed_by failed None refused ≡ failed
failed_none None true = refl
failed_none (Some block) true = refl
failed_none None false = refl
failed_none (Some block) false = refl

module _ (old mid : Ran) (count : ℕ) (so_far : SessionsCancelled old mid count) where
  left_before : (spec : Spec) (steps : List ℕ) (tasks : List Task) → AreOfSetup spec None old.past → HasLeft spec steps old.past (each_session CancelIfBusy (sessions_from 0 (count + 1)) ++ tasks) → HasLeft spec steps mid.past (CancelIfBusy count ∷ tasks)
  left_before spec steps tasks all has =
      let n : count + 1 ≡ suc count = omega arith in
      let m : 0 + count ≡ count = omega arith in
      let list : each_session CancelIfBusy (sessions_from 0 (count + 1)) ++ tasks ≡ each_session CancelIfBusy (sessions_from 0 count) ++ CancelIfBusy count ∷ tasks = ap (λ (k : ℕ). each_session CancelIfBusy (sessions_from 0 k) ++ tasks) n ∙ each_more CancelIfBusy 0 count tasks ∙ ap (λ (k : ℕ). each_session CancelIfBusy (sessions_from 0 count) ++ CancelIfBusy k ∷ tasks) m in
      so_far.goes_on spec steps (CancelIfBusy count ∷ tasks) all (subst (HasLeft spec steps old.past) list has)

  cancels_one : (new : Ran) → WasCancelled mid new count → SessionsCancelled old new (count + 1)
  cancels_one new did = record {
    rest = did.rest;
    terms = did.terms ∙ so_far.terms;
    closed_same = λ s. did.closed_same s ∙ so_far.closed_same s;
    none_below = below_one_more new.past count (λ s lt. stays_none (hand mid.past s) (hand new.past s) (did.hands s) (so_far.none_below s lt)) did.own;
    hands = λ s. none_later old.past mid.past new.past s (so_far.hands s) (did.hands s);
    failed = λ spec all. did.failed spec None (of_setup_later spec None old.past mid.past so_far.hands all) ∙ failed_none (failed_setup spec mid.past) true ∙ so_far.failed spec all;
    goes_on = λ spec steps tasks all has. did.goes_on spec steps None tasks (of_setup_later spec None old.past mid.past so_far.hands all) (left_before spec steps tasks all has);
  }

  cancels_skip : hand mid.past count ≡ None → SessionsCancelled old mid (count + 1)
  cancels_skip none = record {
    rest = so_far.rest;
    terms = so_far.terms;
    closed_same = so_far.closed_same;
    none_below = below_one_more mid.past count so_far.none_below none;
    hands = so_far.hands;
    failed = so_far.failed;
    goes_on = λ spec steps tasks all has. let before = left_before spec steps tasks all has in record { as_due = before.as_due; comes_to = before.comes_to ∙ rw none refl };
  }

  pub cancels_go_on : (new : Ran) (cancelled : Bool) → CancelsIfBusy mid new count cancelled → SessionsCancelled old new (count + 1)
  cancels_go_on new true did = cancels_one new did
  cancels_go_on new false did = subst (λ (ran : Ran). SessionsCancelled old ran (count + 1)) (sym did.same) (cancels_skip did.none)

-- ---- teardown blocks

pub teardowns_begin : (spec : Spec) (which : Teardowns) (ran : Ran) → IsAtRest ran → IsNoneBusy ran.past → TeardownsRan spec ran ran (each_block spec (is_of which)) (tasks_from spec (is_of which) 0)
teardowns_begin spec which ran rest none = record {
  rest = rest;
  terms = refl;
  none_busy = none;
  closed_same = λ s. refl;
  failed = refl;
  goes_on = λ steps tasks has. has;
}

pub teardowns_then : (spec : Spec) (old mid new : Ran) (a b c : List Task) → TeardownsRan spec old mid a b → TeardownsRan spec mid new b c → TeardownsRan spec old new a c
teardowns_then spec old mid new a b c first then = record {
  rest = then.rest;
  terms = then.terms ∙ first.terms;
  none_busy = then.none_busy;
  closed_same = λ s. then.closed_same s ∙ first.closed_same s;
  failed = then.failed ∙ first.failed;
  goes_on = λ steps tasks has. then.goes_on steps tasks (first.goes_on steps tasks has);
}

pub teardowns_end : (spec : Spec) (which : Teardowns) (old new : Ran) (number : ℕ) → length spec.blocks ≤ number → TeardownsRan spec old new (each_block spec (is_of which)) (tasks_from spec (is_of which) number) → TeardownsRan spec old new (each_block spec (is_of which)) []
teardowns_end spec which old new number le ran = subst (TeardownsRan spec old new (each_block spec (is_of which))) (tasks_end spec (is_of which) number le) ran

not_setup : (which : Teardowns) (block : Block) → is_of which block.part ≡ true → is_setup block.part ≡ false
not_setup which block test = by_part which block.part test where
  by_part : (which : Teardowns) (part : Part) → is_of which part ≡ true → is_setup part ≡ false
  by_part teardowns.OfSessions parts.Setup test = absurd cc
  by_part teardowns.OfSessions parts.SessionSetup test = absurd cc
  by_part teardowns.Main parts.Setup test = absurd cc
  by_part teardowns.Main parts.SessionSetup test = absurd cc
  by_part which parts.Step test = refl
  by_part which parts.SessionTeardown test = refl
  by_part which parts.Teardown test = refl

module _ (spec : Spec) (which : Teardowns) (old : Ran) (number : ℕ) (block : Block) (there : slice_get spec.blocks number ≡ Some block) where
  pub teardown_skips : is_of which block.part ≡ false → IsAtRest old → IsNoneBusy old.past → TeardownsRan spec old old (tasks_from spec (is_of which) number) (tasks_from spec (is_of which) (number + 1))
  teardown_skips part rest none = record {
    rest = rest;
    terms = refl;
    none_busy = none;
    closed_same = λ s. refl;
    failed = refl;
    goes_on = λ steps tasks has. subst (λ (ts : List Task). HasLeft spec steps old.past (ts ++ tasks)) (tasks_skip spec (is_of which) number block there part) has;
  }

  pub teardown_ran : is_of which block.part ≡ true → (new : Ran) (failed : Bool) → HasRunWhole old new block.session number failed → TeardownsRan spec old new (tasks_from spec (is_of which) number) (tasks_from spec (is_of which) (number + 1))
  teardown_ran part new failed did =
      let none = of_setup_not spec number block there (not_setup which block part) in
      record {
        rest = did.rest;
        terms = did.terms;
        none_busy = did.none_busy;
        closed_same = did.closed_same;
        failed = did.fails spec ∙ ap (λ (o : Option ℕ). failed_by (failed_setup spec old.past) o failed) none ∙ failed_none (failed_setup spec old.past) failed;
        goes_on = λ steps tasks has.
            let rest_left = tasks_from spec (is_of which) (number + 1) ++ tasks in
            let here = subst (λ (ts : List Task). HasLeft spec steps old.past (ts ++ tasks)) (tasks_here spec (is_of which) number block there part) has in
            let after = did.goes_on spec steps rest_left (session_of_block spec number block there) here in
            subst (HasLeft spec steps new.past) (ap (λ (o : Option ℕ). left_when spec o failed rest_left) none ∙ left_none spec failed rest_left) after;
      }

-- ---- closes

idle_none : (past : Past) → IsNoneBusy past → IsIdle past
idle_none past none = λ s. rw (none s) refl

-- one session closed
closes_one : (spec : Spec) (steps : List ℕ) (old new : Ran) (s : ℕ) (tasks : List Task) → IsClosed old new s → HasLeft spec steps old.past (CloseSession s ∷ tasks) → HasLeft spec steps new.past tasks
closes_one spec steps old new s tasks did has =
    let quietly = quietly_aborted _ _ _ did.is_aborted in
    let hands : (r : ℕ) → hand did.aborted r ≡ hand old.past r = λ r. rw did.is at (did.hands r) in
    let same : next_move spec did.aborted (left spec steps did.aborted) ≡ next_move spec old.past (left spec steps old.past) = ap (next_move spec did.aborted) (left_aborted spec steps _ _ _ did.is_aborted) ∙ moves_same spec did.aborted old.past (left spec steps old.past) hands in
    let due_so : due spec steps did.aborted ≡ Some (Close s) = ap (option_map (λ (move : Move). move.entry)) (same ∙ has.comes_to) in
    record {
      as_due = rw did.is (due_so, quietly.as_due spec steps has.as_due);
      comes_to = ap (next_move spec new.past) (did.left_is spec steps ∙ then_left spec steps old.past (CloseSession s ∷ tasks) has (record { entry = Close s; then_left = tasks }) refl);
    }

pub closes_begin : (ran : Ran) (first : ℕ) → IsAtRest ran → IsNoneBusy ran.past → SessionsClosed ran ran first first
closes_begin ran first rest none = record {
  rest = rest;
  terms = refl;
  none_busy = none;
  closed_now = λ s from below. absurd (omega arith);
  closed_same = λ s apart. refl;
  failed = λ spec. refl;
  goes_on = λ spec steps tasks count n has. let zero_left : count ≡ 0 = omega arith in rw zero_left at has;
}

pub closes_go_on : (old mid new : Ran) (first session : ℕ) → first ≤ session → SessionsClosed old mid first session → IsLegalRun new → IsClosed mid new session → SessionsClosed old new first (session + 1)
closes_go_on old mid new first session le so_far legal did =
    let none : IsNoneBusy new.past = λ s. did.hands s ∙ so_far.none_busy s in
    record {
      rest = record { legal = legal; in_turn = did.in_turn so_far.rest.in_turn; idle = idle_none new.past none };
      terms = did.terms ∙ so_far.terms;
      none_busy = none;
      closed_now = λ s from below. did.closed_now s ∙ here s from below (eqb_tells session s);
      closed_same = λ s apart. did.closed_now s ∙ rw (other s apart) (so_far.closed_same s (nearer s apart));
      failed = λ spec. did.failed spec ∙ so_far.failed spec;
      goes_on = λ spec steps tasks count n has. one_more spec steps tasks count n has;
    } where
      here : (s : ℕ) → first ≤ s → s < session + 1 → ((eqb session s ≡ true) × (session ≡ s)) ⊎ ((eqb session s ≡ false) × (session ≢ s)) → cond (session == s) true (closed mid.past s) ≡ true
      here s from below (inl e) = rw e.0 refl
      here s from below (inr e) = let apart : session ≢ s = e.1 in rw e.0 (so_far.closed_now s from (omega arith))

      other : (s : ℕ) → (s < first) ⊎ (session + 1 ≤ s) → (session == s) ≡ false
      other s (inl lt) = ne_eqb session s (λ e. omega arith)
      other s (inr ge) = ne_eqb session s (λ e. omega arith)

      nearer : (s : ℕ) → (s < first) ⊎ (session + 1 ≤ s) → (s < first) ⊎ (session ≤ s)
      nearer s (inl lt) = inl lt
      nearer s (inr ge) = inr (omega arith)

      one_more : (spec : Spec) (steps : List ℕ) (tasks : List Task) (count : ℕ) → first + count ≡ session + 1 → HasLeft spec steps old.past (each_session CloseSession (sessions_from first count) ++ tasks) → HasLeft spec steps new.past tasks
      one_more spec steps tasks zero n has = absurd (omega arith)
      one_more spec steps tasks (suc count) n has =
          let at : first + count ≡ session = omega arith in
          let list = each_more CloseSession first count tasks ∙ ap (λ (m : ℕ). each_session CloseSession (sessions_from first count) ++ CloseSession m ∷ tasks) at in
          closes_one spec steps mid new session tasks did (so_far.goes_on spec steps (CloseSession session ∷ tasks) count at (subst (HasLeft spec steps old.past) list has))

-- ---- the end

pub ends_failed : (spec : Spec) (steps : List ℕ) (old new : Ran) (block end : ℕ) → end ≡ length spec.sessions + 1 → SetupFailed spec old block → SessionsClosed old new 0 end → IsEnded spec new steps (setups.Failed block)
ends_failed spec steps old new block end n failed did = record {
  rest = did.rest;
  has_left = did.goes_on spec steps [] (suc (length spec.sessions)) (omega arith) (subst (HasLeft spec steps old.past) (sym (append-nil _)) (failed.has_left steps));
  all_closed = λ s le. did.closed_now s (omega arith) (omega arith);
  failed = did.failed spec ∙ failed.failed;
}

-- after the cancels no session is busy
module _ (spec : Spec) (steps : List ℕ) (a b : Ran) (end : ℕ) (n : end ≡ length spec.sessions + 1) (steps_ran : StepsRan spec steps a) (cancelled : SessionsCancelled a b end) where
  pub none_after_cancels : IsNoneBusy b.past
  none_after_cancels = λ s. by_order s (leb_tells s (length spec.sessions)) where
    by_order : (s : ℕ) → ((leb s (length spec.sessions) ≡ true) × (s ≤ length spec.sessions)) ⊎ ((leb s (length spec.sessions) ≡ false) × (length spec.sessions < s)) → hand b.past s ≡ None
    by_order s (inl e) = let le : s ≤ length spec.sessions = e.1 in cancelled.none_below s (omega arith)
    by_order s (inr e) = stays_none (hand a.past s) (hand b.past s) (cancelled.hands s) (steps_ran.none_beyond s e.1)

  pub open_after_cancels : IsAnyOpen b.past
  open_after_cancels = λ s. cancelled.closed_same s ∙ steps_ran.any_open s

  pub open_for_sessions : AreOpenFor spec teardowns.OfSessions b.past
  open_for_sessions = λ number block there test. open_after_cancels block.session

  left_after_cancels : HasLeft spec steps b.past (after_cancels spec)
  left_after_cancels = cancelled.goes_on spec steps (after_cancels spec) steps_ran.plain (subst (λ (k : ℕ). HasLeft spec steps a.past (each_session CancelIfBusy (sessions_from 0 k) ++ after_cancels spec)) (let m : suc (length spec.sessions) ≡ end = omega arith in m) steps_ran.has_left)

  module _ (c d : Ran) (down : TeardownsRan spec b c (each_block spec (is_of teardowns.OfSessions)) []) (closed_most : SessionsClosed c d 1 end) where
    pub open_before_closes : IsAnyOpen c.past
    open_before_closes = λ s. down.closed_same s ∙ open_after_cancels s

    control_open : closed d.past 0 ≡ false
    control_open = closed_most.closed_same 0 (inl (omega arith)) ∙ open_before_closes 0

    pub open_for_main : IsSound spec → AreOpenFor spec teardowns.Main d.past
    open_for_main sound = λ number block there test. subst (λ (s : ℕ). closed d.past s ≡ false) (sym (teardown_session spec number block sound there test)) control_open

    module _ (e : Ran) (main_down : TeardownsRan spec d e (each_block spec (is_of teardowns.Main)) []) where
      pub control_still_open : closed e.past 0 ≡ false
      control_still_open = main_down.closed_same 0 ∙ control_open

      pub ends_done : (f : Ran) → SessionsClosed e f 0 1 → IsEnded spec f steps setups.Done
      ends_done f last = record {
        rest = last.rest;
        has_left =
            let in_teardowns = down.goes_on steps (after_teardowns spec) left_after_cancels in
            let in_closes = closed_most.goes_on spec steps (after_closes spec) (length spec.sessions) (omega arith) in_teardowns in
            let in_main = main_down.goes_on steps (CloseSession 0 ∷ []) in_closes in
            last.goes_on spec steps [] 1 refl in_main;
        all_closed = λ s le. closed_at s le;
        failed = last.failed spec ∙ main_down.failed ∙ closed_most.failed spec ∙ down.failed ∙ cancelled.failed spec steps_ran.plain ∙ steps_ran.failed;
      } where
        closed_at : (s : ℕ) → s ≤ length spec.sessions → closed f.past s ≡ true
        closed_at zero le = last.closed_now 0 (omega arith) (omega arith)
        closed_at (suc s) le = last.closed_same (suc s) (inr (omega arith)) ∙ main_down.closed_same (suc s) ∙ closed_most.closed_now (suc s) (omega arith) (omega arith)

setup_back : (setup : Setup) → setup ≡ setup_by (failed_block setup)
setup_back setups.Done = refl
setup_back (setups.Failed block) = refl

-- the run as a whole
is_run : (spec : Spec) (terms : Terms) (number : ℕ) (steps : List ℕ) (setup : Setup) (ran : Ran) (history : Kept) → ran.terms ≡ terms → past_of history ≡ ran.past → IsEnded spec ran steps setup → IsRun spec terms number steps (record { permutation = number; setup = setup; history = history })
is_run spec terms number steps setup ran history same journal over =
    record {
      permutation = refl;
      legal = rw (journal, ← same) over.rest.legal;
      whole = rw (journal, ← same) (record {
        as_due = over.has_left.as_due;
        in_turn = over.rest.in_turn;
        all_done = ap (option_map (λ (move : Move). move.entry)) over.has_left.comes_to;
        all_closed = over.all_closed;
      });
      holding = hold_always terms _;
      setup = setup_back setup ∙ rw (journal, over.failed) refl;
    }

pub has_run_one : (spec : Spec) (scripts : Scripts) (number : ℕ) (steps : List ℕ) (setup : Setup) (ran : Ran) (history : Kept) (back : Scripts) → ran.terms ≡ terms_for spec scripts → past_of history ≡ ran.past → back ≡ ran.terms.scripts → IsEnded spec ran steps setup → HasRunOne spec scripts number steps (record { permutation = number; setup = setup; history = history }) back
has_run_one spec scripts number steps setup ran history back same journal kept over = record {
  is_run = is_run spec (terms_for spec scripts) number steps setup ran history same journal over;
  same = kept ∙ ap (λ (terms : Terms). terms.scripts) same;
}
