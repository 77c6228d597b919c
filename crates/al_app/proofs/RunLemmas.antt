-- The setup part and the steps of a run.
use Rattle.std.proofs.Common.{◌≡◌, ℕ, ◌+◌, ◌≤◌, List, [], ◌∷◌, ◌++◌, length, drop, refl, sym, ap, subst, cond, true, false, Bool, Option, Some, None, arith, ◌∙◌, inl, inr, slice_get, append_assoc}
use Rattle.std.specs.Prelude.{◌==◌, ◌≢◌, ◌⊎◌, ◌||◌, eqb, IsSome}
use Rattle.al_spec.specs.Keeps.{Each}
use Rattle.std.proofs.lemmas.Bool.{ne_eqb}
use Rattle.std.proofs.lemmas.Bool.Decides.{eqb_tells}
use Rattle.al_history.specs.declared.entry.Entry.TheVariants.{Give}
use Rattle.al_spec.specs.declared.spec.Block.{Block}
use Rattle.al_spec.specs.declared.spec.Spec.{Spec}
use Rattle.al_history.specs.Past.{Past}
use Rattle.al_history.specs.Hand.{hand}
use Rattle.al_history.specs.Whole.{is_setup, is_session_teardown, is_teardown, session_for, of_setup, failed_setup, file_sessions, all_sessions, Task, GiveSteps, CancelIfBusy, CloseSession, give_and_cancel, each_block, each_session, agenda, next_move, left, due}
use Rattle.al_engine.specs.Ran.{Ran}
use Rattle.al_spec.specs.Sound.{IsStepAt}
use Rattle.al_app.specs.Runs.{HasLeft, left_when, tasks_from, after_steps, after_setup, AreOfSetup, failed_by, HasAnyEnded, HasRunBlock, WasCancelled, CancelsIfBusy, IsNoneBusy, HasRunWhole, SetupSoFar, SetupGoesOn, InSteps, StepsSoFar, StepsRan}
use Rattle.al_app.proofs.LeftLemmas.{due_is, then_left, left_skips, cancels_none, left_none, drop_at, drop_end, tasks_here, tasks_skip, tasks_end}
use Rattle.al_app.proofs.SpecLemmas.{session_of_block, of_setup_is, step_not_setup}
use Rattle.al_app.proofs.DriveLemmas.{of_setup_later, stays_none}

-- ---- hands after a Give

-- who had no step in hand has none, but for the session that was given one
none_but_given : (old : Past) (session block s : ℕ) → (session == s) ≡ false → hand old s ≡ None → hand (Give session block ∷ old) s ≡ None
none_but_given old session block s other none = rw (other, none) refl

none_besides : (old : Past) (new : Past) (session block : ℕ) → ((s : ℕ) → (hand new s ≡ None) ⊎ (hand new s ≡ hand (Give session block ∷ old) s)) → IsNoneBusy old → (s : ℕ) → (session ≡ s → ⊥) → hand new s ≡ None
none_besides old new session block hands none s apart = stays_none (hand (Give session block ∷ old) s) (hand new s) (hands s) (none_but_given old session block s (ne_eqb session s apart) (none s))

none_with : (new : Past) (session : ℕ) → ((s : ℕ) → (session ≡ s → ⊥) → hand new s ≡ None) → hand new session ≡ None → IsNoneBusy new
none_with new session others own = λ s. by_session s (eqb_tells session s) where
  by_session : (s : ℕ) → ((eqb session s ≡ true) × (session ≡ s)) ⊎ ((eqb session s ≡ false) × (session ≢ s)) → hand new s ≡ None
  by_session s (inl e) = subst (λ (r : ℕ). hand new r ≡ None) e.1 own
  by_session s (inr e) = others s e.1

-- the only step in hand has come to its end
only_ended : (old new : Past) (session block : ℕ) → IsNoneBusy old → HasAnyEnded (Give session block ∷ old) new → hand new session ≡ None
only_ended old new session block none any = by_session (eqb_tells session any.0) where
  by_session : ((eqb session any.0 ≡ true) × (session ≡ any.0)) ⊎ ((eqb session any.0 ≡ false) × (session ≢ any.0)) → hand new session ≡ None
  by_session (inl e) = subst (λ (r : ℕ). hand new r ≡ None) (sym e.1) any.2
  by_session (inr e) = let wrong : IsSome (hand (Give session block ∷ old) any.0) = any.1 in absurd (let gone = rw (none_but_given old session block any.0 e.0 (none any.0)) at wrong in cc)

of_setup_given : (spec : Spec) (part : Option ℕ) (old : Past) (session block : ℕ) → of_setup spec (Some block) ≡ part → AreOfSetup spec part old → AreOfSetup spec part (Give session block ∷ old)
of_setup_given spec part old session block is all = λ s. by_session s (session == s) (all s) where
  by_session : (s : ℕ) (same : Bool) → (hand old s ≡ None) ⊎ (of_setup spec (hand old s) ≡ part) → (cond same (Some block) (hand old s) ≡ None) ⊎ (of_setup spec (cond same (Some block) (hand old s)) ≡ part)
  by_session s true before = inr is
  by_session s false before = before

-- ---- a block that is run whole

-- after a refusal nothing is left to cancel
after_refusal : (spec : Spec) (past : Past) (session : ℕ) (tasks : List Task) (part : Option ℕ) → hand past session ≡ None → next_move spec past (left_when spec part true (CancelIfBusy session ∷ tasks)) ≡ next_move spec past (left_when spec part true tasks)
after_refusal spec past session tasks None none = cancels_none spec past session tasks none
after_refusal spec past session tasks (Some block) none = refl

module _ (old mid : Ran) (session block : ℕ) (none : IsNoneBusy old.past) where
  all_given : (spec : Spec) → AreOfSetup spec (of_setup spec (Some block)) (Give session block ∷ old.past)
  all_given spec = of_setup_given spec (of_setup spec (Some block)) old.past session block refl (λ s. inl (none s))

  module _ (refused : Bool) (did : HasRunBlock old mid session block refused) where
    others_none : (s : ℕ) → (session ≡ s → ⊥) → hand mid.past s ≡ None
    others_none = none_besides old.past mid.past session block did.driven.hands none

    all_mid : (spec : Spec) → AreOfSetup spec (of_setup spec (Some block)) mid.past
    all_mid spec = of_setup_later spec (of_setup spec (Some block)) (Give session block ∷ old.past) mid.past did.driven.hands (all_given spec)

    fails_mid : (spec : Spec) → failed_setup spec mid.past ≡ failed_by (failed_setup spec old.past) (of_setup spec (Some block)) refused
    fails_mid spec = did.driven.refuses.failed spec (of_setup spec (Some block)) (all_given spec)

    module _ (spec : Spec) (steps : List ℕ) (tasks : List Task) (same : session_for spec block ≡ session) (has : HasLeft spec steps old.past (give_and_cancel spec block ++ tasks)) where
      given_due : due spec steps old.past ≡ Some (Give session block)
      given_due = due_is spec steps old.past (give_and_cancel spec block ++ tasks) has (record { entry = Give (session_for spec block) block; then_left = CancelIfBusy (session_for spec block) ∷ tasks }) refl ∙ ap (λ (s : ℕ). Some (Give s block)) same

      given_left : left spec steps (Give session block ∷ old.past) ≡ CancelIfBusy session ∷ tasks
      given_left = then_left spec steps old.past (give_and_cancel spec block ++ tasks) has (record { entry = Give (session_for spec block) block; then_left = CancelIfBusy (session_for spec block) ∷ tasks }) refl ∙ ap (λ (s : ℕ). CancelIfBusy s ∷ tasks) same

      due_mid : HasLeft spec steps mid.past (left_when spec (of_setup spec (Some block)) refused (CancelIfBusy session ∷ tasks))
      due_mid = record {
        as_due = did.driven.quietly.as_due spec steps (given_due, has.as_due);
        comes_to = ap (next_move spec mid.past) (did.driven.refuses.left_is spec steps (of_setup spec (Some block)) (all_given spec) ∙ ap (left_when spec (of_setup spec (Some block)) refused) given_left);
      }

  -- the step wasn't refused, and has ended
  whole_done : HasRunBlock old mid session block false → hand mid.past session ≡ None → HasRunWhole old mid session block false
  whole_done did own = record {
    rest = did.rest;
    terms = did.driven.terms;
    none_busy = none_with mid.past session (others_none false did) own;
    closed_same = did.driven.quietly.closed_same;
    fails = fails_mid false did;
    goes_on = λ spec steps tasks same has. left_skips spec steps mid.past (CancelIfBusy session ∷ tasks) (due_mid false did spec steps tasks same has) tasks (cancels_none spec mid.past session tasks own);
  }

  -- the step was refused
  whole_refused : HasRunBlock old mid session block true → HasRunWhole old mid session block true
  whole_refused did =
      let own = only_ended old.past mid.past session block none (did.driven.any_ended refl) in
      record {
        rest = did.rest;
        terms = did.driven.terms;
        none_busy = none_with mid.past session (others_none true did) own;
        closed_same = did.driven.quietly.closed_same;
        fails = fails_mid true did;
        goes_on = λ spec steps tasks same has. left_skips spec steps mid.past _ (due_mid true did spec steps tasks same has) (left_when spec (of_setup spec (Some block)) true tasks) (after_refusal spec mid.past session tasks (of_setup spec (Some block)) own);
      }

  -- the step waits, and was cancelled
  whole_cancelled : (new : Ran) → HasRunBlock old mid session block false → WasCancelled mid new session → HasRunWhole old new session block true
  whole_cancelled new did cancel = record {
    rest = cancel.rest;
    terms = cancel.terms ∙ did.driven.terms;
    none_busy = none_with new.past session (λ s apart. stays_none (hand mid.past s) (hand new.past s) (cancel.hands s) (others_none false did s apart)) cancel.own;
    closed_same = λ s. cancel.closed_same s ∙ did.driven.quietly.closed_same s;
    fails = λ spec. cancel.failed spec (of_setup spec (Some block)) (all_mid false did spec) ∙ rw (fails_mid false did spec) refl;
    goes_on = λ spec steps tasks same has. cancel.goes_on spec steps (of_setup spec (Some block)) tasks (all_mid false did spec) (due_mid false did spec steps tasks same has);
  }

  pub has_run_whole : (new : Ran) (refused cancelled : Bool) → HasRunBlock old mid session block refused → CancelsIfBusy mid new session cancelled → HasRunWhole old new session block (refused || cancelled)
  has_run_whole new true true did cancel =
      let gone = (whole_refused did).none_busy session in
      let busy = rw gone at cancel.in_step in
      absurd cc
  has_run_whole new true false did unchanged = subst (λ (ran : Ran). HasRunWhole old ran session block true) (sym unchanged.same) (whole_refused did)
  has_run_whole new false true did cancel = whole_cancelled new did cancel
  has_run_whole new false false did unchanged = subst (λ (ran : Ran). HasRunWhole old ran session block false) (sym unchanged.same) (whole_done did unchanged.none)

-- ---- the setup part

six : (a b c d e f : List Task) → a ++ b ++ c ++ d ++ e ++ f ≡ a ++ (b ++ (c ++ (d ++ (e ++ f))))
six a b c d e f = append_assoc (a ++ b ++ c ++ d) e f ∙ append_assoc (a ++ b ++ c) d (e ++ f) ∙ append_assoc (a ++ b) c (d ++ (e ++ f)) ∙ append_assoc a b (c ++ (d ++ (e ++ f)))

agenda_is : (spec : Spec) (steps : List ℕ) → agenda spec steps ≡ tasks_from spec is_setup 0 ++ after_setup spec steps
agenda_is spec steps = six (each_block spec is_setup) (GiveSteps steps ∷ each_session CancelIfBusy (all_sessions spec)) (each_block spec is_session_teardown) (each_session CloseSession (file_sessions spec)) (each_block spec is_teardown) (CloseSession 0 ∷ [])

pub setup_begins : (spec : Spec) (ran : Ran) → ran.past ≡ [] → SetupSoFar spec ran 0
setup_begins spec ran none = record {
  rest = record { legal = rw none tt; in_turn = rw none tt; idle = rw none (λ s. refl) };
  none_busy = rw none (λ s. refl);
  any_open = rw none (λ s. refl);
  failed = rw none refl;
  has_left = λ steps. rw none (record { as_due = tt; comes_to = ap (next_move spec []) (agenda_is spec steps) });
}

module _ (spec : Spec) (old : Ran) (number : ℕ) (block : Block) (there : slice_get spec.blocks number ≡ Some block) (so_far : SetupSoFar spec old number) where
  -- a block of another part
  pub setup_skips : is_setup block.part ≡ false → SetupSoFar spec old (number + 1)
  setup_skips part = record {
    rest = so_far.rest;
    none_busy = so_far.none_busy;
    any_open = so_far.any_open;
    failed = so_far.failed;
    has_left = λ steps. subst (λ (ts : List Task). HasLeft spec steps old.past (ts ++ after_setup spec steps)) (tasks_skip spec is_setup number block there part) (so_far.has_left steps);
  }

  module _ (setup : is_setup block.part ≡ true) where
    left_here : (steps : List ℕ) → HasLeft spec steps old.past (give_and_cancel spec number ++ (tasks_from spec is_setup (number + 1) ++ after_setup spec steps))
    left_here steps = subst (λ (ts : List Task). HasLeft spec steps old.past (ts ++ after_setup spec steps)) (tasks_here spec is_setup number block there setup) (so_far.has_left steps)

    pub setup_goes_on : (new : Ran) (failed : Bool) → HasRunWhole old new block.session number failed → SetupGoesOn spec new number failed
    setup_goes_on new true did = record {
      rest = did.rest;
      none_busy = did.none_busy;
      any_open = λ s. did.closed_same s ∙ so_far.any_open s;
      failed = did.fails spec ∙ rw (so_far.failed, of_setup_is spec number block there setup) refl;
      has_left = λ steps. subst (λ (part : Option ℕ). HasLeft spec steps new.past (left_when spec part true (tasks_from spec is_setup (number + 1) ++ after_setup spec steps))) (of_setup_is spec number block there setup) (did.goes_on spec steps _ (session_of_block spec number block there) (left_here steps));
    }
    setup_goes_on new false did = record {
      rest = did.rest;
      none_busy = did.none_busy;
      any_open = λ s. did.closed_same s ∙ so_far.any_open s;
      failed = did.fails spec ∙ so_far.failed;
      has_left = λ steps. did.goes_on spec steps _ (session_of_block spec number block there) (left_here steps);
    }

-- ---- the steps of a permutation

pub steps_begin : (spec : Spec) (steps : List ℕ) (ran : Ran) → SetupSoFar spec ran (length spec.blocks) → StepsSoFar spec steps ran 0
steps_begin spec steps ran done = record {
  rest = done.rest;
  any_open = done.any_open;
  failed = done.failed;
  plain = λ s. inl (done.none_busy s);
  none_beyond = λ s lt. done.none_busy s;
  has_left = subst (λ (ts : List Task). HasLeft spec steps ran.past (ts ++ after_setup spec steps)) (tasks_end spec is_setup (length spec.blocks) (omega arith)) (done.has_left steps);
}

with_left : (spec : Spec) (steps : List ℕ) (ran : Ran) (tasks others : List Task) → InSteps spec steps ran tasks → next_move spec ran.past tasks ≡ next_move spec ran.past others → InSteps spec steps ran others
with_left spec steps ran tasks others now same = record {
  rest = now.rest;
  any_open = now.any_open;
  failed = now.failed;
  plain = now.plain;
  none_beyond = now.none_beyond;
  has_left = left_skips spec steps ran.past tasks now.has_left others same;
}

module _ (spec : Spec) (steps : List ℕ) (old : Ran) (at : ℕ) (so_far : StepsSoFar spec steps old at) where
  pub steps_end : length steps ≤ at → StepsRan spec steps old
  steps_end le = with_left spec steps old (GiveSteps (drop at steps) ∷ after_steps spec) (after_steps spec) so_far (rw (drop_end steps at le) refl)

  module _ (step : ℕ) (block : Block) (is : slice_get steps at ≡ Some step) (there : slice_get spec.blocks step ≡ Some block) where
    next_is : GiveSteps (drop at steps) ∷ after_steps spec ≡ GiveSteps (step ∷ drop (at + 1) steps) ∷ after_steps spec
    next_is = ap (λ (ns : List ℕ). GiveSteps ns ∷ after_steps spec) (drop_at steps at step is)

    now_next : InSteps spec steps old (GiveSteps (step ∷ drop (at + 1) steps) ∷ after_steps spec)
    now_next = subst (InSteps spec steps old) next_is so_far

    -- the step's session is busy
    pub steps_stop : IsSome (hand old.past block.session) → StepsRan spec steps old
    steps_stop busy = with_left spec steps old _ (after_steps spec) now_next (rw (session_of_block spec step block there, busy) refl)

    -- the step was given and the run driven
    pub steps_go_on : (new : Ran) (refused : Bool) → Each (IsStepAt spec.blocks) steps → block.session ≤ length spec.sessions → HasRunBlock old new block.session step refused → StepsSoFar spec steps new (at + 1)
    steps_go_on new refused all known did =
        let session = session_of_block spec step block there in
        let none_of_setup = step_not_setup spec steps at step block all is there in
        let plain_given = of_setup_given spec None old.past block.session step none_of_setup so_far.plain in
        let has = now_next.has_left in
        let move : next_move spec old.past (GiveSteps (step ∷ drop (at + 1) steps) ∷ after_steps spec) ≡ Some (record { entry = Give block.session step; then_left = GiveSteps (drop (at + 1) steps) ∷ after_steps spec }) = rw (session, did.idle) refl in
        let due_so = due_is spec steps old.past _ has _ move in
        let rest_left = then_left spec steps old.past _ has _ move in
        record {
          rest = did.rest;
          any_open = λ s. did.driven.quietly.closed_same s ∙ so_far.any_open s;
          failed = did.driven.refuses.failed spec None plain_given ∙ rw so_far.failed (by_refused refused);
          plain = of_setup_later spec None (Give block.session step ∷ old.past) new.past did.driven.hands plain_given;
          none_beyond = λ s lt. stays_none (hand (Give block.session step ∷ old.past) s) (hand new.past s) (did.driven.hands s) (none_but_given old.past block.session step s (ne_eqb block.session s (λ e. omega arith)) (so_far.none_beyond s lt));
          has_left = record {
            as_due = did.driven.quietly.as_due spec steps (due_so, has.as_due);
            comes_to = ap (next_move spec new.past) (did.driven.refuses.left_is spec steps None plain_given ∙ left_none spec refused _ ∙ rest_left);
          };
        } where
          by_refused : (refused : Bool) → failed_by None None refused ≡ None
          by_refused true = refl
          by_refused false = refl
