-- Turns of the sessions, until none can go on.
use Rattle.std.proofs.Common.{◌≡◌, ℕ, List, ◌∷◌, ap, refl, subst, Option, Some, None, Bool, true, false, ◌∙◌, inl, inr}
use Rattle.std.specs.Prelude.{◌⊎◌, ◌||◌, ◌==◌, ◌≢◌, eqb, IsSome}
use Rattle.std.proofs.lemmas.Bool.Decides.{eqb_tells}
use Rattle.al_spec.specs.declared.spec.Spec.{Spec}
use Rattle.al_history.specs.Past.{Past}
use Rattle.al_history.specs.Hand.{hand}
use Rattle.al_history.specs.declared.entry.Entry.TheVariants.{Cancel}
use Rattle.al_history.specs.Whole.{or_else, of_setup, failed_setup, Task, CancelIfBusy, next_move, left_by, left, IsLeast}
use Rattle.al_engine.specs.Ran.{Ran, IsLegalRun, GoesOn, WentOn, Cancels, IsCancelled, failed_after, left_after}
use Rattle.al_app.specs.Runs.{left_when, AreOfSetup, failed_by, HasAnyEnded, WentOnInTurn, HasTurned, IsDriven, IsAtRest, HasRunBlock, with_given, WasCancelled}
use Rattle.al_app.proofs.LeftLemmas.{due_is, then_left, cancels_busy, left_twice}
use Rattle.al_app.proofs.QuietLemmas.{quietly_not, quietly_then, quietly_extended, quietly_after_cancel}

-- ---- one turn

-- the hand of a session, whether it's the one that went on
hand_after : (old new : Past) (session s : ℕ) → (hand new session ≡ None) ⊎ (hand new session ≡ hand old session) → ((r : ℕ) → (session == r) ≡ false → hand new r ≡ hand old r) → (hand new s ≡ None) ⊎ (hand new s ≡ hand old s)
hand_after old new session s own others = by_session (eqb_tells session s) where
  by_session : ((eqb session s ≡ true) × (session ≡ s)) ⊎ ((eqb session s ≡ false) × (session ≢ s)) → (hand new s ≡ None) ⊎ (hand new s ≡ hand old s)
  by_session (inl e) = subst (λ (r : ℕ). (hand new r ≡ None) ⊎ (hand new r ≡ hand old r)) e.1 own
  by_session (inr e) = inr (others s e.0)

-- the setup block that has failed, where the step in hand is of this block
failed_of : (spec : Spec) (failed block part : Option ℕ) (refused : Bool) → IsSome block → (block ≡ None) ⊎ (of_setup spec block ≡ part) → failed_after spec failed block refused ≡ failed_by failed part refused
failed_of spec failed block part refused busy (inl none) = absurd cc
failed_of spec failed block part refused busy (inr is) = rw is refl

-- what is left, after the step in hand of this block
left_of : (spec : Spec) (tasks : List Task) (block part : Option ℕ) (refused : Bool) → IsSome block → (block ≡ None) ⊎ (of_setup spec block ≡ part) → left_after spec block refused tasks ≡ left_when spec part refused tasks
left_of spec tasks block part refused busy (inl none) = absurd cc
left_of spec tasks block part refused busy (inr is) = rw is refl

refuses_of : (old new : Ran) (session : ℕ) (refused : Bool) (base : (spec : Spec) → List ℕ → List Task) → GoesOn old new session refused → ((spec : Spec) (steps : List ℕ) → left spec steps new.past ≡ left_after spec (hand old.past session) refused (base spec steps)) → (spec : Spec) (steps : List ℕ) (part : Option ℕ) → AreOfSetup spec part old.past → left spec steps new.past ≡ left_when spec part refused (base spec steps)
refuses_of old new session refused base did left_is spec steps part all = left_is spec steps ∙ left_of spec (base spec steps) (hand old.past session) part refused did.in_step (all session)

failed_in : (old new : Ran) (session : ℕ) (refused : Bool) → GoesOn old new session refused → (spec : Spec) (part : Option ℕ) → AreOfSetup spec part old.past → failed_setup spec new.past ≡ failed_by (failed_setup spec old.past) part refused
failed_in old new session refused did spec part all = did.failed spec ∙ failed_of spec (failed_setup spec old.past) (hand old.past session) part refused did.in_step (all session)

pub has_turned : (old new : Ran) (session from to : ℕ) (refused : Bool) → IsLeast old.past session → IsLegalRun new → WentOn old new session from to refused → HasTurned old new refused
has_turned old new session from to refused least legal did =
    record {
      went = record {
        terms = did.goes_on.terms;
        legal = λ before. legal;
        in_turn = did.in_turn least;
        quietly = quietly_extended session old.past new.past did.goes_on.extends did.driven;
        hands = λ s. hand_after old.past new.past session s did.goes_on.own did.goes_on.others;
        any_ended = λ e. (session, did.goes_on.in_step, did.refused_ends e);
        refuses = record {
          failed = failed_in old new session refused did.goes_on;
          left_is = refuses_of old new session refused (λ spec steps. left spec steps old.past) did.goes_on did.left_is;
        };
      };
      fewer = did.fewer_left;
    }

-- ---- turns

pub went_not : (ran : Ran) → WentOnInTurn ran ran false
went_not ran = record {
  terms = refl;
  legal = λ legal. legal;
  in_turn = λ driven. driven;
  quietly = quietly_not ran.past;
  hands = λ s. inr refl;
  any_ended = λ e. absurd cc;
  refuses = record { failed = λ spec part all. refl; left_is = λ spec steps part all. refl };
}

pub none_later : (old mid new : Past) (s : ℕ) → (hand mid s ≡ None) ⊎ (hand mid s ≡ hand old s) → (hand new s ≡ None) ⊎ (hand new s ≡ hand mid s) → (hand new s ≡ None) ⊎ (hand new s ≡ hand old s)
none_later old mid new s first (inl none) = inl none
none_later old mid new s (inl none) (inr same) = inl (same ∙ none)
none_later old mid new s (inr before) (inr same) = inr (same ∙ before)

pub stays_none : (old mid : Option ℕ) → (mid ≡ None) ⊎ (mid ≡ old) → old ≡ None → mid ≡ None
stays_none old mid (inl none) before = none
stays_none old mid (inr same) before = same ∙ before

was_busy : (old mid : Option ℕ) → (mid ≡ None) ⊎ (mid ≡ old) → IsSome mid → IsSome old
was_busy old mid (inl none) busy = absurd cc
was_busy old mid (inr same) busy = rw same at busy

any_ended_then : (old mid new : Past) (r1 r2 : Bool) → ((s : ℕ) → (hand mid s ≡ None) ⊎ (hand mid s ≡ hand old s)) → ((s : ℕ) → (hand new s ≡ None) ⊎ (hand new s ≡ hand mid s)) → (r1 ≡ true → HasAnyEnded old mid) → (r2 ≡ true → HasAnyEnded mid new) → (r1 || r2) ≡ true → HasAnyEnded old new
any_ended_then old mid new true r2 first then ended1 ended2 e = let s = (ended1 refl).0 in (s, (ended1 refl).1, stays_none (hand mid s) (hand new s) (then s) (ended1 refl).2)
any_ended_then old mid new false r2 first then ended1 ended2 e = let s = (ended2 e).0 in (s, was_busy (hand old s) (hand mid s) (first s) (ended2 e).1, (ended2 e).2)

pub of_setup_later : (spec : Spec) (part : Option ℕ) (old new : Past) → ((s : ℕ) → (hand new s ≡ None) ⊎ (hand new s ≡ hand old s)) → AreOfSetup spec part old → AreOfSetup spec part new
of_setup_later spec part old new hands all = λ s. by_hand (hand old s) (hand new s) (hands s) (all s) where
  by_hand : (before now : Option ℕ) → (now ≡ None) ⊎ (now ≡ before) → (before ≡ None) ⊎ (of_setup spec before ≡ part) → (now ≡ None) ⊎ (of_setup spec now ≡ part)
  by_hand before now (inl none) was = inl none
  by_hand before now (inr same) (inl none) = inl (same ∙ none)
  by_hand before now (inr same) (inr is) = inr (rw same is)

or_twice : (failed part : Option ℕ) → or_else (or_else failed part) part ≡ or_else failed part
or_twice None None = refl
or_twice None (Some block) = refl
or_twice (Some block) part = refl

failed_twice : (failed mid part : Option ℕ) (r1 r2 : Bool) → mid ≡ failed_by failed part r1 → failed_by mid part r2 ≡ failed_by failed part (r1 || r2)
failed_twice failed mid part true true is = rw is (or_twice failed part)
failed_twice failed mid part true false is = is
failed_twice failed mid part false true is = rw is refl
failed_twice failed mid part false false is = is

pub went_then : (old mid new : Ran) (r1 r2 : Bool) → WentOnInTurn old mid r1 → WentOnInTurn mid new r2 → WentOnInTurn old new (r1 || r2)
went_then old mid new r1 r2 first then = record {
  terms = then.terms ∙ first.terms;
  legal = λ legal. then.legal (first.legal legal);
  in_turn = λ driven. then.in_turn (first.in_turn driven);
  quietly = quietly_then old.past mid.past new.past first.quietly then.quietly;
  hands = λ s. none_later old.past mid.past new.past s (first.hands s) (then.hands s);
  any_ended = any_ended_then old.past mid.past new.past r1 r2 first.hands then.hands first.any_ended then.any_ended;
  refuses = record {
    failed = λ spec part all. then.refuses.failed spec part (of_setup_later spec part old.past mid.past first.hands all) ∙ failed_twice (failed_setup spec old.past) (failed_setup spec mid.past) part r1 r2 (first.refuses.failed spec part all);
    left_is = λ spec steps part all. then.refuses.left_is spec steps part (of_setup_later spec part old.past mid.past first.hands all) ∙ left_twice spec (left spec steps old.past) (left spec steps mid.past) part r1 r2 (first.refuses.left_is spec steps part all);
  };
}

-- ---- a block, a cancel

pub has_run_block : (old new : Ran) (session block : ℕ) (refused : Bool) → IsAtRest old → hand old.past session ≡ None → IsLegalRun (with_given old session block) → IsDriven (with_given old session block) new refused → HasRunBlock old new session block refused
has_run_block old new session block refused rest idle legal did = record {
  rest = record { legal = did.went.legal legal; in_turn = did.went.in_turn (rest.idle, rest.in_turn); idle = did.idle };
  idle = idle;
  driven = did.went;
}

pub cancelled_as : (old new : Ran) (session : ℕ) (block : Option ℕ) → IsSome block → Cancels old new session block → IsCancelled old new session
cancelled_as old new session None busy did = absurd cc
cancelled_as old new session (Some block) busy did = did

failed_cancelled : (failed mid part : Option ℕ) (refused : Bool) → mid ≡ or_else failed part → failed_by mid part refused ≡ or_else failed part
failed_cancelled failed mid part true is = rw is (or_twice failed part)
failed_cancelled failed mid part false is = is

pub was_cancelled : (old mid new : Ran) (session : ℕ) (refused : Bool) → IsAtRest old → IsLegalRun mid → IsCancelled old mid session → IsDriven mid new refused → WasCancelled old new session
was_cancelled old mid new session refused rest legal did driven =
    let quietly = quietly_then _ _ _ (quietly_after_cancel old mid session did) driven.went.quietly in
    let hands_mid = λ (s : ℕ). hand_after old.past mid.past session s did.goes_on.own did.goes_on.others in
    record {
      rest = record { legal = driven.went.legal legal; in_turn = driven.went.in_turn (did.in_turn rest.idle rest.in_turn); idle = driven.idle };
      terms = driven.went.terms ∙ did.goes_on.terms;
      in_step = did.goes_on.in_step;
      closed_same = quietly.closed_same;
      own = stays_none (hand mid.past session) (hand new.past session) (driven.went.hands session) did.ended;
      hands = λ s. none_later old.past mid.past new.past s (hands_mid s) (driven.went.hands s);
      failed = λ spec part all. driven.went.refuses.failed spec part (of_setup_later spec part old.past mid.past hands_mid all) ∙ failed_cancelled (failed_setup spec old.past) (failed_setup spec mid.past) part refused (failed_in old mid session true did.goes_on spec part all);
      goes_on = λ spec steps part tasks all has.
          let moves = cancels_busy spec old.past session tasks did.goes_on.in_step in
          let rest_left = then_left spec steps old.past (CancelIfBusy session ∷ tasks) has (record { entry = Cancel session; then_left = tasks }) moves in
          let before = refuses_of old mid session true (λ spec steps. left_by (next_move spec old.past (left spec steps old.past))) did.goes_on did.left_is spec steps part all ∙ ap (left_when spec part true) rest_left in
          let after = driven.went.refuses.left_is spec steps part (of_setup_later spec part old.past mid.past hands_mid all) ∙ left_twice spec tasks (left spec steps mid.past) part true refused before in
          record {
            as_due = quietly.as_due spec steps (due_is spec steps old.past (CancelIfBusy session ∷ tasks) has (record { entry = Cancel session; then_left = tasks }) moves, has.as_due);
            comes_to = ap (next_move spec new.past) after;
          };
    }
