-- What the driver does next, on small pasts.
use Rattle.std.specs.Prelude.{◌≡◌, [], ◌∷◌, Some, None, codes, refl}
use Rattle.al_statements.specs.declared.cause.Cause.TheVariants as causes
use Rattle.al_history.specs.declared.entry.Entry.TheVariants.{Give, Refuse, Cancel, End, Close}
use Rattle.al_spec.specs.declared.spec.Part.TheVariants as parts
use Rattle.al_spec.specs.declared.spec.Spec.{Spec}
use Rattle.al_history.specs.Past.{Past}
use Rattle.al_history.specs.Whole.{due, AsDue}

-- two setup blocks, two steps of the first session, and one of the second
abbrev two_sessions : Spec
two_sessions = record {
  sessions = codes "s1" ∷ codes "s2" ∷ [];
  blocks =
      record { part = parts.Setup; session = 0; name = []; text = [] }
      ∷ record { part = parts.Setup; session = 0; name = []; text = [] }
      ∷ record { part = parts.Step; session = 1; name = codes "a"; text = [] }
      ∷ record { part = parts.Step; session = 1; name = codes "b"; text = [] }
      ∷ record { part = parts.Step; session = 2; name = codes "c"; text = [] }
      ∷ [];
  permutations = (2 ∷ 3 ∷ 4 ∷ []) ∷ (2 ∷ 4 ∷ []) ∷ [];
}

abbrev set_up : Past
set_up = End 0 ∷ Give 0 1 ∷ End 0 ∷ Give 0 0 ∷ []

-- ---- the setup part

first_setup_block : due two_sessions (2 ∷ []) [] ≡ Some (Give 0 0)
first_setup_block = refl

next_setup_block : due two_sessions (2 ∷ []) (End 0 ∷ Give 0 0 ∷ []) ≡ Some (Give 0 1)
next_setup_block = refl

waiting_setup_block : due two_sessions (2 ∷ []) (Give 0 0 ∷ []) ≡ Some (Cancel 0)
waiting_setup_block = refl

abbrev failed : Past
failed = End 0 ∷ Refuse 0 (causes.Cancelled 1) ∷ Cancel 0 ∷ Give 0 0 ∷ []

-- a setup part that failed: all sessions are closed in ascending order
after_failed : due two_sessions (2 ∷ []) failed ≡ Some (Close 0)
after_failed = refl

after_failed_first : due two_sessions (2 ∷ []) (Close 0 ∷ failed) ≡ Some (Close 1)
after_failed_first = refl

after_failed_last : due two_sessions (2 ∷ []) (Close 2 ∷ Close 1 ∷ Close 0 ∷ failed) ≡ None
after_failed_last = refl

-- ---- the steps of a permutation

first_step : due two_sessions (2 ∷ 3 ∷ 4 ∷ []) set_up ≡ Some (Give 1 2)
first_step = refl

-- the first step waits: another session's step is given,
waits_beside : due two_sessions (2 ∷ 4 ∷ []) (Give 1 2 ∷ set_up) ≡ Some (Give 2 4)
waits_beside = refl

-- but none for the session that waits: its step is cancelled,
step_for_busy : due two_sessions (2 ∷ 3 ∷ 4 ∷ []) (Give 1 2 ∷ set_up) ≡ Some (Cancel 1)
step_for_busy = refl

-- and that ends the list
after_cancel : due two_sessions (2 ∷ 3 ∷ 4 ∷ []) (End 1 ∷ Refuse 1 (causes.Cancelled 5) ∷ Cancel 1 ∷ Give 1 2 ∷ set_up) ≡ Some (Close 1)
after_cancel = refl

-- a step that has ended lets the next one come
after_end : due two_sessions (2 ∷ 3 ∷ 4 ∷ []) (End 1 ∷ Give 1 2 ∷ set_up) ≡ Some (Give 1 3)
after_end = refl

-- ---- the end

abbrev both_wait : Past
both_wait = Give 2 4 ∷ Give 1 2 ∷ set_up

least_cancelled : due two_sessions (2 ∷ 4 ∷ []) both_wait ≡ Some (Cancel 1)
least_cancelled = refl

abbrev one_cancelled : Past
one_cancelled = End 1 ∷ Refuse 1 (causes.Cancelled 6) ∷ Cancel 1 ∷ both_wait

next_cancelled : due two_sessions (2 ∷ 4 ∷ []) one_cancelled ≡ Some (Cancel 2)
next_cancelled = refl

-- what was waited for has come: there is nothing to cancel
none_cancelled : due two_sessions (2 ∷ 4 ∷ []) (End 2 ∷ one_cancelled) ≡ Some (Close 1)
none_cancelled = refl

next_closed : due two_sessions (2 ∷ 4 ∷ []) (Close 1 ∷ End 2 ∷ one_cancelled) ≡ Some (Close 2)
next_closed = refl

control_closed_last : due two_sessions (2 ∷ 4 ∷ []) (Close 2 ∷ Close 1 ∷ End 2 ∷ one_cancelled) ≡ Some (Close 0)
control_closed_last = refl

all_done : due two_sessions (2 ∷ 4 ∷ []) (Close 0 ∷ Close 2 ∷ Close 1 ∷ End 2 ∷ one_cancelled) ≡ None
all_done = refl

-- ---- what a driver did

did_as_due : AsDue two_sessions (2 ∷ 4 ∷ []) (Close 0 ∷ Close 2 ∷ Close 1 ∷ End 2 ∷ one_cancelled)
did_as_due = (refl, (refl, (refl, (refl, (refl, (refl, (refl, (refl, tt))))))))

-- the greatest is cancelled first
greatest_cancelled : AsDue two_sessions (2 ∷ 4 ∷ []) (Cancel 2 ∷ both_wait) → ⊥
greatest_cancelled a = cc a.0

-- a step is left out
step_left_out : AsDue two_sessions (2 ∷ 4 ∷ []) (Close 1 ∷ End 1 ∷ Give 1 2 ∷ set_up) → ⊥
step_left_out a = cc a.0

-- a step is cancelled while another one can be given
cancelled_early : AsDue two_sessions (2 ∷ 4 ∷ []) (Cancel 1 ∷ Give 1 2 ∷ set_up) → ⊥
cancelled_early a = cc a.0

-- a step is given after a cancel
given_after_cancel : AsDue two_sessions (2 ∷ 3 ∷ 4 ∷ []) (Give 1 3 ∷ End 1 ∷ Refuse 1 (causes.Cancelled 5) ∷ Cancel 1 ∷ Give 1 2 ∷ set_up) → ⊥
given_after_cancel a = cc a.0

-- a step is given twice
given_twice : AsDue two_sessions (2 ∷ 4 ∷ []) (Give 1 2 ∷ End 1 ∷ Give 1 2 ∷ set_up) → ⊥
given_twice a = cc a.0

-- the control session is closed first, though the setup part didn't fail
control_closed_first : AsDue two_sessions [] (Close 0 ∷ set_up) → ⊥
control_closed_first a = cc a.0

-- a step is given after a setup part that failed
given_after_failed : AsDue two_sessions (2 ∷ []) (Give 1 2 ∷ failed) → ⊥
given_after_failed a = cc a.0
