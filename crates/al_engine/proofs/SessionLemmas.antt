-- Laws of the sessions that are kept.
use Rattle.std.proofs.Common.{◌≡◌, ℕ, zero, suc, ◌+◌, ◌<◌, ◌≤◌, List, [], ◌∷◌, length, refl, sym, ap, cond, true, false, Bool, Option, Some, None, arith, ◌∙◌, inl, inr, slice_get, slice_set, replicate, get_or}
use Rattle.std.specs.Prelude.{◌==◌, ◌≢◌, ◌⊎◌, ◌&&◌, ◌||◌, not, is_some, IfSome, IfNone, option_map, option_and_then}
use Rattle.std.proofs.lemmas.Bool.{eqb-true, ne_eqb}
use Rattle.std.proofs.lemmas.Option.{slice_get_within}
use Rattle.al_history.specs.declared.entry.Entry.TheVariants.{Give, Start, Wait, Commit, Abort, End}
use Rattle.al_history.specs.declared.entry.Want.{Want}
use Rattle.al_history.specs.declared.entry.Want.TheVariants as wants
use Rattle.al_history.specs.declared.statement.Statement.{Statement}
use Rattle.al_history.specs.declared.statement.Statement.TheVariants as statements
use Rattle.al_history.specs.declared.statement.Terms.{Terms}
use Rattle.al_history.specs.Past.{Past, past_of}
use Rattle.al_history.specs.Fate.{fate, is_that}
use Rattle.al_history.specs.Hand.{hand, dones, in_hand, statement_of, xact_of, session_of, block_state}
use Rattle.al_history.specs.Locks.{Claim, waiting, is_held}
use Rattle.al_history.specs.Made.{made_by}
use Rattle.al_history.specs.Need.{makers, first_open, name_taker}
use Rattle.al_history.specs.Rules.{starts}
use Rattle.al_history.specs.Waits.{wanted_by, is_open, is_blocked, can_go_on}
use Rattle.al_history.specs.Whole.{IsIdle, IsLeast}
use Rattle.al_history.specs.Legal.{Legal}
use Rattle.al_history.proofs.Doings.{doing}
use Rattle.al_history.proofs.Xacts.{is_start}
use Rattle.al_history.proofs.Makers.{Each, Began}
use Rattle.al_engine.specs.declared.sessions.Session.{Session}
use Rattle.al_engine.specs.Ran.{IsReady}
use Rattle.al_engine.specs.LockTie.{WantsSo}
use Rattle.al_engine.specs.Sessions.{IsMirror, idle_session, is_open_in, is_held_up, can_go, AreStuck, IsFirstReady, xacts_in, light_of, light}
use Rattle.al_engine.specs.Stored.{is_among}
use Rattle.al_engine.specs.Kept.{Parts, IsKept}
use Rattle.al_engine.proofs.StoredLemmas.{makers_began_of, among_open}
use Rattle.al_engine.proofs.Wanted.{blocked_by_lock}

-- ---- light entries

-- what is reserved for one session is part of what is reserved for all
pub light_at : (sessions : List Session) (s : ℕ) (t : Session) → slice_get sessions s ≡ Some t → light_of t ≤ light sessions
light_at [] s t is = absurd cc
light_at (u ∷ sessions) zero t is = let e : u ≡ t = cc in rw (← e) (omega arith)
light_at (u ∷ sessions) (suc s) t is = omega (arith, light_at sessions s t is)

-- what is reserved after one session has changed
pub light_set : (sessions : List Session) (s : ℕ) (t u : Session) → slice_get sessions s ≡ Some t → light (slice_set sessions s u) + light_of t ≡ light sessions + light_of u
light_set [] s t u is = absurd cc
light_set (v ∷ sessions) zero t u is = let e : v ≡ t = cc in rw e (omega arith)
light_set (v ∷ sessions) (suc s) t u is = omega (arith, light_set sessions s t u is)

pub light_idle : (count : ℕ) → light (replicate count idle_session) ≡ count
light_idle zero = refl
light_idle (suc count) = omega (arith, light_idle count)

-- ---- one of the sessions

-- a session after one has changed is the changed one, or another as it was
pub got_set : (sessions : List Session) (s r : ℕ) (u t : Session) → slice_get (slice_set sessions s u) r ≡ Some t → ((s ≡ r) × (u ≡ t)) ⊎ (((s == r) ≡ false) × (slice_get sessions r ≡ Some t))
got_set sessions s r u t is = by_case (got sessions s r is) where
  got : (sessions : List Session) (s r : ℕ) → slice_get (slice_set sessions s u) r ≡ Some t → ((s ≡ r) × (u ≡ t)) ⊎ ((s ≢ r) × (slice_get sessions r ≡ Some t))
  got [] s r is = absurd cc
  got (v ∷ sessions) zero zero is = inl (refl, cc)
  got (v ∷ sessions) zero (suc r) is = inr ((λ (e : zero ≡ suc r). omega arith), is)
  got (v ∷ sessions) (suc s) zero is = inr ((λ (e : suc s ≡ zero). omega arith), is)
  got (v ∷ sessions) (suc s) (suc r) is = one_on s r (got sessions s r is) where
    one_on : (s r : ℕ) → ((s ≡ r) × (u ≡ t)) ⊎ ((s ≢ r) × (slice_get sessions r ≡ Some t)) → ((suc s ≡ suc r) × (u ≡ t)) ⊎ ((suc s ≢ suc r) × (slice_get sessions r ≡ Some t))
    one_on s r (inl e) = inl (ap suc e.0, e.1)
    one_on s r (inr e) = inr ((λ (f : suc s ≡ suc r). let apart : s ≢ r = e.0 in apart (omega arith)), e.1)

  by_case : ((s ≡ r) × (u ≡ t)) ⊎ ((s ≢ r) × (slice_get sessions r ≡ Some t)) → ((s ≡ r) × (u ≡ t)) ⊎ (((s == r) ≡ false) × (slice_get sessions r ≡ Some t))
  by_case (inl e) = inl e
  by_case (inr e) = inr (ne_eqb s r e.0, e.1)

pub length_set : (sessions : List Session) (s : ℕ) (u : Session) → length (slice_set sessions s u) ≡ length sessions
length_set [] s u = refl
length_set (v ∷ sessions) zero u = refl
length_set (v ∷ sessions) (suc s) u = ap suc (length_set sessions s u)

pub got_idle : (count s : ℕ) (t : Session) → slice_get (replicate count idle_session) s ≡ Some t → t ≡ idle_session
got_idle zero s t is = absurd cc
got_idle (suc count) zero t is = sym cc
got_idle (suc count) (suc s) t is = got_idle count s t is

pub past_end : (sessions : List Session) (s : ℕ) → slice_get sessions s ≡ None → length sessions ≤ s
past_end [] s is = omega arith
past_end (t ∷ sessions) zero is = absurd cc
past_end (t ∷ sessions) (suc s) is = omega (arith, past_end sessions s is)

-- ---- who has a step in hand or a transaction is a session of the run

pub hand_known : (terms : Terms) (past : Past) (s block : ℕ) → Legal terms past → hand past s ≡ Some block → s < terms.scripts.sessions
hand_known terms [] s block legal is = absurd cc
hand_known terms (Give r given ∷ past) s block legal is = by_test (r == s) refl is (λ h. hand_known terms past s block legal.1 h) where
  by_test : (b : Bool) → (r == s) ≡ b → cond b (Some given) (hand past s) ≡ Some block → (hand past s ≡ Some block → s < terms.scripts.sessions) → s < terms.scripts.sessions
  by_test true own is more = rw (← eqb-true r s own) legal.0.rule.known
  by_test false own is more = more is
hand_known terms (End r ∷ past) s block legal is = by_test (r == s) is (λ h. hand_known terms past s block legal.1 h) where
  by_test : (b : Bool) → cond b None (hand past s) ≡ Some block → (hand past s ≡ Some block → s < terms.scripts.sessions) → s < terms.scripts.sessions
  by_test true is more = absurd cc
  by_test false is more = more is
hand_known terms (e ∷ past) s block legal is = hand_known terms past s block legal.1 is

-- a transaction began for a statement in hand
begun_known : (terms : Terms) (past : Past) (r : ℕ) → Legal terms past → option_map (starts (block_state past r)) (in_hand terms past r) ≡ Some true → r < terms.scripts.sessions
begun_known terms past r legal is = by_hand (hand past r) refl is where
  by_hand : (o : Option ℕ) → hand past r ≡ o → option_map (starts (block_state past r)) (statement_of terms o (dones past r)) ≡ Some true → r < terms.scripts.sessions
  by_hand None busy is = absurd cc
  by_hand (Some block) busy is = hand_known terms past r block legal busy

pub xact_known : (terms : Terms) (past : Past) (s x : ℕ) → Legal terms past → xact_of past s ≡ Some x → s < terms.scripts.sessions
xact_known terms [] s x legal is = absurd cc
xact_known terms (Start r level ∷ past) s x legal is = by_test (r == s) refl is (λ h. xact_known terms past s x legal.1 h) where
  by_test : (b : Bool) → (r == s) ≡ b → cond b (Some (length past)) (xact_of past s) ≡ Some x → (xact_of past s ≡ Some x → s < terms.scripts.sessions) → s < terms.scripts.sessions
  by_test true own is more = rw (← eqb-true r s own) (begun_known terms past r legal.1 legal.0.rule.statement)
  by_test false own is more = more is
xact_known terms (Commit y ∷ past) s x legal is = by_test (is_that (xact_of past s) y) is (λ h. xact_known terms past s x legal.1 h) where
  by_test : (b : Bool) → cond b None (xact_of past s) ≡ Some x → (xact_of past s ≡ Some x → s < terms.scripts.sessions) → s < terms.scripts.sessions
  by_test true is more = absurd cc
  by_test false is more = more is
xact_known terms (Abort y ∷ past) s x legal is = by_test (is_that (xact_of past s) y) is (λ h. xact_known terms past s x legal.1 h) where
  by_test : (b : Bool) → cond b None (xact_of past s) ≡ Some x → (xact_of past s ≡ Some x → s < terms.scripts.sessions) → s < terms.scripts.sessions
  by_test true is more = absurd cc
  by_test false is more = more is
xact_known terms (e ∷ past) s x legal is = xact_known terms past s x legal.1 is

-- so a session past the end of the list has neither
pub none_past : (terms : Terms) (s : ℕ) (o : Option ℕ) → ((x : ℕ) → o ≡ Some x → s < terms.scripts.sessions) → terms.scripts.sessions ≤ s → o ≡ None
none_past terms s None known le = refl
none_past terms s (Some x) known le = absurd (let lt : s < terms.scripts.sessions = known x refl in omega arith)

-- ---- who waits for the end of a transaction

-- what is found open is one of those
first_is : (P : ℕ → Type 0) (past : Past) (x y : ℕ) (ys : List ℕ) → Each P ys → first_open past x ys ≡ Some y → P y
first_is P past x y [] each is = absurd cc
first_is P past x y (z ∷ ys) each is = by_test (not (z == x) && is_open (fate past z)) is (λ h. first_is P past x y ys each.1 h) where
  by_test : (b : Bool) → cond b (Some z) (first_open past x ys) ≡ Some y → (first_open past x ys ≡ Some y → P y) → P y
  by_test true is more = let same : z ≡ y = cc in rw (← same) each.0
  by_test false is more = more is

-- the transaction that is in the way of a name has begun
taker_began : (terms : Terms) (past : Past) (x y : ℕ) (o : Option Statement) → Legal terms past → option_and_then (name_taker past x) o ≡ Some y → is_start past y ≡ true
taker_began terms past x y (Some (statements.CreateTable name columns)) legal is = first_is (Began past) past x y (makers past name) (makers_began_of terms past name legal) is
taker_began terms past x y o legal is = absurd cc

start_more : (place y : ℕ) (b : Bool) → b ≡ true → cond (place == y) true b ≡ true
start_more place y b began = by_test (place == y) where
  by_test : (c : Bool) → cond c true b ≡ true
  by_test true = refl
  by_test false = began

still_wanted : (b : Bool) (o : Option Want) (want : Want) (P : Type 0) → cond b None o ≡ Some want → (o ≡ Some want → P) → P
still_wanted true o want P is more = absurd cc
still_wanted false o want P is more = more is

-- so has the one that a session waits for
pub ends_began : (terms : Terms) (past : Past) (s y : ℕ) → Legal terms past → wanted_by past s ≡ Some (wants.Ends y) → is_start past y ≡ true
ends_began terms [] s y legal is = absurd cc
ends_began terms (Wait x want ∷ past) s y legal is = by_test (session_of past x == s) is (λ h. ends_began terms past s y legal.1 h) where
  by_test : (b : Bool) → cond b (Some want) (wanted_by past s) ≡ Some (wants.Ends y) → (wanted_by past s ≡ Some (wants.Ends y) → is_start past y ≡ true) → is_start past y ≡ true
  by_test true is more =
      let same : want ≡ wants.Ends y = cc in
      taker_began terms past x y (in_hand terms past (session_of past x)) legal.1 (rw same at legal.0.rule.waits_for).1
  by_test false is more = more is
ends_began terms (Start r level ∷ past) s y legal is = still_wanted (r == s) (wanted_by past s) (wants.Ends y) _ is (λ h. start_more (length past) y (is_start past y) (ends_began terms past s y legal.1 h))
ends_began terms (e ∷ past) s y legal is = still_wanted (made_by past e == s) (wanted_by past s) (wants.Ends y) _ is (λ h. ends_began terms past s y legal.1 h)

-- ---- what is kept of the sessions is what they are doing

among_in : (sessions : List Session) (x : ℕ) → is_open_in sessions x ≡ is_among (xacts_in sessions) x
among_in [] x = refl
among_in (t ∷ sessions) x = ap (λ (b : Bool). is_that t.xact x || b) (among_in sessions x)

xact_got : (sessions : List Session) (s : ℕ) (o : Option ℕ) → ((t : Session) → slice_get sessions s ≡ Some t → t.xact ≡ o) → (slice_get sessions s ≡ None → o ≡ None) → get_or (xacts_in sessions) s None ≡ o
xact_got [] s o there past = sym (past refl)
xact_got (t ∷ sessions) zero o there past = there t refl
xact_got (t ∷ sessions) (suc s) o there past = xact_got sessions s o there past

module _ (terms : Terms) (p : Parts) (kept : IsKept terms p) where
  abbrev now : Past
  now = past_of p.journal

  past_sessions : (s : ℕ) → slice_get p.sessions s ≡ None → terms.scripts.sessions ≤ s
  past_sessions s is = let n : length p.sessions ≡ terms.scripts.sessions = kept.sound.count in let le : length p.sessions ≤ s = past_end p.sessions s is in omega arith

  -- the open transaction of a session
  pub xact_so : (s : ℕ) → get_or (xacts_in p.sessions) s None ≡ xact_of now s
  xact_so s = xact_got p.sessions s (xact_of now s) (λ t is. sym (kept.mirrors s t is).outline.xact_is) (λ is. none_past terms s (xact_of now s) (λ x h. xact_known terms now s x kept.sound.legal h) (past_sessions s is))

  -- who is held up by what is kept is blocked
  pub held_up_is : (s : ℕ) (t : Session) → slice_get p.sessions s ≡ Some t → is_held_up p.sessions t.wants ≡ is_blocked now s
  held_up_is s t is = by_want t.wants (kept.mirrors s t is).outline.wants_is where
    by_want : (o : Option Want) → wanted_by now s ≡ o → is_held_up p.sessions o ≡ is_blocked now s
    by_want None so = rw so refl
    by_want (Some (wants.Table table mode)) so = sym (blocked_by_lock now s table mode kept.clear.settled so)
    by_want (Some (wants.Ends y)) so = rw so (among_in p.sessions y ∙ among_open terms now (xacts_in p.sessions) kept.sound.legal xact_so y (ends_began terms now s y kept.sound.legal so))

  pub can_go_is : (s : ℕ) (t : Session) → slice_get p.sessions s ≡ Some t → can_go_on now s ≡ can_go p.sessions t
  can_go_is s t is = rw ((kept.mirrors s t is).outline.hand_is, held_up_is s t is) refl

  idle_past : (s : ℕ) → slice_get p.sessions s ≡ None → can_go_on now s ≡ false
  idle_past s is = let none : hand now s ≡ None = kept.sound.beyond s (past_end p.sessions s is) in rw none refl

  -- ---- the session that is ready

  least : (at : ℕ) → IsFirstReady p.sessions at → IsLeast now at
  least at first = (can_go_is at first.session first.there ∙ first.goes, λ r lt. below r lt (slice_get p.sessions r) refl) where
    below : (r : ℕ) → r < at → (o : Option Session) → slice_get p.sessions r ≡ o → can_go_on now r ≡ false
    below r lt None is = idle_past r is
    below r lt (Some t) is = can_go_is r t is ∙ first.before r t lt is

  none_ready : AreStuck p.sessions (length p.sessions) → IsIdle now
  none_ready stuck = λ s. at s (slice_get p.sessions s) refl where
    at : (s : ℕ) (o : Option Session) → slice_get p.sessions s ≡ o → can_go_on now s ≡ false
    at s None is = idle_past s is
    at s (Some t) is = can_go_is s t is ∙ stuck s t (slice_get_within p.sessions s t is) is

  pub ready_by : (o : Option ℕ) → IfSome o (λ at. IsFirstReady p.sessions at) → IfNone o (AreStuck p.sessions (length p.sessions)) → IsReady now o
  ready_by (Some at) first stuck = least at first
  ready_by None first stuck = none_ready stuck

  pub ready_within : (o : Option ℕ) → IfSome o (λ at. IsFirstReady p.sessions at) → IfSome o (λ at. at < terms.scripts.sessions)
  ready_within (Some at) first = let n : length p.sessions ≡ terms.scripts.sessions = kept.sound.count in let lt : at < length p.sessions = slice_get_within p.sessions at first.session first.there in omega arith
  ready_within None first = tt

-- ---- who waits has a step in hand

pub wanting_busy : (terms : Terms) (past : Past) (s : ℕ) (want : Want) → Legal terms past → wanted_by past s ≡ Some want → is_some (hand past s) ≡ true
wanting_busy terms [] s want legal is = absurd cc
wanting_busy terms (Wait x asked ∷ past) s want legal is = by_test (session_of past x == s) refl is (λ h. wanting_busy terms past s want legal.1 h) where
  goes : (a b : Bool) → a && b ≡ true → a ≡ true
  goes true b both = refl
  goes false b both = both

  by_test : (b : Bool) → (session_of past x == s) ≡ b → cond b (Some asked) (wanted_by past s) ≡ Some want → (wanted_by past s ≡ Some want → is_some (hand past s) ≡ true) → is_some (hand past s) ≡ true
  by_test true own is more = rw (← eqb-true (session_of past x) s own) (goes (is_some (hand past (session_of past x))) _ legal.0.rule.in_step)
  by_test false own is more = more is
wanting_busy terms (Give r block ∷ past) s want legal is = by_test (r == s) is (λ h. wanting_busy terms past s want legal.1 h) where
  by_test : (b : Bool) → cond b None (wanted_by past s) ≡ Some want → (wanted_by past s ≡ Some want → is_some (hand past s) ≡ true) → is_some (cond b (Some block) (hand past s)) ≡ true
  by_test true is more = absurd cc
  by_test false is more = more is
wanting_busy terms (End r ∷ past) s want legal is = by_test (r == s) is (λ h. wanting_busy terms past s want legal.1 h) where
  by_test : (b : Bool) → cond b None (wanted_by past s) ≡ Some want → (wanted_by past s ≡ Some want → is_some (hand past s) ≡ true) → is_some (cond b None (hand past s)) ≡ true
  by_test true is more = absurd cc
  by_test false is more = more is
wanting_busy terms (e ∷ past) s want legal is = still_wanted (made_by past e == s) (wanted_by past s) want _ is (λ h. wanting_busy terms past s want legal.1 h)

-- so an idle session has no request that waits
pub idle_asks : (terms : Terms) (past : Past) (s : ℕ) → Legal terms past → WantsSo past → hand past s ≡ None → (c : Claim) → is_held (waiting past) c ≡ true → (s == c.session) ≡ false
idle_asks terms past s legal so idle c there = by_test (s == c.session) refl where
  by_test : (b : Bool) → (s == c.session) ≡ b → b ≡ false
  by_test false other = refl
  by_test true same =
      let busy : is_some (hand past c.session) ≡ true = wanting_busy terms past c.session _ legal (so c there) in
      let none : hand past c.session ≡ None = rw (← eqb-true s c.session same) idle in
      absurd (let wrong : false ≡ true = rw none at busy in cc)

-- ---- one session has changed, in what is kept as in the journal

pub mirrors_set : (terms : Terms) (past after : Past) (sessions : List Session) (s : ℕ) (u : Session)
    → ((r : ℕ) (t : Session) → (s == r) ≡ false → slice_get sessions r ≡ Some t → IsMirror terms (doing past r) t)
    → ((r : ℕ) → (s == r) ≡ false → doing after r ≡ doing past r)
    → IsMirror terms (doing after s) u
    → (r : ℕ) (t : Session) → slice_get (slice_set sessions s u) r ≡ Some t → IsMirror terms (doing after r) t
mirrors_set terms past after sessions s u mirrors others own r t is = by_place (got_set sessions s r u t is) where
  by_place : ((s ≡ r) × (u ≡ t)) ⊎ (((s == r) ≡ false) × (slice_get sessions r ≡ Some t)) → IsMirror terms (doing after r) t
  by_place (inl e) = rw (← e.0, ← e.1) own
  by_place (inr e) = rw (others r e.0) (mirrors r t e.0 e.1)

-- transactions that are marked stay so, where the session that has changed has no other
pub marked_set : (sessions : List Session) (s n : ℕ) (u : Session) → ((r x : ℕ) (t : Session) → slice_get sessions r ≡ Some t → t.xact ≡ Some x → x < n) → ((x : ℕ) → u.xact ≡ Some x → x < n) → (r x : ℕ) (t : Session) → slice_get (slice_set sessions s u) r ≡ Some t → t.xact ≡ Some x → x < n
marked_set sessions s n u marked own r x t is has = by_place (got_set sessions s r u t is) where
  by_place : ((s ≡ r) × (u ≡ t)) ⊎ (((s == r) ≡ false) × (slice_get sessions r ≡ Some t)) → x < n
  by_place (inl e) = own x (rw (← e.1) at has)
  by_place (inr e) = marked r x t e.1 has
