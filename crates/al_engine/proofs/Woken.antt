-- The sessions whose requests were granted wait no more: what is kept of them then.
use Rattle.std.proofs.Common.{◌≡◌, ℕ, zero, suc, ◌+◌, ◌≤◌, List, [], ◌∷◌, length, take, count_by, refl, sym, ap, cond, true, false, Bool, Option, Some, None, arith, add-one, ◌∙◌, slice_get, option_map}
use Rattle.std.specs.Prelude.{◌==◌, ◌||◌, not, unwrap_or, option_and_then}
use Rattle.std.proofs.lemmas.Bool.{eq-eqb, eqb-true, ne_eqb}
use Rattle.std.proofs.lemmas.List.Sums.{sum_by-cons, length-filter, count_by-le-length}
use Rattle.al_history.specs.Past.{Past}
use Rattle.al_queue.specs.declared.grant.Grant.{Grant}
use Rattle.al_queue.specs.Locks.{Locks}
use Rattle.al_queue.specs.Walk.{released}
use Rattle.al_queue.specs.Settled.{HandsOn}
use Rattle.al_engine.specs.declared.sessions.Session.{Session}
use Rattle.al_engine.specs.LockTie.{locked_by, is_granted, IsNoted}
use Rattle.al_engine.specs.Sessions.{xact_in, light, light_of, waked, wakened, woken, IsWakened}
use Rattle.al_engine.proofs.LockLists.{locked_next}

-- ---- one session

-- a session that waits no more, where it is one of these
abbrev pub calmed : Bool → Session → Session
calmed b t = record t { wants = cond b None t.wants }

calmed_not : (sessions : List Session) (r : ℕ) → slice_get sessions r ≡ option_map (calmed false) (slice_get sessions r)
calmed_not [] r = refl
calmed_not (t ∷ sessions) zero = refl
calmed_not (t ∷ sessions) (suc r) = calmed_not sessions r

next_eqb : (s r : ℕ) → (suc s == suc r) ≡ (s == r)
next_eqb s r = by_test (s == r) refl where
  by_test : (b : Bool) → (s == r) ≡ b → (suc s == suc r) ≡ b
  by_test true same = eq-eqb (suc s) (suc r) (ap suc (eqb-true s r same))
  by_test false other = ne_eqb (suc s) (suc r) (λ e. let same : (s == r) ≡ true = eq-eqb s r (omega arith) in let wrong : true ≡ false = sym same ∙ other in cc)

waked_get : (sessions : List Session) (s r : ℕ) → slice_get (wakened s sessions) r ≡ option_map (calmed (s == r)) (slice_get sessions r)
waked_get [] s r = refl
waked_get (t ∷ sessions) zero zero = refl
waked_get (t ∷ sessions) zero (suc r) = rw (ne_eqb zero (suc r) (λ e. omega arith)) (calmed_not sessions r)
waked_get (t ∷ sessions) (suc s) zero = rw (ne_eqb (suc s) zero (λ e. omega arith)) (waked_first (slice_get sessions s)) where
  waked_first : (o : Option Session) → slice_get (waked (t ∷ sessions) (suc s) o) zero ≡ Some t
  waked_first None = refl
  waked_first (Some u) = refl
waked_get (t ∷ sessions) (suc s) (suc r) = rw (next_eqb s r) (waked_rest (slice_get sessions s) (waked_get sessions s r)) where
  waked_rest : (o : Option Session) → slice_get (waked sessions s o) r ≡ option_map (calmed (s == r)) (slice_get sessions r) → slice_get (waked (t ∷ sessions) (suc s) o) (suc r) ≡ option_map (calmed (s == r)) (slice_get sessions r)
  waked_rest None is = is
  waked_rest (Some u) is = is

length_waked : (sessions : List Session) (s : ℕ) → length (wakened s sessions) ≡ length sessions
length_waked [] s = refl
length_waked (t ∷ sessions) zero = refl
length_waked (t ∷ sessions) (suc s) = by_case (slice_get sessions s) (length_waked sessions s) where
  by_case : (o : Option Session) → length (waked sessions s o) ≡ length sessions → length (waked (t ∷ sessions) (suc s) o) ≡ suc (length sessions)
  by_case None is = refl
  by_case (Some u) is = ap suc is

light_waked : (sessions : List Session) (s : ℕ) → light (wakened s sessions) ≡ light sessions
light_waked [] s = refl
light_waked (t ∷ sessions) zero = refl
light_waked (t ∷ sessions) (suc s) = by_case (slice_get sessions s) (light_waked sessions s) where
  by_case : (o : Option Session) → light (waked sessions s o) ≡ light sessions → light (waked (t ∷ sessions) (suc s) o) ≡ light_of t + light sessions
  by_case None is = refl
  by_case (Some u) is = ap (λ (n : ℕ). light_of t + n) is

-- ---- all of them

calmed_both : (a b : Bool) (o : Option Session) → option_map (calmed b) (option_map (calmed a) o) ≡ option_map (calmed (a || b)) o
calmed_both a b None = refl
calmed_both true true (Some t) = refl
calmed_both true false (Some t) = refl
calmed_both false b (Some t) = refl

pub woken_get : (grants : List Grant) (sessions : List Session) (r : ℕ) → slice_get (woken grants sessions) r ≡ option_map (calmed (is_granted r grants)) (slice_get sessions r)
woken_get [] sessions r = calmed_not sessions r
woken_get (g ∷ grants) sessions r = woken_get grants (wakened g.session sessions) r ∙ (ap (λ (o : Option Session). option_map (calmed (is_granted r grants)) o) (waked_get sessions g.session r) ∙ calmed_both (g.session == r) (is_granted r grants) (slice_get sessions r))

pub woken_length : (grants : List Grant) (sessions : List Session) → length (woken grants sessions) ≡ length sessions
woken_length [] sessions = refl
woken_length (g ∷ grants) sessions = woken_length grants (wakened g.session sessions) ∙ length_waked sessions g.session

pub woken_light : (grants : List Grant) (sessions : List Session) → light (woken grants sessions) ≡ light sessions
woken_light [] sessions = refl
woken_light (g ∷ grants) sessions = woken_light grants (wakened g.session sessions) ∙ light_waked sessions g.session

-- their transactions are what they were
pub woken_xact : (grants : List Grant) (sessions : List Session) (s : ℕ) → xact_in (woken grants sessions) s ≡ xact_in sessions s
woken_xact grants sessions s = rw (woken_get grants sessions s) (same (is_granted s grants) (slice_get sessions s)) where
  same : (b : Bool) (o : Option Session) → unwrap_or (option_and_then (λ (t : Session). t.xact) (option_map (calmed b) o)) 0 ≡ unwrap_or (option_and_then (λ (t : Session). t.xact) o) 0
  same b None = refl
  same b (Some t) = refl

-- one more wakes
pub woken_next : (grants : List Grant) (sessions : List Session) (i : ℕ) (g : Grant) → slice_get grants i ≡ Some g → woken (take (i + 1) grants) sessions ≡ wakened g.session (woken (take i grants) sessions)
woken_next [] sessions i g is = absurd cc
woken_next (h ∷ grants) sessions zero g is = let same : h ≡ g = cc in rw same refl
woken_next (h ∷ grants) sessions (suc i) g is = rw add-one (rw add-one at (woken_next grants (wakened h.session sessions) i g is))

-- ---- how many

all_counted : (grants : List Grant) → length grants ≡ count_by (λ (g : Grant). true) grants
all_counted [] = refl
all_counted (g ∷ grants) = omega (arith, all_counted grants, sum_by-cons (λ (x : Grant). 1) g grants)

-- each request that is granted has waited, and isn't the session's whose claims end
pub few_granted : (locks after : Locks) (s : ℕ) → HandsOn (released locks s) after → length after.granted + length after.waiting ≤ length locks.waiting
few_granted locks after s hands =
    let once : count_by (λ (g : Grant). true) after.granted + count_by (λ (g : Grant). true) after.waiting ≡ count_by (λ (g : Grant). true) (released locks s).waiting = hands.once (λ (g : Grant). true) in
    let left : length (released locks s).waiting ≡ count_by (λ (g : Grant). not (g.session == s)) locks.waiting = length-filter (λ (g : Grant). not (g.session == s)) locks.waiting in
    omega (arith, once, left, all_counted after.granted, all_counted after.waiting, all_counted (released locks s).waiting, count_by-le-length (λ (g : Grant). not (g.session == s)) locks.waiting)

-- ---- the loop that notes their locks

-- one lock more
pub locks_on : (sessions now : List Session) (grants : List Grant) (past before after : Past) (i : ℕ) → IsNoted (xact_in now) (slice_get grants i) before after → before ≡ locked_by (xact_in sessions) (take i grants) past → now ≡ woken (take i grants) sessions → after ≡ locked_by (xact_in sessions) (take (i + 1) grants) past
locks_on sessions now grants past before after i noted so_far woke = by_get (slice_get grants i) refl noted where
  by_get : (o : Option Grant) → slice_get grants i ≡ o → IsNoted (xact_in now) o before after → after ≡ locked_by (xact_in sessions) (take (i + 1) grants) past
  by_get None is noted = absurd noted
  by_get (Some g) is noted =
      let its : xact_in now g.session ≡ xact_in sessions g.session = ap (λ (all : List Session). xact_in all g.session) woke ∙ woken_xact (take i grants) sessions g.session in
      noted ∙ (rw (its, so_far) refl ∙ sym (locked_next (xact_in sessions) grants past i g is))

-- one session more that waits no more
pub wakes_on : (sessions now after : List Session) (grants : List Grant) (i : ℕ) → IsWakened (slice_get grants i) now after → now ≡ woken (take i grants) sessions → after ≡ woken (take (i + 1) grants) sessions
wakes_on sessions now after grants i wakes so_far = by_get (slice_get grants i) refl wakes where
  by_get : (o : Option Grant) → slice_get grants i ≡ o → IsWakened o now after → after ≡ woken (take (i + 1) grants) sessions
  by_get None is wakes = absurd wakes
  by_get (Some g) is wakes = wakes ∙ (ap (λ (all : List Session). wakened g.session all) so_far ∙ sym (woken_next grants sessions i g is))
