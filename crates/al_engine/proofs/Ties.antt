-- What the lock table answers is what the journal's locks and requests say.
use Rattle.std.proofs.Common.{◌≡◌, ℕ, ◌+◌, List, [], ◌∷◌, ◌++◌, map, count_by, refl, sym, ap, cond, true, false, Bool, arith, ◌∙◌, nat_lt, append_assoc}
use Rattle.std.specs.Prelude.{◌==◌, ◌&&◌, ◌||◌, not, Option, Some, None, is_some, filter}
use Rattle.std.specs.List.{list_any, position_from}
use Rattle.std.proofs.lemmas.Iterator.Adapters.{position_from-zero}
use Rattle.std.proofs.lemmas.Bool.{eq-eqb, lt-ltb, or_parts, or_from, not_from_true}
use Rattle.std.proofs.lemmas.List.Folds.{list_any-append}
use Rattle.std.proofs.lemmas.List.Sums.{sum_by-cons, sum_by_push}
use Rattle.al_modes.specs.declared.mode.Mode.{Mode}
use Rattle.al_queue.specs.declared.grant.Grant.{Grant}
use Rattle.al_queue.specs.Locks.{Locks}
use Rattle.al_queue.specs.InWay.{is_in_way, held_up, grantable, asked}
use Rattle.al_queue.specs.Waits.{is_like, holds, request_at}
use Rattle.al_queue.specs.Walk.{released}
use Rattle.al_queue.specs.Settled.{AllHeldUp, IsSettled}
use Rattle.al_history.specs.declared.entry.Want.TheVariants as wants
use Rattle.al_history.specs.declared.entry.Entry.TheVariants.{Wait, Lock}
use Rattle.al_history.specs.Past.{Past}
use Rattle.al_history.specs.Hand.{session_of}
use Rattle.al_history.specs.Locks.{Claim, claim, without, held, waiting, in_way, ahead, is_settled, is_held, grantable as can_be_granted, same_claim, without_claim}
use Rattle.al_history.proofs.Xacts.{turn}
use Rattle.al_engine.specs.LockTie.{grant_of, asks, AreApart, IsTied}
use Rattle.al_history.proofs.Requests.{AreDistinct}

-- ---- lists

any_map : (test : Grant → Bool) (claims : List Claim) → list_any test (map grant_of claims) ≡ list_any (λ (c : Claim). test (grant_of c)) claims
any_map test [] = refl
any_map test (c ∷ claims) = ap (λ (b : Bool). test (grant_of c) || b) (any_map test claims)

-- a test is passed where its count isn't 0
any_counted : (test : Grant → Bool) (grants : List Grant) → list_any test grants ≡ nat_lt 0 (count_by test grants)
any_counted test [] = refl
any_counted test (g ∷ grants) = by_test (test g) (any_counted test grants) (sum_by-cons (λ (x : Grant). cond (test x) 1 0) g grants) where
  by_test : (b : Bool) → list_any test grants ≡ nat_lt 0 (count_by test grants) → count_by test (g ∷ grants) ≡ cond b 1 0 + count_by test grants → (b || list_any test grants) ≡ nat_lt 0 (count_by test (g ∷ grants))
  by_test true more e = sym (lt-ltb 0 (count_by test (g ∷ grants)) (omega (arith, e)))
  by_test false more e = more ∙ ap (λ (n : ℕ). nat_lt 0 n) (let same : count_by test grants ≡ count_by test (g ∷ grants) = omega (arith, e) in same)

any_same : (xs ys : List Grant) → ((test : Grant → Bool) → count_by test xs ≡ count_by test ys) → (test : Grant → Bool) → list_any test xs ≡ list_any test ys
any_same xs ys same test = any_counted test xs ∙ (ap (λ (n : ℕ). nat_lt 0 n) (same test) ∙ sym (any_counted test ys))

-- the locks of the table pass just the tests of those of the journal
pub any_held : (past : Past) (locks : Locks) → IsTied past locks → (test : Grant → Bool) → list_any test locks.held ≡ list_any (λ (c : Claim). test (grant_of c)) (held past)
any_held past locks tied test = any_same locks.held (map grant_of (held past)) tied.holds test ∙ any_map test (held past)

pub any_waiting : (past : Past) (locks : Locks) → IsTied past locks → (test : Grant → Bool) → list_any test locks.waiting ≡ list_any (λ (c : Claim). test (grant_of c)) (waiting past)
any_waiting past locks tied test = ap (λ (grants : List Grant). list_any test grants) tied.waits ∙ any_map test (waiting past)

map_push : (claims : List Claim) (c : Claim) → map grant_of (claims ++ c ∷ []) ≡ map grant_of claims ++ grant_of c ∷ []
map_push [] c = refl
map_push (d ∷ claims) c = ap (λ (grants : List Grant). grant_of d ∷ grants) (map_push claims c)

-- ---- the requests of one session

pub asks_append : (s : ℕ) (claims others : List Claim) → asks s (claims ++ others) ≡ (asks s claims || asks s others)
asks_append s claims others = list_any-append (λ (c : Claim). c.session == s) claims others

-- where none is the session's, all are ahead, and all are left without its own
ahead_all : (s : ℕ) (claims : List Claim) → asks s claims ≡ false → ahead s claims ≡ claims
ahead_all s [] none = refl
ahead_all s (c ∷ claims) none =
    let parts = or_parts (c.session == s) (asks s claims) none in
    rw (parts.0, ahead_all s claims parts.1) refl

pub without_none : (s : ℕ) (claims : List Claim) → asks s claims ≡ false → without s claims ≡ claims
without_none s [] none = refl
without_none s (c ∷ claims) none =
    let parts = or_parts (c.session == s) (asks s claims) none in
    rw (parts.0, without_none s claims parts.1) refl

apart_push : (claims : List Claim) (c : Claim) → asks c.session claims ≡ false → AreApart claims → AreApart (claims ++ c ∷ [])
apart_push [] c none apart = (refl, tt)
apart_push (d ∷ claims) c none apart =
    let parts = or_parts (d.session == c.session) (asks c.session claims) none in
    let other : (c.session == d.session) ≡ false = turn d.session c.session parts.0 in (
      asks_append d.session claims (c ∷ []) ∙ or_from (asks d.session claims) (asks d.session (c ∷ [])) apart.0 (or_from (c.session == d.session) false other refl),
      apart_push claims c parts.1 apart.1,
    )

asks_left : (r s : ℕ) (claims : List Claim) → asks r claims ≡ false → asks r (without s claims) ≡ false
asks_left r s [] none = refl
asks_left r s (c ∷ claims) none = by_test (c.session == s) (or_parts (c.session == r) (asks r claims) none) (λ h. asks_left r s claims h) where
  by_test : (b : Bool) → ((c.session == r) ≡ false) × (asks r claims ≡ false) → (asks r claims ≡ false → asks r (without s claims) ≡ false) → asks r (cond b (without s claims) (c ∷ without s claims)) ≡ false
  by_test true parts more = more parts.1
  by_test false parts more = or_from (c.session == r) (asks r (without s claims)) parts.0 (more parts.1)

pub apart_left : (s : ℕ) (claims : List Claim) → AreApart claims → AreApart (without s claims)
apart_left s [] apart = tt
apart_left s (c ∷ claims) apart = by_test (c.session == s) (apart_left s claims apart.1) where
  by_test : (b : Bool) → AreApart (without s claims) → AreApart (cond b (without s claims) (c ∷ without s claims))
  by_test true more = more
  by_test false more = (asks_left c.session s claims apart.0, more)

-- the table has a request of a session just where the journal has one
waits_from : (s i : ℕ) (claims : List Claim) → is_some (position_from (λ (g : Grant). g.session == s) i (map grant_of claims)) ≡ asks s claims
waits_from s i [] = refl
waits_from s i (c ∷ claims) = by_test (c.session == s) (waits_from s (i + 1) claims) where
  by_test : (b : Bool) → is_some (position_from (λ (g : Grant). g.session == s) (i + 1) (map grant_of claims)) ≡ asks s claims
      → is_some (cond b (Some i) (position_from (λ (g : Grant). g.session == s) (i + 1) (map grant_of claims))) ≡ (b || asks s claims)
  by_test true more = refl
  by_test false more = more

pub same_waits : (past : Past) (locks : Locks) (s : ℕ) → IsTied past locks → is_some (request_at locks s) ≡ asks s (waiting past)
same_waits past locks s tied = rw tied.waits (ap (λ (o : Option ℕ). is_some o) (position_from-zero (λ (g : Grant). g.session == s) (map grant_of (waiting past))) ∙ waits_from s 0 (waiting past))

pub no_request : (past : Past) (locks : Locks) (s : ℕ) → IsTied past locks → asks s (waiting past) ≡ false → request_at locks s ≡ None
no_request past locks s tied none = by_case (request_at locks s) (same_waits past locks s tied ∙ none) where
  by_case : (o : Option ℕ) → is_some o ≡ false → o ≡ None
  by_case None empty = refl
  by_case (Some place) empty = absurd cc

-- ---- a session asks for a lock

-- it is granted at once just where the journal says so
pub same_grantable : (past : Past) (locks : Locks) (c : Claim) → IsTied past locks → asks c.session (waiting past) ≡ false → grantable locks (grant_of c) ≡ can_be_granted past c
same_grantable past locks c tied none =
    let lock : list_any (is_in_way (grant_of c)) locks.held ≡ list_any (in_way c) (held past) = any_held past locks tied (is_in_way (grant_of c)) in
    let request : list_any (is_in_way (grant_of c)) locks.waiting ≡ list_any (in_way c) (waiting past) = any_waiting past locks tied (is_in_way (grant_of c)) in
    rw (lock, request, ahead_all c.session (waiting past) none) refl

pub same_holds : (past : Past) (locks : Locks) (s table : ℕ) (mode : Mode) → IsTied past locks → holds locks s table mode ≡ is_held (held past) (record { session = s; table = table; mode = mode })
same_holds past locks s table mode tied = any_held past locks tied (is_like s table mode)

-- one lock more on both sides
pub holds_push : (past : Past) (locks : Locks) (x : ℕ) (c : Claim) → session_of past x ≡ c.session → IsTied past locks
    → (test : Grant → Bool) → count_by test (locks.held ++ grant_of c ∷ []) ≡ count_by test (map grant_of (held past ++ claim past x c.table c.mode ∷ []))
holds_push past locks x c own tied test = rw (own, map_push (held past) c)
    (omega (arith, sum_by_push (λ (g : Grant). cond (test g) 1 0) locks.held (grant_of c), sum_by_push (λ (g : Grant). cond (test g) 1 0) (map grant_of (held past)) (grant_of c), tied.holds test))

-- a claim of a session that asks for nothing isn't there
other_claim : (d c : Claim) → (c.session == d.session) ≡ false → same_claim d c ≡ false
other_claim d c other = rw other refl

pub none_claim : (d : Claim) (claims : List Claim) → asks d.session claims ≡ false → without_claim d claims ≡ claims
none_claim d [] none = refl
none_claim d (c ∷ claims) none =
    let parts = or_parts (c.session == d.session) (asks d.session claims) none in
    rw (other_claim d c parts.0, none_claim d claims parts.1) refl

-- the laws of journals say of each session that it has one request
pub distinct_of : (claims : List Claim) → AreApart claims → AreDistinct claims
distinct_of [] apart = tt
distinct_of (c ∷ claims) apart = (apart.0, distinct_of claims apart.1)

pub tie_granted : (past : Past) (locks : Locks) (x : ℕ) (c : Claim) → session_of past x ≡ c.session → IsTied past locks → asks c.session (waiting past) ≡ false
    → can_be_granted past c ≡ true → IsTied (Lock x c.table c.mode ∷ past) (asked locks (grant_of c))
tie_granted past locks x c own tied none can = rw (same_grantable past locks c tied none ∙ can) (record {
  waits = rw (own, none_claim c (waiting past) none) tied.waits;
  holds = λ test. holds_push past locks x c own tied test;
  apart = rw (own, none_claim c (waiting past) none) tied.apart;
})

pub tie_queued : (past : Past) (locks : Locks) (x : ℕ) (c : Claim) → session_of past x ≡ c.session → IsTied past locks → asks c.session (waiting past) ≡ false
    → can_be_granted past c ≡ false → IsTied (Wait x (wants.Table c.table c.mode) ∷ past) (asked locks (grant_of c))
tie_queued past locks x c own tied none can = rw (same_grantable past locks c tied none ∙ can) (record {
  waits = rw (own, map_push (waiting past) c) (ap (λ (grants : List Grant). grants ++ grant_of c ∷ []) tied.waits);
  holds = tied.holds;
  apart = rw own (apart_push (waiting past) c none tied.apart);
})

-- ---- no request that waits can be granted

-- those ahead of the first of a session's
pub ahead_of_it : (claims later : List Claim) (c : Claim) → AreApart (claims ++ c ∷ later) → ahead c.session (claims ++ c ∷ later) ≡ claims
ahead_of_it [] later c apart = rw (eq-eqb c.session c.session refl) refl
ahead_of_it (d ∷ claims) later c apart =
    let parts = or_parts (asks d.session claims) (asks d.session (c ∷ later)) (sym (asks_append d.session claims (c ∷ later)) ∙ apart.0) in
    let own = or_parts (c.session == d.session) (asks d.session later) parts.1 in
    rw (turn c.session d.session own.0, ahead_of_it claims later c apart.1) refl

module _ (past : Past) (locks : Locks) (tied : IsTied past locks) where
  held_up_so : (claims later : List Claim) (c : Claim) → waiting past ≡ claims ++ c ∷ later → held_up locks.held (map grant_of claims) (grant_of c) ≡ true → can_be_granted past c ≡ false
  held_up_so claims later c is up =
      let front : ahead c.session (waiting past) ≡ claims = rw is (ahead_of_it claims later c (rw is at tied.apart)) in
      let here : (list_any (in_way c) (held past) || list_any (in_way c) claims) ≡ true = rw (any_held past locks tied (is_in_way (grant_of c)), any_map (is_in_way (grant_of c)) claims) at up in
      rw front (not_from_true (list_any (in_way c) (held past) || list_any (in_way c) claims) here)

  settled_from : (claims later : List Claim) → waiting past ≡ claims ++ later → AllHeldUp locks.held (map grant_of claims) (map grant_of later) → list_any (can_be_granted past) later ≡ false
  settled_from claims [] is up = refl
  settled_from claims (c ∷ later) is up =
      let rest : list_any (can_be_granted past) later ≡ false = settled_from (claims ++ c ∷ []) later (is ∙ sym (append_assoc claims (c ∷ []) later)) (rw (map_push claims c) up.1) in
      or_from (can_be_granted past c) (list_any (can_be_granted past) later) (held_up_so claims later c is up.0) rest

pub settled_tied : (past : Past) (locks : Locks) → IsTied past locks → IsSettled locks → is_settled past ≡ true
settled_tied past locks tied settled = rw (settled_from past locks tied [] (waiting past) refl (rw tied.waits at settled)) refl

-- ---- a transaction's end

filter_tied : (s : ℕ) (claims : List Claim) → filter (λ (g : Grant). not (g.session == s)) (map grant_of claims) ≡ map grant_of (without s claims)
filter_tied s [] = refl
filter_tied s (c ∷ claims) = by_test (c.session == s) (filter_tied s claims) where
  by_test : (b : Bool) → filter (λ (g : Grant). not (g.session == s)) (map grant_of claims) ≡ map grant_of (without s claims)
      → cond (not b) (grant_of c ∷ filter (λ (g : Grant). not (g.session == s)) (map grant_of claims)) (filter (λ (g : Grant). not (g.session == s)) (map grant_of claims)) ≡ map grant_of (cond b (without s claims) (c ∷ without s claims))
  by_test true more = more
  by_test false more = ap (λ (grants : List Grant). grant_of c ∷ grants) more

count_filter : (p test : Grant → Bool) (grants : List Grant) → count_by test (filter p grants) ≡ count_by (λ (g : Grant). p g && test g) grants
count_filter p test [] = refl
count_filter p test (g ∷ grants) = by_test (p g) (count_filter p test grants) (sum_by-cons (λ (x : Grant). cond (p x && test x) 1 0) g grants) where
  by_test : (b : Bool) → count_by test (filter p grants) ≡ count_by (λ (x : Grant). p x && test x) grants
      → count_by (λ (x : Grant). p x && test x) (g ∷ grants) ≡ cond (b && test g) 1 0 + count_by (λ (x : Grant). p x && test x) grants
      → count_by test (cond b (g ∷ filter p grants) (filter p grants)) ≡ count_by (λ (x : Grant). p x && test x) (g ∷ grants)
  by_test true more e = omega (arith, e, more, sum_by-cons (λ (x : Grant). cond (test x) 1 0) g (filter p grants))
  by_test false more e = omega (arith, e, more)

-- where a session's claims have ended in the journal, and in the table
pub tie_released : (past after : Past) (locks : Locks) (s : ℕ) → held after ≡ without s (held past) → waiting after ≡ without s (waiting past) → IsTied past locks → IsTied after (released locks s)
tie_released past after locks s locks_left requests_left tied = record {
  waits = rw (requests_left, tied.waits) (filter_tied s (waiting past));
  holds = λ test. rw locks_left (count_filter (λ (g : Grant). not (g.session == s)) test locks.held
      ∙ (tied.holds (λ (g : Grant). not (g.session == s) && test g)
      ∙ (sym (count_filter (λ (g : Grant). not (g.session == s)) test (map grant_of (held past)))
      ∙ ap (λ (grants : List Grant). count_by test grants) (filter_tied s (held past)))));
  apart = rw requests_left (apart_left s (waiting past) tied.apart);
}
