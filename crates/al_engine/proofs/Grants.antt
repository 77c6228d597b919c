-- The locks that are got when a transaction ends keep the rules.
use Rattle.std.proofs.Common.{◌≡◌, ℕ, ◌≤◌, List, [], ◌∷◌, ◌++◌, map, refl, sym, ap, cond, true, false, Bool, Option, Some, None, ◌∙◌, append_assoc, append-nil, inl}
use Rattle.std.specs.Prelude.{◌==◌, ◌||◌, IsSome}
use Rattle.std.specs.List.{list_any}
use Rattle.std.proofs.lemmas.Bool.{or_from, eq-eqb, or_parts}
use Rattle.std.proofs.lemmas.List.Sums.{sum_by-append}
use Rattle.al_queue.specs.declared.grant.Grant.{Grant}
use Rattle.al_queue.specs.Locks.{Locks}
use Rattle.al_queue.specs.InWay.{is_in_way}
use Rattle.al_queue.specs.Walk.{released}
use Rattle.al_queue.specs.Settled.{IsNext, Come, AscendsFrom, HandsOn, IsSettled}
use Rattle.al_history.specs.declared.entry.Want.{Want}
use Rattle.al_history.specs.declared.entry.Entry.TheVariants.{Commit, Abort}
use Rattle.al_history.specs.declared.statement.Terms.{Terms}
use Rattle.al_history.specs.Past.{Past}
use Rattle.al_history.specs.Hand.{xact_of, session_of}
use Rattle.al_history.specs.Locks.{Claim, same_claim, without, held, waiting, in_way, ahead, is_settled, is_held, is_grant, grantable as can_be_granted}
use Rattle.al_history.specs.Rules.{Ascends}
use Rattle.al_history.specs.Waits.{wanted_by}
use Rattle.al_history.specs.Legal.{MayCome, Legal}
use Rattle.al_history.specs.Weight.{weight}
use Rattle.al_history.specs.Whole.{Driven}
use Rattle.al_history.proofs.Claims.{claim_itself, held_left, waiting_open}
use Rattle.al_history.proofs.Sole.{grant_alone}
use Rattle.al_history.proofs.Xacts.{xact_is, turn}
use Rattle.al_engine.specs.Ran.{AreGrants}
use Rattle.al_engine.specs.LockTie.{grant_of, asks, AreApart, IsTied, Knows, lock_by, locked_by, locks_of, is_granted}
use Rattle.al_engine.proofs.Ties.{any_held, asks_append, without_none, apart_left, holds_push, ahead_of_it, settled_tied, tie_released, distinct_of}
use Rattle.al_engine.proofs.LockLists.{locked_is, grants_push, driven_grants, weight_grants}
use Rattle.al_history.proofs.Requests.{takes_own}

-- ---- the next lock

abbrev claim_of : Grant → Claim
claim_of g = record { session = g.session; table = g.table; mode = g.mode }

claims_again : (claims : List Claim) → map claim_of (map grant_of claims) ≡ claims
claims_again [] = refl
claims_again (c ∷ claims) = ap (λ (others : List Claim). c ∷ others) (claims_again claims)

grants_again : (grants : List Grant) → map grant_of (map claim_of grants) ≡ grants
grants_again [] = refl
grants_again (g ∷ grants) = ap (λ (others : List Grant). g ∷ others) (grants_again grants)

claims_append : (xs ys : List Grant) → map claim_of (xs ++ ys) ≡ map claim_of xs ++ map claim_of ys
claims_append [] ys = refl
claims_append (g ∷ xs) ys = ap (λ (others : List Claim). claim_of g ∷ others) (claims_append xs ys)

any_claims : (test : Claim → Bool) (grants : List Grant) → list_any test (map claim_of grants) ≡ list_any (λ (g : Grant). test (claim_of g)) grants
any_claims test [] = refl
any_claims test (g ∷ grants) = ap (λ (b : Bool). test (claim_of g) || b) (any_claims test grants)

-- a request that stands among those that wait is there
is_there : (claims later : List Claim) (c : Claim) → is_held (claims ++ c ∷ later) c ≡ true
is_there [] later c = rw (claim_itself c) refl
is_there (d ∷ claims) later c = by_test (same_claim c d) (is_there claims later c) where
  by_test : (b : Bool) → is_held (claims ++ c ∷ later) c ≡ true → (b || is_held (claims ++ c ∷ later) c) ≡ true
  by_test true there = refl
  by_test false there = there

-- without it, those before and those behind it are left, each of another session
left_apart : (claims later : List Claim) (c : Claim) → AreApart (claims ++ c ∷ later) → without c.session (claims ++ c ∷ later) ≡ claims ++ later
left_apart [] later c apart = rw (same_session c) (without_none c.session later apart.0) where
  same_session : (d : Claim) → (d.session == d.session) ≡ true
  same_session d = eq-eqb d.session d.session refl
left_apart (d ∷ claims) later c apart =
    let parts = or_parts (asks d.session claims) (asks d.session (c ∷ later)) (sym (asks_append d.session claims (c ∷ later)) ∙ apart.0) in
    let own = or_parts (c.session == d.session) (asks d.session later) parts.1 in
    rw (turn c.session d.session own.0, left_apart claims later c apart.1) refl

module _ (terms : Terms) (past : Past) (locks : Locks) (xact : ℕ → ℕ) (g : Grant) (legal : Legal terms past) (tied : IsTied past locks) (next : IsNext locks.held locks.waiting g) (knows : Knows past xact) where
  split : waiting past ≡ map claim_of next.ahead ++ claim_of g ∷ map claim_of next.behind
  split = sym (claims_again (waiting past)) ∙ (ap (λ (grants : List Grant). map claim_of grants) (sym tied.waits ∙ next.waits) ∙ claims_append next.ahead (g ∷ next.behind))

  apart : AreApart (map claim_of next.ahead ++ claim_of g ∷ map claim_of next.behind)
  apart = rw split at tied.apart

  there : is_held (waiting past) (claim_of g) ≡ true
  there = rw split (is_there (map claim_of next.ahead) (map claim_of next.behind) (claim_of g))

  open_so : xact_of past g.session ≡ Some (xact g.session)
  open_so = knows (claim_of g) there

  own : session_of past (xact g.session) ≡ g.session
  own = (xact_is terms past g.session (xact g.session) legal open_so).own

  can : can_be_granted past (claim_of g) ≡ true
  can =
      let parts = or_parts (list_any (is_in_way g) locks.held) (list_any (is_in_way g) next.ahead) next.free in
      let lock : list_any (in_way (claim_of g)) (held past) ≡ false = sym (any_held past locks tied (is_in_way g)) ∙ parts.0 in
      let request : list_any (in_way (claim_of g)) (map claim_of next.ahead) ≡ false = any_claims (in_way (claim_of g)) next.ahead ∙ parts.1 in
      let front : ahead g.session (waiting past) ≡ map claim_of next.ahead = rw split (ahead_of_it (map claim_of next.ahead) (map claim_of next.behind) (claim_of g) apart) in
      rw (front, lock, request) refl

  is_its : is_grant past (lock_by xact g) ≡ true
  is_its = rw own there

  comes : Ascends past g.table → MayCome terms past (lock_by xact g)
  comes ascends = record {
    rule = record { open_xact = rw own open_so; can_be = rw own can; asked = inl (record { waits = is_its; ascends = ascends }) };
    settled = rw is_its tt;
    follows = rw is_its tt;
    timely = rw is_its refl;
    alone = grant_alone past (xact g.session) g.table g.mode (rw own can);
  }

  left_so : waiting (lock_by xact g ∷ past) ≡ without g.session (waiting past)
  left_so = rw own (takes_own (claim_of g) (waiting past) (distinct_of (waiting past) tied.apart) (inl there))

  still_tied : IsTied (lock_by xact g ∷ past) (record { held = locks.held ++ g ∷ []; waiting = next.ahead ++ next.behind; granted = locks.granted })
  still_tied =
      let left : without g.session (waiting past) ≡ map claim_of (next.ahead ++ next.behind) = rw split (left_apart (map claim_of next.ahead) (map claim_of next.behind) (claim_of g) apart ∙ sym (claims_append next.ahead next.behind)) in
      record {
        waits = rw (left_so, left) (sym (grants_again (next.ahead ++ next.behind)));
        holds = λ test. holds_push past locks (xact g.session) (claim_of g) own tied test;
        apart = rw left_so (apart_left g.session (waiting past) tied.apart);
      }

  still_knows : Knows (lock_by xact g ∷ past) xact
  still_knows c left = knows c (held_left g.session (waiting past) c (rw left_so at left)).0

  wants_no_more : (r : ℕ) → wanted_by (lock_by xact g ∷ past) r ≡ cond (g.session == r) None (wanted_by past r)
  wants_no_more r = rw own refl

  waits_still : (c : Claim) (b : Bool) → (is_held (waiting (lock_by xact g ∷ past)) c ≡ true) × (b ≡ false) → (is_held (waiting past) c ≡ true) × (((g.session == c.session) || b) ≡ false)
  waits_still c b there =
      let left = held_left g.session (waiting past) c (rw left_so at there.0) in
      (left.0, or_from (g.session == c.session) b (turn c.session g.session left.1) there.1)

-- ---- all of them

-- the locks that were granted have come
pub record HaveCome (terms : Terms) (xact : ℕ → ℕ) (grants : List Grant) (past : Past) (locks : Locks) : Type 0 where
  pub legal : Legal terms (locked_by xact grants past)
  pub tied : IsTied (locked_by xact grants past) locks
  pub are_grants : AreGrants (locks_of xact grants) past
  pub wants : (r : ℕ) → wanted_by (locked_by xact grants past) r ≡ cond (is_granted r grants) None (wanted_by past r)
  pub still : (c : Claim) → is_held (waiting (locked_by xact grants past)) c ≡ true → (is_held (waiting past) c ≡ true) × (is_granted c.session grants ≡ false)

wants_both : (a b : Bool) (o : Option Want) → cond b None (cond a None o) ≡ cond (a || b) None o
wants_both true true o = refl
wants_both true false o = refl
wants_both false b o = refl

come_all : (terms : Terms) (past : Past) (xact : ℕ → ℕ) (least : ℕ) (locks : Locks) (grants rest : List Grant) → Legal terms past → IsTied past locks → Come locks.held locks.waiting grants rest → Knows past xact
    → ((table : ℕ) → least ≤ table → Ascends past table) → AscendsFrom least grants
    → HaveCome terms xact grants past (record { held = locks.held ++ grants; waiting = rest; granted = locks.granted })
come_all terms past xact least locks [] rest legal tied come knows ascends sorted = record {
  legal = legal;
  tied = rw (append-nil locks.held, come) tied;
  are_grants = tt;
  wants = λ r. refl;
  still = λ c there. (there, refl);
}
come_all terms past xact least locks (g ∷ grants) rest legal tied come knows ascends sorted =
    let next : IsNext locks.held locks.waiting g = come.0 in
    let more : HaveCome terms xact grants (lock_by xact g ∷ past) (record { held = (locks.held ++ g ∷ []) ++ grants; waiting = rest; granted = locks.granted }) =
    come_all terms (lock_by xact g ∷ past) xact g.table (record { held = locks.held ++ g ∷ []; waiting = next.ahead ++ next.behind; granted = locks.granted }) grants rest
    (comes terms past locks xact g legal tied next knows (ascends g.table sorted.0), legal) (still_tied terms past locks xact g legal tied next knows) come.1 (still_knows terms past locks xact g legal tied next knows) (λ table le. le) sorted.1 in
    record {
      legal = more.legal;
      tied = rw (append_assoc locks.held (g ∷ []) grants) at more.tied;
      are_grants = grants_push (locks_of xact grants) (lock_by xact g) past more.are_grants (is_its terms past locks xact g legal tied next knows);
      wants = λ r. more.wants r ∙ (ap (λ (o : Option Want). cond (is_granted r grants) None o) (wants_no_more terms past locks xact g legal tied next knows r) ∙ wants_both (g.session == r) (is_granted r grants) (wanted_by past r));
      still = λ c there. waits_still terms past locks xact g legal tied next knows c (is_granted c.session grants) (more.still c there);
    }

-- the journal may go on by the locks that a walk has granted, and is tied to the locks after it
pub grants_come : (terms : Terms) (past : Past) (xact : ℕ → ℕ) (locks after : Locks) → Legal terms past → IsTied past locks → HandsOn locks after → Knows past xact → ((table : ℕ) → Ascends past table)
    → HaveCome terms xact after.granted past after
grants_come terms past xact locks after legal tied hands knows ascends =
    let all : HaveCome terms xact after.granted past (record { held = locks.held ++ after.granted; waiting = after.waiting; granted = locks.granted }) =
    come_all terms past xact 0 locks after.granted after.waiting legal tied hands.rightly knows (λ table le. ascends table) hands.ascends in
    record {
      legal = all.legal;
      tied = record {
        waits = all.tied.waits;
        holds = λ test. hands.gained test ∙ (sym (sum_by-append (λ (g : Grant). cond (test g) 1 0) locks.held after.granted) ∙ all.tied.holds test);
        apart = all.tied.apart;
      };
      are_grants = all.are_grants;
      wants = all.wants;
      still = all.still;
    }

-- ---- the end of a transaction

pub commit_frees : (terms : Terms) (past : Past) (x : ℕ) (xact : ℕ → ℕ) (locks after : Locks) → Legal terms (Commit x ∷ past) → IsTied past locks → HandsOn (released locks (session_of past x)) after → Knows (Commit x ∷ past) xact
    → HaveCome terms xact after.granted (Commit x ∷ past) after
commit_frees terms past x xact locks after legal tied hands knows =
    grants_come terms (Commit x ∷ past) xact (released locks (session_of past x)) after legal (tie_released past (Commit x ∷ past) locks (session_of past x) refl refl tied) hands knows (λ table. tt)

pub abort_frees : (terms : Terms) (past : Past) (x : ℕ) (xact : ℕ → ℕ) (locks after : Locks) → Legal terms (Abort x ∷ past) → IsTied past locks → HandsOn (released locks (session_of past x)) after → Knows (Abort x ∷ past) xact
    → HaveCome terms xact after.granted (Abort x ∷ past) after
abort_frees terms past x xact locks after legal tied hands knows =
    grants_come terms (Abort x ∷ past) xact (released locks (session_of past x)) after legal (tie_released past (Abort x ∷ past) locks (session_of past x) refl refl tied) hands knows (λ table. tt)

pub settled_then : (terms : Terms) (past : Past) (xact : ℕ → ℕ) (after : Locks) → HaveCome terms xact after.granted past after → IsSettled after → is_settled (locked_by xact after.granted past) ≡ true
settled_then terms past xact after all settled = settled_tied (locked_by xact after.granted past) after all.tied settled

pub driven_then : (terms : Terms) (past : Past) (xact : ℕ → ℕ) (after : Locks) → HaveCome terms xact after.granted past after → Driven terms past → Driven terms (locked_by xact after.granted past)
driven_then terms past xact after all driven = rw (locked_is xact after.granted past) (driven_grants terms (locks_of xact after.granted) past all.are_grants driven)

pub weight_granted : (terms : Terms) (xact : ℕ → ℕ) (past : Past) (after : Locks) → HaveCome terms xact after.granted past after → weight (locked_by xact after.granted past) ≡ weight past
weight_granted terms xact past after all = ap weight (locked_is xact after.granted past) ∙ weight_grants (locks_of xact after.granted) past all.are_grants

-- the open transactions of the sessions are known where each session's is looked up
pub knows_open : (terms : Terms) (past : Past) (xact : ℕ → ℕ) → Legal terms past → ((s x : ℕ) → xact_of past s ≡ Some x → xact s ≡ x) → Knows past xact
knows_open terms past xact legal same c there = by_case (xact_of past c.session) refl (waiting_open terms past legal c there) where
  by_case : (o : Option ℕ) → xact_of past c.session ≡ o → IsSome o → xact_of past c.session ≡ Some (xact c.session)
  by_case None is some = absurd cc
  by_case (Some x) is some = is ∙ ap (λ (y : ℕ). Some y) (sym (same c.session x is))
