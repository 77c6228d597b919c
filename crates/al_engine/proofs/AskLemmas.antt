-- A statement asks for the lock that it lacks.
use Rattle.std.proofs.Common.{◌≡◌, ℕ, ◌+◌, ◌≤◌, List, [], ◌∷◌, length, refl, sym, ap, cond, true, false, Bool, Option, Some, None, arith, ◌∙◌, slice_get, slice_set, length-append, subst}
use Rattle.std.specs.Prelude.{nat_le, ◌==◌, ◌&&◌, not, IsSome, is_some, if◌then◌else◌, reverse}
use Rattle.std.proofs.lemmas.Bool.{eqb-true}
use Rattle.al_queue.specs.declared.grant.Asked.TheVariants.{Granted, Queued}
use Rattle.al_queue.specs.InWay.{grantable as is_grantable, asked}
use Rattle.al_queue.specs.Settled.{IsSettled}
use Rattle.al_statements.specs.declared.cause.RunLimit.TheVariants as limits
use Rattle.al_statements.specs.declared.cause.Cause.{Cause}
use Rattle.al_statements.specs.declared.cause.Cause.TheVariants as causes
use Rattle.al_history.specs.declared.entry.Want.{Want}
use Rattle.al_history.specs.declared.entry.Want.TheVariants as wants
use Rattle.al_history.specs.declared.entry.Entry.{Entry}
use Rattle.al_history.specs.declared.entry.Entry.TheVariants.{Give, Wait, Lock, Look, Done}
use Rattle.al_history.specs.declared.statement.Terms.{Terms}
use Rattle.al_history.specs.Kept.{Kept as KeptJournal}
use Rattle.al_history.specs.Past.{Past, past_of}
use Rattle.al_history.specs.Fate.{is_that}
use Rattle.al_history.specs.Hand.{hand, xact_of, session_of, look_of}
use Rattle.al_history.specs.Locks.{Claim, claim, waiting, grantable, is_settled, is_waiting}
use Rattle.al_history.specs.Made.{made_by}
use Rattle.al_history.specs.Waits.{wanted_by, is_blocked, can_go_on}
use Rattle.al_history.specs.Weight.{weight}
use Rattle.al_history.specs.Cause.{cause_of, first_of}
use Rattle.al_history.specs.Legal.{Legal, MayCome}
use Rattle.al_history.specs.Whole.{driver, IsLeast}
use Rattle.al_history.proofs.Comes.{lacking_in, lacking_is, comes_lock, comes_wait, goes}
use Rattle.al_history.proofs.Doings.{Doing, doing, moved, IsXact, IsBy, own_moves, others_stay}
use Rattle.al_history.proofs.Turns.{Went, stage_begins, stage_on, stage_went, wait_went, step_lock}
use Rattle.al_history.proofs.Xacts.{xact_is}
use Rattle.al_engine.specs.declared.sessions.Session.{Session}
use Rattle.al_engine.specs.Listed.{AreControlled, KeepsControls, Listed}
use Rattle.al_engine.specs.Kept.{listed_in, Parts, IsKept, CanBeRefused, Lacks, over_by, used_by}
use Rattle.al_engine.specs.LockTie.{grant_of, asks, IsTied}
use Rattle.al_engine.specs.Sessions.{IsMirror, IsUnderway, IsOutlined}
use Rattle.al_engine.proofs.SessionLemmas.{light_set, length_set, mirrors_set, marked_set}
use Rattle.al_engine.proofs.Ties.{same_grantable, tie_granted, tie_queued, settled_tied}
use Rattle.al_engine.proofs.Wanted.{free_asks, asks_its, blocked_by_lock, wants_locked, wants_queued}
use Rattle.al_history.proofs.Requests.{waiting_lock}

-- ---- who hasn't looked waits for no end of a transaction

still_wanted : (b : Bool) (o : Option Want) (want : Want) (P : Type 0) → cond b None o ≡ Some want → (b ≡ false → o ≡ Some want → P) → P
still_wanted true o want P is more = absurd cc
still_wanted false o want P is more = more refl is

kept_look : (b : Bool) (o : Option Past) → b ≡ false → IsSome o → IsSome (cond b None o)
kept_look b o e some = rw e some

-- a session that waits for the end of a transaction has looked
ends_looked : (terms : Terms) (past : Past) (s y : ℕ) → Legal terms past → wanted_by past s ≡ Some (wants.Ends y) → IsSome (look_of past s)
ends_looked terms [] s y legal is = absurd cc
ends_looked terms (Wait x want ∷ past) s y legal is = by_test (session_of past x == s) refl is (λ h. ends_looked terms past s y legal.1 h) where
  by_test : (b : Bool) → (session_of past x == s) ≡ b → cond b (Some want) (wanted_by past s) ≡ Some (wants.Ends y) → (wanted_by past s ≡ Some (wants.Ends y) → IsSome (look_of past s)) → IsSome (look_of past s)
  by_test true own is more =
      let same : want ≡ wants.Ends y = cc in
      rw (eqb-true (session_of past x) s own) at (rw same at legal.0.rule.waits_for).0
  by_test false own is more = more is
ends_looked terms (Give r block ∷ past) s y legal is = still_wanted (r == s) (wanted_by past s) (wants.Ends y) _ is (λ other h. kept_look (r == s) (look_of past s) other (ends_looked terms past s y legal.1 h))
ends_looked terms (Done r reply ∷ past) s y legal is = still_wanted (r == s) (wanted_by past s) (wants.Ends y) _ is (λ other h. kept_look (r == s) (look_of past s) other (ends_looked terms past s y legal.1 h))
ends_looked terms (Look x ∷ past) s y legal is = still_wanted (session_of past x == s) (wanted_by past s) (wants.Ends y) _ is (λ other h. looked_too (is_that (xact_of past s) x) (ends_looked terms past s y legal.1 h)) where
  looked_too : (b : Bool) → IsSome (look_of past s) → IsSome (cond b (Some past) (look_of past s))
  looked_too true some = refl
  looked_too false some = some
ends_looked terms (e ∷ past) s y legal is = still_wanted (made_by past e == s) (wanted_by past s) (wants.Ends y) _ is (λ other h. ends_looked terms past s y legal.1 h)

not_looked : (o : Option Past) → o ≡ None → IsSome o → ⊥
not_looked None none some = absurd cc
not_looked (Some look) none some = absurd cc

unblocked : (a b : Bool) → a && not b ≡ true → (a ≡ true) × (b ≡ false)
unblocked true true goes_on = absurd cc
unblocked true false goes_on = (refl, refl)
unblocked false b goes_on = absurd cc

-- a session that can go on and hasn't looked waits for nothing
pub unwaited : (terms : Terms) (past : Past) (s : ℕ) → Legal terms past → is_settled past ≡ true → can_go_on past s ≡ true → look_of past s ≡ None → wanted_by past s ≡ None
unwaited terms past s legal settled goes_on before = by_want (wanted_by past s) refl where
  by_want : (o : Option Want) → wanted_by past s ≡ o → o ≡ None
  by_want None is = refl
  by_want (Some (wants.Table table mode)) is =
      let blocked : is_blocked past s ≡ true = blocked_by_lock past s table mode settled is in
      let free : is_blocked past s ≡ false = (unblocked (is_some (hand past s)) (is_blocked past s) goes_on).1 in
      absurd cc
  by_want (Some (wants.Ends y)) is = absurd (not_looked (look_of past s) before (ends_looked terms past s y legal is))

-- ---- it asks

-- the limit of the journal is no cancel
pub over_uncut : (limit so_far next : ℕ) (cause : Cause) → Some cause ≡ over_by limit so_far next → used_by cause ≡ 0
over_uncut limit so_far next cause is = by_test (nat_le (so_far + next) limit) is where
  by_test : (b : Bool) → Some cause ≡ cond b None (Some (causes.Limit limits.Journal (so_far + next))) → used_by cause ≡ 0
  by_test true is = absurd cc
  by_test false is = let one : cause ≡ causes.Limit limits.Journal (so_far + next) = cc in rw one refl

-- nor is the first of two causes, where neither is
pub first_uncut : (first second : Option Cause) (cause : Cause) → ((c : Cause) → Some c ≡ first → used_by c ≡ 0) → ((c : Cause) → Some c ≡ second → used_by c ≡ 0) → Some cause ≡ first_of first second → used_by cause ≡ 0
first_uncut None second cause one two is = two cause is
first_uncut (Some c) second cause one two is = one cause is

waiting_none : (past : Past) (c : Claim) → asks c.session (waiting past) ≡ false → is_waiting past c ≡ false
waiting_none past c none = by_test (is_waiting past c) refl where
  by_test : (b : Bool) → is_waiting past c ≡ b → is_waiting past c ≡ false
  by_test true there = absurd (asks_its (waiting past) c there none)
  by_test false is = is

-- what is kept of the sessions stays, where it is what this one is doing still
mirrors_stay : (terms : Terms) (past after : Past) (sessions : List Session) (s : ℕ) (t : Session) → slice_get sessions s ≡ Some t → ((r : ℕ) (u : Session) → slice_get sessions r ≡ Some u → IsMirror terms (doing past r) u) → ((r : ℕ) → (s == r) ≡ false → doing after r ≡ doing past r) → IsMirror terms (doing after s) t → (r : ℕ) (u : Session) → slice_get sessions r ≡ Some u → IsMirror terms (doing after r) u
mirrors_stay terms past after sessions s t state mirrors others own r u there = by_test (s == r) refl where
  by_test : (b : Bool) → (s == r) ≡ b → IsMirror terms (doing after r) u
  by_test true same =
      let one : s ≡ r = eqb-true s r same in
      let two : ◌≡◌ {A = Option Session} (Some t) (Some u) = sym state ∙ rw (← one) at there in
      let three : t ≡ u = cc in
      rw (← one, ← three) own
  by_test false other = rw (others r other) (mirrors r u there)

-- its statement is under way still
still_underway : (terms : Terms) (d e : Doing) (block done left : ℕ) (looked : Bool) → e.dones ≡ d.dones → e.refused ≡ d.refused → e.acts ≡ d.acts → e.look ≡ d.look → IsUnderway terms d block done left looked → IsUnderway terms e block done left looked
still_underway terms d e block done left looked dones_same refused_same acts_same look_same u = record {
  dones_is = dones_same ∙ u.dones_is;
  counted = u.counted;
  none_refused = refused_same ∙ u.none_refused;
  no_acts = acts_same ∙ u.no_acts;
  look_is = ap (λ (o : Option Past). is_some o) look_same ∙ u.look_is;
  only_creates = u.only_creates;
}

module _ (terms : Terms) (p : Parts) (s : ℕ) (t : Session) (x : ℕ) (c : Claim) (k : Lacks terms p s t x c) where
  abbrev now : Past
  now = past_of p.journal

  outline : IsOutlined (doing (past_of p.journal) s) t
  outline = (k.kept.mirrors s t k.state).outline

  by : IsXact (past_of p.journal) s x
  by = record { session = (xact_is terms (past_of p.journal) s x k.kept.sound.legal (outline.xact_is ∙ k.in_xact)).own; open_xact = outline.xact_is ∙ k.in_xact }

  pub none_asked : asks s (waiting (past_of p.journal)) ≡ false
  none_asked = free_asks (past_of p.journal) s k.kept.wants_so k.kept.clear.settled (unblocked (is_some (hand (past_of p.journal) s)) (is_blocked (past_of p.journal) s) k.goes).1

  free_wants : wanted_by (past_of p.journal) s ≡ None
  free_wants = unwaited terms (past_of p.journal) s k.kept.sound.legal k.kept.clear.settled k.goes k.before_look

  lacks_so : lacking_in terms (past_of p.journal) s x (doing (past_of p.journal) s) ≡ Some c
  lacks_so = sym (lacking_is terms (past_of p.journal) s (doing (past_of p.journal) s) k.kept.sound.legal refl k.kept.clear.settled x by) ∙ k.lacks

  can_is : is_grantable p.locks.locks (grant_of c) ≡ grantable (past_of p.journal) c
  can_is = same_grantable (past_of p.journal) p.locks.locks c k.kept.sound.tied (rw k.own none_asked)

  judged_so : cause_of terms (past_of p.journal) s ≡ over_by terms.weight p.weight (cond (is_grantable p.locks.locks (grant_of c)) 1 2)
  judged_so = k.judged ∙ rw (can_is, k.kept.sound.weighed) refl

  -- the journal has no place for it
  pub asks_refused : (cause : Cause) (next : ℕ) → Some cause ≡ over_by terms.weight p.weight next → next ≡ cond (is_grantable p.locks.locks (grant_of c)) 1 2 → CanBeRefused terms (past_of p.journal) s t cause
  asks_refused cause next is weighs = record {
    hand_is = outline.hand_is;
    xact_is = outline.xact_is;
    block_is = outline.block_is;
    closed_is = outline.closed_is;
    in_step = in_step_so;
    first_true = judged_so ∙ (ap (λ (n : ℕ). over_by terms.weight p.weight n) (sym weighs) ∙ sym is);
    settled = k.kept.clear.settled;
    follows = rw k.kept.clear.owed_is tt;
    timely = rw k.kept.clear.owed_is k.goes;
  } where
    in_step_so : IsSome t.hand
    in_step_so = subst (λ (o : Option ℕ). IsSome o) outline.hand_is ((unblocked (is_some (hand (past_of p.journal) s)) (is_blocked (past_of p.journal) s) k.goes).0)

  -- the other parts are as they were, and a place more is reserved
  pub record AskedSo (q : Parts) : Type 0 where
    pub tables : q.tables ≡ p.tables
    pub committed : q.committed ≡ p.committed
    pub room : p.journal.room + 1 ≤ q.journal.room
    pub locks : q.locks ≡ record { sessions = p.locks.sessions; locks = asked p.locks.locks (grant_of c) }
    pub settled : IsSettled p.locks.locks → IsSettled q.locks.locks
    pub weighs : q.weight ≡ p.weight + cond (is_grantable p.locks.locks (grant_of c)) 1 2
    pub fits : over_by terms.weight p.weight (cond (is_grantable p.locks.locks (grant_of c)) 1 2) ≡ None

  others_so : (e : Entry) → IsBy (past_of p.journal) s e → (r : ℕ) → (s == r) ≡ false → doing (e ∷ past_of p.journal) r ≡ doing (past_of p.journal) r
  others_so e its r other = others_stay terms (past_of p.journal) s r k.kept.sound.legal other e its

  underway : (block : ℕ) → t.hand ≡ Some block → IsUnderway terms (doing (past_of p.journal) s) block t.done t.left t.looked
  underway = (k.kept.mirrors s t k.state).underway

  -- it got the lock
  module _ (q : Parts) (a : AskedSo q) (same : listed_in q ≡ listed_in p) (past_is : past_of q.journal ≡ Lock x c.table c.mode ∷ past_of p.journal) (can : is_grantable p.locks.locks (grant_of c) ≡ true) where
    lock_may : MayCome terms (past_of p.journal) (Lock x c.table c.mode)
    lock_may = comes_lock terms (past_of p.journal) s (doing (past_of p.journal) s) k.kept.sound.legal refl k.kept.clear.settled x by c k.own (sym can_is ∙ can) unasked lacks_so k.before_look (judged_so ∙ a.fits) k.kept.clear.owed_is k.goes where
      unasked : is_waiting (past_of p.journal) c ≡ false
      unasked = waiting_none (past_of p.journal) c (rw k.own none_asked)

    got_tied : IsTied (Lock x c.table c.mode ∷ past_of p.journal) q.locks.locks
    got_tied = rw a.locks (tie_granted (past_of p.journal) p.locks.locks x c (by.session ∙ sym k.own) k.kept.sound.tied (rw k.own none_asked) (sym can_is ∙ can))

    got_settled : is_settled (Lock x c.table c.mode ∷ past_of p.journal) ≡ true
    got_settled = settled_tied (Lock x c.table c.mode ∷ past_of p.journal) q.locks.locks got_tied (a.settled k.kept.sound.queues)

    got_mirror : IsMirror terms (doing (Lock x c.table c.mode ∷ past_of p.journal) s) t
    got_mirror = rw (own_moves (past_of p.journal) s (Lock x c.table c.mode) by) (record {
      outline = record { hand_is = outline.hand_is; xact_is = outline.xact_is; block_is = outline.block_is; closed_is = outline.closed_is; wants_is = sym free_wants ∙ outline.wants_is };
      underway = λ block busy. still_underway terms (doing (past_of p.journal) s) (moved (past_of p.journal) (Lock x c.table c.mode) (doing (past_of p.journal) s)) block t.done t.left t.looked refl refl refl refl (underway block busy);
    })

    sessions : q.sessions ≡ p.sessions
    sessions = ap (λ (l : Listed). l.list) same

    got_waiting : q.locks.locks.waiting ≡ p.locks.locks.waiting
    got_waiting = rw (a.locks, can) refl

    got_weighs : p.weight + cond (is_grantable p.locks.locks (grant_of c)) 1 2 ≡ weight (Lock x c.table c.mode ∷ past_of p.journal)
    got_weighs =
        let is_claim : claim (past_of p.journal) x c.table c.mode ≡ c = rw (by.session, ← k.own) refl in
        let unasked : is_waiting (past_of p.journal) (claim (past_of p.journal) x c.table c.mode) ≡ false = rw is_claim (waiting_none (past_of p.journal) c (rw k.own none_asked)) in
        rw (can, unasked, k.kept.sound.weighed) refl

    pub got_kept : IsKept terms q
    got_kept = record {
      sound = record {
        legal = rw past_is (lock_may, k.kept.sound.legal);
        count = rw sessions k.kept.sound.count;
        controlled = subst (λ (l : Listed). AreControlled terms l) (sym same) k.kept.sound.controlled;
        beyond = λ r le. rw past_is (k.kept.sound.beyond r (rw sessions at le));
        stored = rw (a.tables, past_is) k.kept.sound.stored;
        tells = λ y. rw (a.committed, past_is) (k.kept.sound.tells y);
        marked = λ r y u there own. rw a.committed (k.kept.sound.marked r y u (rw sessions at there) own);
        table_count = rw a.locks k.kept.sound.table_count;
        tied = rw past_is got_tied;
        queues = a.settled k.kept.sound.queues;
        weighed = rw past_is (a.weighs ∙ got_weighs);
        reserved = rw (sessions, got_waiting) (omega (arith, k.kept.sound.reserved, a.room));
      };
      wants_so = rw past_is (wants_locked (past_of p.journal) x c.table c.mode (waiting_lock terms (past_of p.journal) x c.table c.mode (lock_may, k.kept.sound.legal)) (λ d there other. k.kept.wants_so d there));
      mirrors = λ r u there. rw past_is (mirrors_stay terms (past_of p.journal) (Lock x c.table c.mode ∷ past_of p.journal) p.sessions s t k.state k.kept.mirrors (others_so (Lock x c.table c.mode) by) got_mirror r u (rw sessions at there));
      clear = rw past_is (record { owed_is = k.kept.clear.owed_is; settled = got_settled });
    }

    got_goes : can_go_on (Lock x c.table c.mode ∷ past_of p.journal) s ≡ true
    got_goes = by_hand (hand (past_of p.journal) s) refl (unblocked (is_some (hand (past_of p.journal) s)) (is_blocked (past_of p.journal) s) k.goes).0 where
      by_hand : (o : Option ℕ) → hand (past_of p.journal) s ≡ o → is_some o ≡ true → can_go_on (Lock x c.table c.mode ∷ past_of p.journal) s ≡ true
      by_hand None is busy = absurd cc
      by_hand (Some block) is busy = goes terms (Lock x c.table c.mode ∷ past_of p.journal) s (moved (past_of p.journal) (Lock x c.table c.mode) (doing (past_of p.journal) s)) (lock_may, k.kept.sound.legal) (own_moves (past_of p.journal) s (Lock x c.table c.mode) by) got_settled block is refl

    pub got_went : Went terms s (past_of p.journal) (past_of q.journal) false (driver (past_of p.journal)) (IsLeast (past_of p.journal) s)
    got_went = rw past_is (stage_went terms s (past_of p.journal) (Lock x c.table c.mode ∷ past_of p.journal) 0 (stage_on terms s (past_of p.journal) (past_of p.journal) 0 0 (Lock x c.table c.mode) (stage_begins terms s (past_of p.journal) k.kept.sound.legal k.kept.clear.settled k.kept.clear.owed_is) (step_lock x c.table c.mode) by lock_may got_settled k.kept.clear.owed_is got_goes (omega arith)) (omega arith) (omega arith))

  -- its request waits
  module _ (q : Parts) (a : AskedSo q) (sessions : q.sessions ≡ slice_set p.sessions s (record t { wants = Some (wants.Table c.table c.mode) })) (controls_kept : KeepsControls (listed_in p) (listed_in q)) (past_is : past_of q.journal ≡ Wait x (wants.Table c.table c.mode) ∷ past_of p.journal) (cant : is_grantable p.locks.locks (grant_of c) ≡ false) where
    wait_may : MayCome terms (past_of p.journal) (Wait x (wants.Table c.table c.mode))
    wait_may = by_hand (hand (past_of p.journal) s) refl (unblocked (is_some (hand (past_of p.journal) s)) (is_blocked (past_of p.journal) s) k.goes).0 where
      by_hand : (o : Option ℕ) → hand (past_of p.journal) s ≡ o → is_some o ≡ true → MayCome terms (past_of p.journal) (Wait x (wants.Table c.table c.mode))
      by_hand None is busy = absurd cc
      by_hand (Some block) is busy = comes_wait terms (past_of p.journal) s (doing (past_of p.journal) s) k.kept.sound.legal refl k.kept.clear.settled x by c block k.own (sym can_is ∙ cant) lacks_so k.before_look is free_wants (judged_so ∙ a.fits) k.kept.clear.owed_is

    queued_tied : IsTied (Wait x (wants.Table c.table c.mode) ∷ past_of p.journal) q.locks.locks
    queued_tied = rw a.locks (tie_queued (past_of p.journal) p.locks.locks x c (by.session ∙ sym k.own) k.kept.sound.tied (rw k.own none_asked) (sym can_is ∙ cant))

    queued_settled : is_settled (Wait x (wants.Table c.table c.mode) ∷ past_of p.journal) ≡ true
    queued_settled = settled_tied (Wait x (wants.Table c.table c.mode) ∷ past_of p.journal) q.locks.locks queued_tied (a.settled k.kept.sound.queues)

    queued_mirror : IsMirror terms (doing (Wait x (wants.Table c.table c.mode) ∷ past_of p.journal) s) (record t { wants = Some (wants.Table c.table c.mode) })
    queued_mirror = rw (own_moves (past_of p.journal) s (Wait x (wants.Table c.table c.mode)) by) (record {
      outline = record { hand_is = outline.hand_is; xact_is = outline.xact_is; block_is = outline.block_is; closed_is = outline.closed_is; wants_is = refl };
      underway = λ block busy. still_underway terms (doing (past_of p.journal) s) (moved (past_of p.journal) (Wait x (wants.Table c.table c.mode)) (doing (past_of p.journal) s)) block t.done t.left t.looked refl refl refl refl (underway block busy);
    })

    queued_waiting : length q.locks.locks.waiting ≡ length p.locks.locks.waiting + 1
    queued_waiting = rw (a.locks, cant) (length-append p.locks.locks.waiting (grant_of c ∷ []))

    queued_weighs : p.weight + cond (is_grantable p.locks.locks (grant_of c)) 1 2 ≡ weight (Wait x (wants.Table c.table c.mode) ∷ past_of p.journal)
    queued_weighs = rw (cant, k.kept.sound.weighed) refl

    pub queued_kept : IsKept terms q
    queued_kept = record {
      sound = record {
        legal = rw past_is (wait_may, k.kept.sound.legal);
        count = rw sessions (length_set p.sessions s (record t { wants = Some (wants.Table c.table c.mode) }) ∙ k.kept.sound.count);
        controlled = controls_kept terms k.kept.sound.controlled;
        beyond = λ r le. rw past_is (k.kept.sound.beyond r (rw (sessions, length_set p.sessions s (record t { wants = Some (wants.Table c.table c.mode) })) at le));
        stored = rw (a.tables, past_is) k.kept.sound.stored;
        tells = λ y. rw (a.committed, past_is) (k.kept.sound.tells y);
        marked = λ r y u there own. rw a.committed (marked_set p.sessions s (length p.committed) (record t { wants = Some (wants.Table c.table c.mode) }) k.kept.sound.marked (λ z has. k.kept.sound.marked s z t k.state has) r y u (rw sessions at there) own);
        table_count = rw a.locks k.kept.sound.table_count;
        tied = rw past_is queued_tied;
        queues = a.settled k.kept.sound.queues;
        weighed = rw past_is (a.weighs ∙ queued_weighs);
        reserved = rw sessions (omega (arith, k.kept.sound.reserved, a.room, queued_waiting, light_set p.sessions s t (record t { wants = Some (wants.Table c.table c.mode) }) k.state));
      };
      wants_so = rw past_is (wants_queued (past_of p.journal) x c (by.session ∙ sym k.own) (rw k.own none_asked) (λ d there other. k.kept.wants_so d there));
      mirrors = λ r u there. rw past_is (mirrors_set terms (past_of p.journal) (Wait x (wants.Table c.table c.mode) ∷ past_of p.journal) p.sessions s (record t { wants = Some (wants.Table c.table c.mode) }) (λ v w other is. k.kept.mirrors v w is) (others_so (Wait x (wants.Table c.table c.mode)) by) queued_mirror r u (rw sessions at there));
      clear = rw past_is (record { owed_is = refl; settled = queued_settled });
    }

    pub queued_went : Went terms s (past_of p.journal) (past_of q.journal) false (driver (past_of p.journal)) (IsLeast (past_of p.journal) s)
    queued_went = rw past_is (wait_went terms s (past_of p.journal) (past_of p.journal) 0 x (wants.Table c.table c.mode) (stage_begins terms s (past_of p.journal) k.kept.sound.legal k.kept.clear.settled k.kept.clear.owed_is) (omega arith) (omega arith) by wait_may)

-- ---- what the calls tell

-- a journal in which places were reserved
pub past_same : (reserved old : KeptJournal) → reserved.entries ≡ old.entries → past_of reserved ≡ past_of old
past_same reserved old same = ap (λ (entries : List Entry). reverse entries) same

-- a journal that got an entry after places were reserved in it
pub pushed : (past : Past) (e : Entry) (reserved old : KeptJournal) → past ≡ e ∷ past_of reserved → reserved.entries ≡ old.entries → past ≡ e ∷ past_of old
pushed past e reserved old is same = is ∙ ap (λ (entries : List Entry). e ∷ reverse entries) same

-- what the table has answered
pub granted_so : (b : Bool) (place : ℕ) → Granted ≡ (if b then Granted else Queued place) → b ≡ true
granted_so true place is = refl
granted_so false place is = absurd cc

pub queued_so : (b : Bool) (place at : ℕ) → Queued at ≡ (if b then Granted else Queued place) → b ≡ false
queued_so true place at is = absurd cc
queued_so false place at is = refl
