-- What is kept in the middle of a call, entry by entry, up to the next moment between two calls.
use Rattle.std.proofs.Common.{◌≡◌, ℕ, ◌+◌, ◌<◌, ◌≤◌, List, ◌∷◌, length, refl, sym, ap, cond, true, false, Bool, Option, Some, None, arith, ◌∙◌, ◌⊎◌, inl, inr, slice_get, slice_set, option_map}
use Rattle.std.specs.Prelude.{◌==◌}
use Rattle.std.proofs.lemmas.Bool.{ne_eqb}
use Rattle.std.proofs.lemmas.List.{length-set}
use Rattle.std.proofs.lemmas.Option.{slice_get_within}
use Rattle.al_statements.specs.declared.cause.Cause.{Cause}
use Rattle.al_statements.specs.declared.reply.Reply.{Reply}
use Rattle.al_history.specs.declared.entry.Entry.{Entry}
use Rattle.al_history.specs.declared.entry.Entry.TheVariants.{Done, Refuse, Commit, Abort, Cancel, End, Close}
use Rattle.al_history.specs.declared.statement.Terms.{Terms}
use Rattle.al_history.specs.Past.{Past, past_of}
use Rattle.al_history.specs.Fate.{fate}
use Rattle.al_history.specs.Hand.{xact_of}
use Rattle.al_history.specs.Locks.{held, waiting, is_settled}
use Rattle.al_history.specs.Made.{made_by}
use Rattle.al_history.specs.Store.{store}
use Rattle.al_history.specs.Tail.{owed}
use Rattle.al_history.specs.Waits.{wanted_by}
use Rattle.al_history.specs.Weight.{weight}
use Rattle.al_history.specs.Legal.{MayCome}
use Rattle.al_history.proofs.Doings.{Doing, doing, IsBy, IsXact, made_so, others_stay}
use Rattle.al_history.proofs.Pasts.{if_same}
use Rattle.al_history.proofs.Xacts.{xact_is}
use Rattle.al_queue.specs.declared.grant.Grant.{Grant}
use Rattle.al_queue.specs.Locks.{Locks}
use Rattle.al_queue.specs.Walk.{released}
use Rattle.al_queue.specs.Settled.{IsSettled, HandsOn}
use Rattle.al_engine.specs.declared.sessions.Session.{Session}
use Rattle.al_engine.specs.LockTie.{asks, IsTied, WantsSo, OthersWant, locked_by, is_granted}
use Rattle.al_engine.specs.Sessions.{xact_in, woken, IsMirror, light_of}
use Rattle.al_engine.specs.Stored.{TellsCommitted}
use Rattle.al_engine.specs.Listed.{KeepsControls}
use Rattle.al_engine.specs.Kept.{listed_in, Parts, IsSound, IsAmid, IsKept}
use Rattle.al_engine.proofs.Grants.{HaveCome, commit_frees, abort_frees, settled_then, weight_granted}
use Rattle.al_engine.proofs.LockLists.{LeavesSo, leaves_so}
use Rattle.al_engine.proofs.Mirrors.{others_on, others_granted, knows_others}
use Rattle.al_engine.proofs.SessionLemmas.{light_set, got_set, length_set}
use Rattle.al_engine.proofs.StoredLemmas.{tells_commit, tells_abort}
use Rattle.al_engine.proofs.Wanted.{wants_committed, wants_aborted, wants_come, wants_all, others_still}
use Rattle.al_engine.proofs.Woken.{calmed, woken_get, woken_length, woken_light, few_granted}

-- ---- entries that change no table, no lock and no transaction

pub record IsStill (e : Entry) : Type 0 where
  pub held_same : (past : Past) → held (e ∷ past) ≡ held past
  pub waiting_same : (past : Past) → waiting (e ∷ past) ≡ waiting past
  pub stored_same : (terms : Terms) (past : Past) → store terms (e ∷ past) ≡ store terms past
  pub fate_same : (past : Past) (y : ℕ) → fate (e ∷ past) y ≡ fate past y
  pub settled_same : (past : Past) → is_settled (e ∷ past) ≡ is_settled past
  pub wants_no_more : (past : Past) (r : ℕ) → wanted_by (e ∷ past) r ≡ cond (made_by past e == r) None (wanted_by past r)
  pub weight_same : (past : Past) → weight (e ∷ past) ≡ weight past

pub still_done : (s : ℕ) (reply : Reply) → IsStill (Done s reply)
still_done s reply = record { held_same = λ past. refl; waiting_same = λ past. refl; stored_same = λ terms past. refl; fate_same = λ past y. refl; settled_same = λ past. refl; wants_no_more = λ past r. refl; weight_same = λ past. refl }

pub still_refuse : (s : ℕ) (cause : Cause) → IsStill (Refuse s cause)
still_refuse s cause = record { held_same = λ past. refl; waiting_same = λ past. refl; stored_same = λ terms past. refl; fate_same = λ past y. refl; settled_same = λ past. refl; wants_no_more = λ past r. refl; weight_same = λ past. refl }

pub still_cancel : (s : ℕ) → IsStill (Cancel s)
still_cancel s = record { held_same = λ past. refl; waiting_same = λ past. refl; stored_same = λ terms past. refl; fate_same = λ past y. refl; settled_same = λ past. refl; wants_no_more = λ past r. refl; weight_same = λ past. refl }

pub still_end : (s : ℕ) → IsStill (End s)
still_end s = record { held_same = λ past. refl; waiting_same = λ past. refl; stored_same = λ terms past. refl; fate_same = λ past y. refl; settled_same = λ past. refl; wants_no_more = λ past r. refl; weight_same = λ past. refl }

pub still_close : (s : ℕ) → IsStill (Close s)
still_close s = record { held_same = λ past. refl; waiting_same = λ past. refl; stored_same = λ terms past. refl; fate_same = λ past y. refl; settled_same = λ past. refl; wants_no_more = λ past r. refl; weight_same = λ past. refl }

pub tied_still : (past : Past) (locks : Locks) (e : Entry) → IsStill e → IsTied past locks → IsTied (e ∷ past) locks
tied_still past locks e still tied = record {
  waits = rw (still.waiting_same past) tied.waits;
  holds = λ test. rw (still.held_same past) (tied.holds test);
  apart = rw (still.waiting_same past) tied.apart;
}

-- a session past the end of the list is another than one that stands there
beyond_others : (sessions : List Session) (s r : ℕ) (t : Session) → slice_get sessions s ≡ Some t → length sessions ≤ r → (s == r) ≡ false
beyond_others sessions s r t there le = ne_eqb s r (λ (e : s ≡ r). let within : s < length sessions = slice_get_within sessions s t there in omega arith)

-- ---- a call begins

pub amid_begins : (terms : Terms) (p : Parts) (s : ℕ) → IsKept terms p → IsAmid terms p s 0
amid_begins terms p s kept = record {
  sound = kept.sound;
  others_want = λ c there other. kept.wants_so c there;
  others = λ r t other there. kept.mirrors r t there;
}

-- ---- the session makes such an entry

module _ (terms : Terms) (p q : Parts) (s used : ℕ) (t : Session) (e : Entry) (amid : IsAmid terms p s used) (there : slice_get p.sessions s ≡ Some t) (still : IsStill e) (by : IsBy (past_of p.journal) s e) (comes : MayCome terms (past_of p.journal) e) (noted : past_of q.journal ≡ e ∷ past_of p.journal) (room : q.journal.room + 1 ≡ p.journal.room) (sessions_same : q.sessions ≡ p.sessions) (tables_same : q.tables ≡ p.tables) (locks_same : q.locks ≡ p.locks) (committed_same : q.committed ≡ p.committed) (weight_same : q.weight ≡ p.weight) (controls_kept : KeepsControls (listed_in p) (listed_in q)) where
  abbrev old : Past
  old = past_of p.journal

  noted_sound : IsSound terms q (used + 1)
  noted_sound = record {
    legal = rw noted (comes, amid.sound.legal);
    count = rw sessions_same amid.sound.count;
    controlled = controls_kept terms amid.sound.controlled;
    beyond = λ r le.
        let far : length p.sessions ≤ r = rw sessions_same at le in
        let same : doing (e ∷ old) r ≡ doing old r = others_stay terms old s r amid.sound.legal (beyond_others p.sessions s r t there far) e by in
        rw noted (ap (λ (d : Doing). d.hand) same ∙ amid.sound.beyond r far);
    stored = rw (tables_same, noted) (amid.sound.stored ∙ sym (still.stored_same terms old));
    tells = λ x. rw (committed_same, noted) (amid.sound.tells x ∙ rw (still.fate_same old x) refl);
    marked = λ r x u. rw (sessions_same, committed_same) (amid.sound.marked r x u);
    table_count = rw locks_same amid.sound.table_count;
    tied = rw (noted, locks_same) (tied_still old p.locks.locks e still amid.sound.tied);
    queues = rw locks_same amid.sound.queues;
    weighed = rw noted (weight_same ∙ (amid.sound.weighed ∙ sym (still.weight_same old)));
    reserved = rw (sessions_same, locks_same) (omega (arith, room, amid.sound.reserved));
  }

  pub amid_notes : IsAmid terms q s (used + 1)
  amid_notes = record {
    sound = noted_sound;
    others_want = rw noted (others_still old s e (made_so old s e by) (still.waiting_same old) (still.wants_no_more old) amid.others_want);
    others = rw (noted, sessions_same) (others_on terms old p.sessions s e amid.sound.legal by amid.others);
  }

-- ---- its transaction ends, and the locks that this frees are got

-- a record of a session that was granted a lock is of the same transaction
woken_from : (sessions : List Session) (grants : List Grant) (r : ℕ) (u : Session) (P : Option ℕ → Type 0) → ((t : Session) → slice_get sessions r ≡ Some t → P t.xact) → slice_get (woken grants sessions) r ≡ Some u → P u.xact
woken_from sessions grants r u P each got = by_record (slice_get sessions r) refl (sym (woken_get grants sessions r) ∙ got) where
  by_record : (o : Option Session) → slice_get sessions r ≡ o → option_map (calmed (is_granted r grants)) o ≡ Some u → P u.xact
  by_record None is got = absurd cc
  by_record (Some t) is got = let same : calmed (is_granted r grants) t ≡ u = cc in rw (← same) (each t is)

module _ (terms : Terms) (p q : Parts) (s used : ℕ) (t : Session) (e : Entry) (amid : IsAmid terms p s used) (there : slice_get p.sessions s ≡ Some t) (by : IsBy (past_of p.journal) s e) (stored_same : store terms (e ∷ past_of p.journal) ≡ store terms (past_of p.journal)) (light_so : weight (e ∷ past_of p.journal) ≡ weight (past_of p.journal)) (wants : OthersWant s (past_of p.journal) → WantsSo (e ∷ past_of p.journal)) (come : HaveCome terms (xact_in p.sessions) q.locks.locks.granted (e ∷ past_of p.journal) q.locks.locks) (tells : TellsCommitted (e ∷ past_of p.journal) q.committed) (marks : length q.committed ≡ length p.committed) (few : length q.locks.locks.granted + length q.locks.locks.waiting ≤ length p.locks.locks.waiting) (noted : past_of q.journal ≡ locked_by (xact_in p.sessions) q.locks.locks.granted (e ∷ past_of p.journal)) (room : q.journal.room + length q.locks.locks.granted + 1 ≡ p.journal.room) (woke : q.sessions ≡ woken q.locks.locks.granted p.sessions) (tables_same : q.tables ≡ p.tables) (count_same : q.locks.sessions ≡ p.locks.sessions) (settled : IsSettled q.locks.locks) (weight_same : q.weight ≡ p.weight) (controls_kept : KeepsControls (listed_in p) (listed_in q)) where
  abbrev before : Past
  before = past_of p.journal

  abbrev ended : Past
  ended = locked_by (xact_in p.sessions) q.locks.locks.granted (e ∷ before)

  leaves : LeavesSo terms (e ∷ before) ended
  leaves = leaves_so terms (xact_in p.sessions) q.locks.locks.granted (e ∷ before)

  ended_sound : IsSound terms q (used + 1)
  ended_sound = record {
    legal = rw noted come.legal;
    count = rw woke (woken_length q.locks.locks.granted p.sessions ∙ amid.sound.count);
    controlled = controls_kept terms amid.sound.controlled;
    beyond = λ r le.
        let far : length p.sessions ≤ r = rw (woke, woken_length q.locks.locks.granted p.sessions) at le in
        let same : doing (e ∷ before) r ≡ doing before r = others_stay terms before s r amid.sound.legal (beyond_others p.sessions s r t there far) e by in
        rw noted (leaves.hands r ∙ (ap (λ (d : Doing). d.hand) same ∙ amid.sound.beyond r far));
    stored = rw (tables_same, noted) (amid.sound.stored ∙ (sym stored_same ∙ sym leaves.stored));
    tells = λ x. rw noted (tells x ∙ rw (leaves.fates x) refl);
    marked = λ r x u got is. woken_from p.sessions q.locks.locks.granted r u (λ (o : Option ℕ). o ≡ Some x → x < length q.committed) (λ v was own. rw marks (amid.sound.marked r x v was own)) (rw woke at got) is;
    table_count = count_same ∙ amid.sound.table_count;
    tied = rw noted come.tied;
    queues = settled;
    weighed = rw noted (weight_same ∙ (amid.sound.weighed ∙ (sym light_so ∙ sym (weight_granted terms (xact_in p.sessions) (e ∷ before) q.locks.locks come))));
    reserved = rw (woke, woken_light q.locks.locks.granted p.sessions) (omega (arith, room, few, amid.sound.reserved));
  }

  pub amid_ended : IsAmid terms q s (used + 1)
  amid_ended = record {
    sound = ended_sound;
    others_want = λ c waits other. rw noted (wants_come terms (e ∷ before) (xact_in p.sessions) q.locks.locks come (wants amid.others_want) c (rw noted at waits));
    others = rw (noted, woke) (others_granted terms (e ∷ before) p.sessions s (xact_in p.sessions) q.locks.locks come (others_on terms before p.sessions s e amid.sound.legal by amid.others));
  }

  pub settled_ended : is_settled (past_of q.journal) ≡ true
  settled_ended = rw noted (settled_then terms (e ∷ before) (xact_in p.sessions) q.locks.locks come settled)

module _ (terms : Terms) (p q : Parts) (s used x : ℕ) (t : Session) (amid : IsAmid terms p s used) (there : slice_get p.sessions s ≡ Some t) (by : IsXact (past_of p.journal) s x) (hands : HandsOn (released p.locks.locks s) q.locks.locks) where
  abbrev was : Past
  was = past_of p.journal

  commit_none : xact_of (Commit x ∷ was) s ≡ None
  commit_none = rw (by.open_xact, if_same x) refl

  abort_none : xact_of (Abort x ∷ was) s ≡ None
  abort_none = rw (by.open_xact, if_same x) refl

  pub commit_comes : MayCome terms was (Commit x) → HaveCome terms (xact_in p.sessions) q.locks.locks.granted (Commit x ∷ was) q.locks.locks
  commit_comes comes = commit_frees terms was x (xact_in p.sessions) p.locks.locks q.locks.locks (comes, amid.sound.legal) amid.sound.tied (rw by.session hands)
      (knows_others terms (Commit x ∷ was) p.sessions s (comes, amid.sound.legal) amid.sound.count commit_none (others_on terms was p.sessions s (Commit x) amid.sound.legal by amid.others))

  pub abort_comes : MayCome terms was (Abort x) → HaveCome terms (xact_in p.sessions) q.locks.locks.granted (Abort x ∷ was) q.locks.locks
  abort_comes comes = abort_frees terms was x (xact_in p.sessions) p.locks.locks q.locks.locks (comes, amid.sound.legal) amid.sound.tied (rw by.session hands)
      (knows_others terms (Abort x ∷ was) p.sessions s (comes, amid.sound.legal) amid.sound.count abort_none (others_on terms was p.sessions s (Abort x) amid.sound.legal by amid.others))

  module _ (room : q.journal.room + length q.locks.locks.granted + 1 ≡ p.journal.room) (woke : q.sessions ≡ woken q.locks.locks.granted p.sessions) (tables_same : q.tables ≡ p.tables) (count_same : q.locks.sessions ≡ p.locks.sessions) (settled : IsSettled q.locks.locks) (weight_same : q.weight ≡ p.weight) (controls_kept : KeepsControls (listed_in p) (listed_in q)) where
    pub amid_commits : t.xact ≡ Some x → MayCome terms was (Commit x) → past_of q.journal ≡ locked_by (xact_in p.sessions) q.locks.locks.granted (Commit x ∷ was) → q.committed ≡ slice_set p.committed x true → IsAmid terms q s (used + 1)
    amid_commits own comes noted marked =
        let tells : TellsCommitted (Commit x ∷ was) q.committed = rw marked (tells_commit was p.committed x (amid.sound.marked s x t there own) amid.sound.tells) in
        let marks : length q.committed ≡ length p.committed = rw marked (length-set p.committed x true) in
        amid_ended terms p q s used t (Commit x) amid there by refl refl (λ h. wants_committed was x (rw by.session h)) (commit_comes comes) tells marks (few_granted p.locks.locks q.locks.locks s hands) noted room woke tables_same count_same settled weight_same controls_kept

    pub amid_aborts : MayCome terms was (Abort x) → past_of q.journal ≡ locked_by (xact_in p.sessions) q.locks.locks.granted (Abort x ∷ was) → q.committed ≡ p.committed → IsAmid terms q s (used + 1)
    amid_aborts comes noted marked =
        let tells : TellsCommitted (Abort x ∷ was) q.committed = rw marked (tells_abort was p.committed x (xact_is terms was s x amid.sound.legal by.open_xact).undecided amid.sound.tells) in
        amid_ended terms p q s used t (Abort x) amid there by refl refl (λ h. wants_aborted was x (rw by.session h)) (abort_comes comes) tells (ap (λ (marks : List Bool). length marks) marked) (few_granted p.locks.locks q.locks.locks s hands) noted room woke tables_same count_same settled weight_same controls_kept

-- ---- the call ends by such an entry, and the session's record is changed

module _ (terms : Terms) (p q : Parts) (s used : ℕ) (t u : Session) (e : Entry) (amid : IsAmid terms p s used) (there : slice_get p.sessions s ≡ Some t) (still : IsStill e) (by : IsBy (past_of p.journal) s e) (comes : MayCome terms (past_of p.journal) e) (unasked : asks s (waiting (past_of p.journal)) ≡ false) (settled : is_settled (past_of p.journal) ≡ true) (none_owed : owed terms (e ∷ past_of p.journal) ≡ None) (own : IsMirror terms (doing (e ∷ past_of p.journal) s) u) (its : (x : ℕ) → u.xact ≡ Some x → t.xact ≡ Some x) (fits : light_of u + used + 1 ≤ light_of t) (noted : past_of q.journal ≡ e ∷ past_of p.journal) (room : q.journal.room + 1 ≡ p.journal.room) (set : q.sessions ≡ slice_set p.sessions s u) (tables_same : q.tables ≡ p.tables) (locks_same : q.locks ≡ p.locks) (committed_same : q.committed ≡ p.committed) (weight_same : q.weight ≡ p.weight) (controls_kept : KeepsControls (listed_in p) (listed_in q)) where
  abbrev last : Past
  last = past_of p.journal

  stops_sound : IsSound terms q 0
  stops_sound = record {
    legal = rw noted (comes, amid.sound.legal);
    count = rw set (length_set p.sessions s u ∙ amid.sound.count);
    controlled = controls_kept terms amid.sound.controlled;
    beyond = λ r le.
        let far : length p.sessions ≤ r = rw (set, length_set p.sessions s u) at le in
        let same : doing (e ∷ last) r ≡ doing last r = others_stay terms last s r amid.sound.legal (beyond_others p.sessions s r t there far) e by in
        rw noted (ap (λ (d : Doing). d.hand) same ∙ amid.sound.beyond r far);
    stored = rw (tables_same, noted) (amid.sound.stored ∙ sym (still.stored_same terms last));
    tells = λ x. rw (committed_same, noted) (amid.sound.tells x ∙ rw (still.fate_same last x) refl);
    marked = λ r x v got is. rw committed_same (marks r x v is (got_set p.sessions s r u v (rw set at got)));
    table_count = rw locks_same amid.sound.table_count;
    tied = rw (noted, locks_same) (tied_still last p.locks.locks e still amid.sound.tied);
    queues = rw locks_same amid.sound.queues;
    weighed = rw noted (weight_same ∙ (amid.sound.weighed ∙ sym (still.weight_same last)));
    reserved = rw (set, locks_same) (omega (arith, light_set p.sessions s t u there, fits, room, amid.sound.reserved));
  } where
    marks : (r x : ℕ) (v : Session) → v.xact ≡ Some x → ((s ≡ r) × (u ≡ v)) ⊎ (((s == r) ≡ false) × (slice_get p.sessions r ≡ Some v)) → x < length p.committed
    marks r x v is (inl e) = amid.sound.marked s x t there (its x (rw (← e.1) at is))
    marks r x v is (inr e) = amid.sound.marked r x v e.1 is

  pub amid_stops : IsKept terms q
  amid_stops = record {
    sound = stops_sound;
    wants_so = rw noted (wants_all (e ∷ last) s (rw (still.waiting_same last) unasked) (others_still last s e (made_so last s e by) (still.waiting_same last) (still.wants_no_more last) amid.others_want));
    mirrors = λ r v got. rw noted (by_place r v (got_set p.sessions s r u v (rw set at got)));
    clear = record { owed_is = rw noted none_owed; settled = rw noted (still.settled_same last ∙ settled) };
  } where
    by_place : (r : ℕ) (v : Session) → ((s ≡ r) × (u ≡ v)) ⊎ (((s == r) ≡ false) × (slice_get p.sessions r ≡ Some v)) → IsMirror terms (doing (e ∷ last) r) v
    by_place r v (inl e) = rw (← e.0, ← e.1) own
    by_place r v (inr e) = others_on terms last p.sessions s _ amid.sound.legal by amid.others r v e.0 e.1
