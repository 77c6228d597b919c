-- What is kept of the sessions while one of them makes entries and others get their locks: it stays what they are doing.
use Rattle.std.proofs.Common.{◌≡◌, ℕ, ◌<◌, ◌≤◌, List, ◌∷◌, length, refl, sym, ap, cond, true, false, Bool, Option, Some, None, arith, ◌∙◌, ◌⊎◌, inl, inr, slice_get, option_map}
use Rattle.std.specs.Prelude.{◌==◌, IsSome, option_and_then, unwrap_or}
use Rattle.std.proofs.lemmas.Bool.{eqb-true}
use Rattle.al_history.specs.declared.entry.Entry.{Entry}
use Rattle.al_history.specs.declared.entry.Want.{Want}
use Rattle.al_history.specs.declared.entry.Want.TheVariants as wants
use Rattle.al_history.specs.declared.statement.Terms.{Terms}
use Rattle.al_history.specs.Past.{Past}
use Rattle.al_history.specs.Hand.{xact_of}
use Rattle.al_history.specs.Locks.{Claim, waiting}
use Rattle.al_history.specs.Tail.{owed}
use Rattle.al_history.specs.Waits.{wanted_by}
use Rattle.al_history.specs.Legal.{Legal}
use Rattle.al_history.proofs.Claims.{waiting_open}
use Rattle.al_history.proofs.Requests.{IsRequest, request_of, IsAwaiting, IsLeaving, awaiting}
use Rattle.al_history.proofs.Doings.{Doing, doing, IsBy, others_stay}
use Rattle.al_queue.specs.Locks.{Locks}
use Rattle.al_engine.specs.declared.sessions.Session.{Session}
use Rattle.al_engine.specs.LockTie.{asks, Knows, locked_by, is_granted}
use Rattle.al_engine.specs.Sessions.{xact_in, woken, IsUnderway, IsMirror}
use Rattle.al_engine.proofs.Grants.{HaveCome, knows_open}
use Rattle.al_engine.proofs.LockLists.{LeavesSo, leaves_so}
use Rattle.al_engine.proofs.SessionLemmas.{past_end, xact_known}
use Rattle.al_engine.proofs.Woken.{calmed, woken_get}

-- ---- who waits no more

-- what a session is doing that waits no more, where it is one of these
abbrev pub calm : Bool → Doing → Doing
calm b d = record d { wants = cond b None d.wants }

-- who waits for nothing goes on so
pub calm_none : (b : Bool) (d : Doing) → d.wants ≡ None → calm b d ≡ d
calm_none true d is = rw (← is) refl
calm_none false d is = refl

calm_underway : (terms : Terms) (d : Doing) (b : Bool) (block done left : ℕ) (looked : Bool) → IsUnderway terms d block done left looked → IsUnderway terms (calm b d) block done left looked
calm_underway terms d b block done left looked under = record {
  dones_is = under.dones_is;
  counted = under.counted;
  none_refused = under.none_refused;
  no_acts = under.no_acts;
  look_is = under.look_is;
  only_creates = under.only_creates;
}

mirror_calm : (terms : Terms) (d : Doing) (t : Session) (b : Bool) → IsMirror terms d t → IsMirror terms (calm b d) (calmed b t)
mirror_calm terms d t b mirror = record {
  outline = record {
    hand_is = mirror.outline.hand_is;
    xact_is = mirror.outline.xact_is;
    block_is = mirror.outline.block_is;
    closed_is = mirror.outline.closed_is;
    wants_is = ap (λ (o : Option Want). cond b None o) mirror.outline.wants_is;
  };
  underway = λ block is. calm_underway terms d b block t.done t.left t.looked (mirror.underway block is);
}

-- locks that are granted leave what a session is doing, but that it waits
pub doing_granted : (terms : Terms) (past : Past) (xact : ℕ → ℕ) (after : Locks) (r : ℕ) → HaveCome terms xact after.granted past after → doing (locked_by xact after.granted past) r ≡ calm (is_granted r after.granted) (doing past r)
doing_granted terms past xact after r come =
    let so : LeavesSo terms past (locked_by xact after.granted past) = leaves_so terms xact after.granted past in
    rw (so.hands r, so.dones_same r, so.refused_same r, so.xacts r, so.looks r, so.acts r, so.blocks r, so.closed_same r, come.wants r) refl

-- ---- the others

-- the records of the sessions but s are what these are doing
abbrev pub AreOthers : Terms → Past → List Session → ℕ → Type 0
AreOthers terms past sessions s = (r : ℕ) (t : Session) → (s == r) ≡ false → slice_get sessions r ≡ Some t → IsMirror terms (doing past r) t

pub others_on : (terms : Terms) (past : Past) (sessions : List Session) (s : ℕ) (e : Entry) → Legal terms past → IsBy past s e → AreOthers terms past sessions s → AreOthers terms (e ∷ past) sessions s
others_on terms past sessions s e legal by others r t other there = rw (others_stay terms past s r legal other e by) (others r t other there)

module _ (terms : Terms) (past : Past) (sessions : List Session) (s : ℕ) (xact : ℕ → ℕ) (after : Locks) (come : HaveCome terms xact after.granted past after) (others : AreOthers terms past sessions s) where
  woken_mirror : (r : ℕ) (t u : Session) → (s == r) ≡ false → slice_get sessions r ≡ Some t → calmed (is_granted r after.granted) t ≡ u → IsMirror terms (doing (locked_by xact after.granted past) r) u
  woken_mirror r t u other there same =
      rw (doing_granted terms past xact after r come, ← same) (mirror_calm terms (doing past r) t (is_granted r after.granted) (others r t other there))

  pub others_granted : AreOthers terms (locked_by xact after.granted past) (woken after.granted sessions) s
  others_granted r u other there = by_record (slice_get sessions r) refl (sym (woken_get after.granted sessions r) ∙ there) where
    by_record : (o : Option Session) → slice_get sessions r ≡ o → option_map (calmed (is_granted r after.granted)) o ≡ Some u → IsMirror terms (doing (locked_by xact after.granted past) r) u
    by_record None is got = absurd cc
    by_record (Some t) is got = let same : calmed (is_granted r after.granted) t ≡ u = cc in woken_mirror r t u other is same

-- ---- their transactions

-- where s has none open, each open transaction is looked up in the records
pub knows_others : (terms : Terms) (past : Past) (sessions : List Session) (s : ℕ) → Legal terms past → length sessions ≡ terms.scripts.sessions → xact_of past s ≡ None → AreOthers terms past sessions s → Knows past (xact_in sessions)
knows_others terms past sessions s legal count none others = knows_open terms past (xact_in sessions) legal (λ r x is. by_session r x (s == r) refl is) where
  by_record : (r x : ℕ) (o : Option Session) → (s == r) ≡ false → xact_of past r ≡ Some x → slice_get sessions r ≡ o → unwrap_or (option_and_then (λ (t : Session). t.xact) o) 0 ≡ x
  by_record r x None other is there = absurd (let known : r < terms.scripts.sessions = xact_known terms past r x legal is in let le : length sessions ≤ r = past_end sessions r there in omega arith)
  by_record r x (Some t) other is there =
      let own : t.xact ≡ Some x = sym (others r t other there).outline.xact_is ∙ is in
      rw own refl

  by_session : (r x : ℕ) (b : Bool) → (s == r) ≡ b → xact_of past r ≡ Some x → xact_in sessions r ≡ x
  by_session r x true same is = let its : xact_of past r ≡ None = rw (← eqb-true s r same) none in absurd cc
  by_session r x false other is = by_record r x (slice_get sessions r) other is refl

-- ---- the session's own request

-- where it has no transaction, it has no request that waits
pub unasked_idle : (terms : Terms) (past : Past) (s : ℕ) → Legal terms past → xact_of past s ≡ None → asks s (waiting past) ≡ false
unasked_idle terms past s legal none = by_test (asks s (waiting past)) refl where
  by_test : (b : Bool) → asks s (waiting past) ≡ b → asks s (waiting past) ≡ false
  by_test false is = is
  by_test true has =
      let a : IsRequest (waiting past) s = request_of (waiting past) s has in
      let some : IsSome (xact_of past s) = rw a.own at (waiting_open terms past legal a.c a.there) in
      absurd (let wrong : false ≡ true = rw none at some in cc)

-- nor where it wants nothing, and nothing is owed
pub unasked_free : (terms : Terms) (past : Past) (s : ℕ) → Legal terms past → owed terms past ≡ None → wanted_by past s ≡ None → asks s (waiting past) ≡ false
unasked_free terms past s legal none free = by_test (asks s (waiting past)) refl where
  by_case : (c : Claim) → c.session ≡ s → IsAwaiting terms past c ⊎ IsLeaving past (owed terms past) c.session → ⊥
  by_case c own (inl a) = let wanted : ◌≡◌ {A = Option Want} None (Some (wants.Table c.table c.mode)) = sym free ∙ rw own at a.wanted in cc
  by_case c own (inr leaving) = rw none at leaving

  by_test : (b : Bool) → asks s (waiting past) ≡ b → asks s (waiting past) ≡ false
  by_test false is = is
  by_test true has =
      let a : IsRequest (waiting past) s = request_of (waiting past) s has in
      absurd (by_case a.c a.own (awaiting terms past legal a.c a.there))
