-- A statement that is refused: its open transaction is aborted, its open block fails, and its step ends.
use Rattle.std.proofs.Common.{◌≡◌, ℕ, ◌+◌, ◌<◌, ◌≤◌, [], ◌∷◌, length, refl, sym, ap, cond, true, Bool, Option, Some, None, arith, ◌∙◌, inl, inr, slice_get, slice_set, subst}
use Rattle.al_statements.specs.declared.cause.Cause.{Cause}
use Rattle.al_statements.specs.declared.cause.Cause.TheVariants as causes
use Rattle.al_history.specs.declared.entry.Entry.TheVariants.{Refuse, Abort, End}
use Rattle.al_history.specs.declared.statement.Terms.{Terms}
use Rattle.al_history.specs.Kept.{Kept}
use Rattle.al_history.specs.Past.{Past, past_of}
use Rattle.al_history.specs.Hand.{BlockState, NoBlock, OpenBlock, FailedBlock, hand, refused, xact_of, if_no_block, failed_at, block_state}
use Rattle.al_history.specs.Locks.{is_settled}
use Rattle.al_history.specs.Tail.{abort_or_end, owed}
use Rattle.al_history.specs.Legal.{MayCome}
use Rattle.al_history.specs.Whole.{driver, IsTurn, InTurn}
use Rattle.al_history.proofs.Comes.{comes_refuse, comes_abort, comes_end}
use Rattle.al_history.proofs.Doings.{Doing, doing, moved, IsXact, own_moves}
use Rattle.al_history.proofs.Turns.{Tail, Went, tail_abort, tail_on, tail_ends}
use Rattle.al_history.proofs.Xacts.{xact_is}
use Rattle.al_queue.specs.Walk.{released}
use Rattle.al_queue.specs.Settled.{IsSettled, HandsOn}
use Rattle.al_engine.specs.declared.sessions.Block.{Block}
use Rattle.al_engine.specs.declared.sessions.Session.{Session}
use Rattle.al_engine.specs.LockTie.{locked_by, locks_of, is_granted}
use Rattle.al_engine.specs.Sessions.{stopped, xact_in, woken, state_of, IsMirror, light_of}
use Rattle.al_engine.specs.Ran.{IsAborted}
use Rattle.al_engine.specs.Listed.{KeepsControls}
use Rattle.al_engine.specs.Kept.{listed_in, Parts, IsAmid, IsKept, CanBeRefused, IsRefused, used_by}
use Rattle.al_engine.proofs.Amid.{still_refuse, still_end, amid_notes, abort_comes, amid_aborts, amid_stops}
use Rattle.al_engine.proofs.Grants.{HaveCome, settled_then}
use Rattle.al_engine.proofs.LockLists.{LeavesSo, leaves_so, locked_is}
use Rattle.al_engine.proofs.Mirrors.{calm, calm_none, doing_granted, unasked_idle}
use Rattle.al_engine.proofs.SessionLemmas.{light_at}
use Rattle.al_engine.proofs.Tails.{tail_by_refuse, tail_granted}
use Rattle.al_engine.proofs.Woken.{calmed, woken_get}

-- what a session is doing whose statement is refused at this place, and whose transaction is this then
abbrev pub broken : Doing → ℕ → Option ℕ → Doing
broken d place x = record d { refused = true; xact = x; block = failed_at place d.block; wants = None }

pub used_few : (cause : Cause) → used_by cause ≤ 1
used_few (causes.Cancelled entry) = omega arith
used_few cause = omega arith

none_implicit : (b : BlockState) → if_no_block b None ≡ None
none_implicit NoBlock = refl
none_implicit OpenBlock = refl
none_implicit (FailedBlock refuse) = refl

-- ---- before the step ends

-- the statement is refused, and no transaction is open any more
pub record IsRefusing (terms : Terms) (old : Past) (m : Parts) (s : ℕ) (t : Session) (cause : Cause) : Type 0 where
  pub used : ℕ
  pub amid : IsAmid terms m s used
  pub now : Session
  pub there : slice_get m.sessions s ≡ Some now
  pub like : now ≡ record t { wants = now.wants }
  pub fits : cond t.closed 0 1 + used + 1 ≤ light_of now
  pub state : doing (past_of m.journal) s ≡ broken (doing old s) (length old) None
  pub settled : is_settled (past_of m.journal) ≡ true
  pub owes : owed terms (past_of m.journal) ≡ Some (End s)
  pub tail : Tail terms s old (past_of m.journal) true (driver old) (IsTurn (owed terms old) old s)
  pub aborted : IsAborted t.xact (Refuse s cause ∷ old) (past_of m.journal)

module _ (terms : Terms) (p : Parts) (j : Kept) (s block : ℕ) (t : Session) (cause : Cause) (amid : IsAmid terms p s (used_by cause)) (there : slice_get p.sessions s ≡ Some t) (can : CanBeRefused terms (past_of p.journal) s t cause) (busy : t.hand ≡ Some block) (noted : past_of j ≡ Refuse s cause ∷ past_of p.journal) (noted_room : j.room + 1 ≡ p.journal.room) where
  abbrev old : Past
  old = past_of p.journal

  abbrev a : Parts
  a = record { journal = j; sessions = p.sessions; controls = p.controls; tables = p.tables; locks = p.locks; committed = p.committed; weight = p.weight }

  refuse_may : MayCome terms old (Refuse s cause)
  refuse_may = comes_refuse terms old s (doing old s) amid.sound.legal refl can.settled cause can.first_true can.follows can.timely

  amid_refused : IsAmid terms a s (used_by cause + 1)
  amid_refused = amid_notes terms p a s (used_by cause) t (Refuse s cause) amid there (still_refuse s cause) refl refuse_may noted noted_room refl refl refl refl refl (λ t held. held)

  state_refused : doing (past_of j) s ≡ broken (doing old s) (length old) t.xact
  state_refused = subst (λ (past : Past). doing past s ≡ broken (doing old s) (length old) t.xact) (sym noted) (own_moves old s (Refuse s cause) refl ∙ rw can.xact_is refl)

  settled_refused : is_settled (past_of j) ≡ true
  settled_refused = rw noted can.settled

  owes_refused : owed terms (past_of j) ≡ Some (abort_or_end t.xact s)
  owes_refused = rw (noted, can.xact_is) refl

  tail_refused : Tail terms s old (past_of j) true (driver old) (IsTurn (owed terms old) old s)
  tail_refused = rw noted (tail_by_refuse terms s old cause amid.sound.legal refuse_may)

  -- none was open
  pub refusing_free : t.xact ≡ None → IsRefusing terms old a s t cause
  refusing_free none = record {
    used = used_by cause + 1;
    amid = amid_refused;
    now = t;
    like = refl;
    there = there;
    fits = rw (none, busy) (omega (arith, used_few cause));
    state = state_refused ∙ rw none refl;
    settled = settled_refused;
    owes = owes_refused ∙ rw none refl;
    tail = tail_refused;
    aborted = record { grants = []; are_grants = tt; is = noted ∙ rw none refl; none_open = λ e. refl };
  }

  -- one was
  module _ (x : ℕ) (own : t.xact ≡ Some x) where
    by : IsXact (past_of j) s x
    by = let open_so : xact_of old s ≡ Some x = can.xact_is ∙ own in rw noted (record { session = (xact_is terms old s x amid.sound.legal open_so).own; open_xact = open_so })

    owes_abort : owed terms (past_of j) ≡ Some (Abort x)
    owes_abort = owes_refused ∙ rw own refl

    abort_may : MayCome terms (past_of j) (Abort x)
    abort_may = comes_abort terms (past_of j) s (broken (doing old s) (length old) t.xact) amid_refused.sound.legal state_refused settled_refused x by (inl (inl refl)) (rw owes_abort refl) (rw (can.hand_is, busy, owes_abort) refl)

    module _ (m : Parts) (a_noted : past_of m.journal ≡ locked_by (xact_in p.sessions) m.locks.locks.granted (Abort x ∷ past_of j)) (a_room : m.journal.room + length m.locks.locks.granted + 1 ≡ j.room) (a_woke : m.sessions ≡ woken m.locks.locks.granted p.sessions) (a_tables : m.tables ≡ p.tables) (a_count : m.locks.sessions ≡ p.locks.sessions) (a_committed : m.committed ≡ p.committed) (a_settled : IsSettled m.locks.locks) (a_hands : HandsOn (released p.locks.locks s) m.locks.locks) (a_weight : m.weight ≡ p.weight) (a_controls : KeepsControls (listed_in p) (listed_in m)) where
      come : HaveCome terms (xact_in p.sessions) m.locks.locks.granted (Abort x ∷ past_of j) m.locks.locks
      come = abort_comes terms a m s (used_by cause + 1) x t amid_refused there by a_hands abort_may

      abbrev calms : Bool
      calms = is_granted s m.locks.locks.granted

      state_aborted : doing (past_of m.journal) s ≡ broken (doing old s) (length old) None
      state_aborted =
          let aborts : doing (Abort x ∷ past_of j) s ≡ broken (doing old s) (length old) None = own_moves (past_of j) s (Abort x) by ∙ ap (λ (d : Doing). moved (past_of j) (Abort x) d) state_refused in
          subst (λ (past : Past). doing past s ≡ broken (doing old s) (length old) None) (sym a_noted) (doing_granted terms (Abort x ∷ past_of j) (xact_in p.sessions) m.locks.locks s come ∙ (ap (λ (d : Doing). calm calms d) aborts ∙ calm_none calms (broken (doing old s) (length old) None) refl))

      owes_end : owed terms (past_of m.journal) ≡ Some (End s)
      owes_end =
          let so : LeavesSo terms (Abort x ∷ past_of j) (locked_by (xact_in p.sessions) m.locks.locks.granted (Abort x ∷ past_of j)) = leaves_so terms (xact_in p.sessions) m.locks.locks.granted (Abort x ∷ past_of j) in
          let in_step : hand (past_of j) s ≡ Some block = ap (λ (d : Doing). d.hand) state_refused ∙ (can.hand_is ∙ busy) in
          let was : refused (past_of j) s ≡ true = ap (λ (d : Doing). d.refused) state_refused in
          rw a_noted (so.owes ∙ rw (by.session, in_step, was) refl)

      freed : IsAborted t.xact (Refuse s cause ∷ old) (past_of m.journal)
      freed = record {
        grants = locks_of (xact_in p.sessions) m.locks.locks.granted;
        are_grants = rw (own, ← noted) come.are_grants;
        is = a_noted ∙ (locked_is (xact_in p.sessions) m.locks.locks.granted (Abort x ∷ past_of j) ∙ rw (own, noted) refl);
        none_open = λ none. let wrong : ◌≡◌ {A = Option ℕ} (Some x) None = sym own ∙ none in absurd cc;
      }

      pub refusing_open : IsRefusing terms old m s t cause
      refusing_open = record {
        used = used_by cause + 1 + 1;
        amid = amid_aborts terms a m s (used_by cause + 1) x t amid_refused there by a_hands a_room a_woke a_tables a_count a_settled a_weight a_controls abort_may a_noted a_committed;
        now = calmed calms t;
        like = refl;
        there = rw a_woke (woken_get m.locks.locks.granted p.sessions s ∙ rw there refl);
        fits = rw (own, busy) (omega (arith, used_few cause));
        state = state_aborted;
        settled = rw a_noted (settled_then terms (Abort x ∷ past_of j) (xact_in p.sessions) m.locks.locks come a_settled);
        owes = owes_end;
        tail = rw a_noted (tail_granted terms s old (Abort x ∷ past_of j) true (driver old) (IsTurn (owed terms old) old s) (xact_in p.sessions) m.locks.locks come (tail_on terms s old (past_of j) true (driver old) (IsTurn (owed terms old) old s) (Abort x) tail_refused (tail_abort x) (λ past r. refl) (inl by.session) abort_may in_turn));
        aborted = freed;
      } where
        in_turn : InTurn terms (past_of j) (Abort x)
        in_turn =
            let in_step : hand (past_of j) s ≡ Some block = ap (λ (d : Doing). d.hand) state_refused ∙ (can.hand_is ∙ busy) in
            rw (by.session, in_step, owes_abort) tt

-- ---- the step ends

pub refusing_room : (terms : Terms) (old : Past) (m : Parts) (s : ℕ) (t : Session) (cause : Cause) → IsRefusing terms old m s t cause → 0 < m.journal.room
refusing_room terms old m s t cause r = omega (arith, r.fits, light_at m.sessions s r.now r.there, r.amid.sound.reserved)

-- its record then
abbrev pub refused_state : Session → Block → Session
refused_state t b = stopped t None b

module _ (terms : Terms) (old : Past) (m q : Parts) (s block : ℕ) (t : Session) (cause : Cause) (b : Block) (r : IsRefusing terms old m s t cause) (can : CanBeRefused terms old s t cause) (busy : t.hand ≡ Some block) (fails : state_of b ≡ failed_at (length old) (state_of t.block)) (e_noted : past_of q.journal ≡ End s ∷ past_of m.journal) (e_room : q.journal.room + 1 ≡ m.journal.room) (e_set : q.sessions ≡ slice_set m.sessions s (refused_state t b)) (e_tables : q.tables ≡ m.tables) (e_locks : q.locks ≡ m.locks) (e_committed : q.committed ≡ m.committed) (e_weight : q.weight ≡ m.weight) (e_controls : KeepsControls (listed_in m) (listed_in q)) where
  ends_may : MayCome terms (past_of m.journal) (End s)
  ends_may = comes_end terms (past_of m.journal) s (broken (doing old s) (length old) None) r.amid.sound.legal r.state r.settled block (can.hand_is ∙ busy) (inr refl) (none_implicit (failed_at (length old) (block_state old s))) (rw r.owes refl) (rw r.owes refl)

  own_mirror : IsMirror terms (doing (End s ∷ past_of m.journal) s) (refused_state t b)
  own_mirror =
      let state : doing (End s ∷ past_of m.journal) s ≡ moved (past_of m.journal) (End s) (broken (doing old s) (length old) None) = own_moves (past_of m.journal) s (End s) refl ∙ ap (λ (d : Doing). moved (past_of m.journal) (End s) d) r.state in
      subst (λ (d : Doing). IsMirror terms d (refused_state t b)) (sym state) (record {
        outline = record { hand_is = refl; xact_is = refl; block_is = rw can.block_is (sym fails); closed_is = can.closed_is; wants_is = refl };
        underway = λ block busy. absurd cc;
      })

  pub refused_kept : IsKept terms q
  refused_kept = amid_stops terms m q s r.used r.now (refused_state t b) (End s) r.amid r.there (still_end s) refl ends_may (unasked_idle terms (past_of m.journal) s r.amid.sound.legal (ap (λ (d : Doing). d.xact) r.state)) r.settled refl own_mirror (λ y its. absurd cc) (omega (arith, r.fits)) e_noted e_room e_set e_tables e_locks e_committed e_weight e_controls

  pub refused_exact : IsRefused old (past_of q.journal) s t.xact cause
  refused_exact = record { aborted = past_of m.journal; is_aborted = r.aborted; is = e_noted }

  pub refused_went : Went terms s old (past_of q.journal) true (driver old) (IsTurn (owed terms old) old s)
  refused_went = rw e_noted (tail_ends terms s old (past_of m.journal) true (driver old) (IsTurn (owed terms old) old s) r.tail ends_may (rw r.owes tt))
