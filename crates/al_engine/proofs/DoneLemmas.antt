-- A statement that is done: its transaction commits with it, where no block is open, and its step ends.
use Rattle.std.proofs.Common.{◌≡◌, ℕ, ◌+◌, ◌≤◌, [], ◌∷◌, length, refl, sym, ap, true, false, Bool, Option, Some, None, arith, ◌∙◌, inl, slice_get, slice_set, subst, ◌-◌, ◌<◌, cond}
use Rattle.std.specs.Prelude.{IsSome}
use Rattle.al_history.specs.declared.entry.Entry.TheVariants.{Done, Commit, End}
use Rattle.al_statements.specs.declared.reply.Reply.{Reply}
use Rattle.al_history.specs.declared.statement.Terms.{Terms}
use Rattle.al_history.specs.Kept.{Kept}
use Rattle.al_history.specs.Past.{Past, past_of}
use Rattle.al_history.specs.Hand.{in_hand, statement_of, xact_of, implicit_of, if_no_block, fault_of, acts_of}
use Rattle.al_history.specs.Locks.{is_settled}
use Rattle.al_history.specs.Made.{row_entries}
use Rattle.al_history.specs.Tail.{commit_or_end, owed}
use Rattle.al_history.specs.Legal.{Legal, MayCome}
use Rattle.al_history.specs.Whole.{driver, IsLeast}
use Rattle.al_history.proofs.Comes.{comes_done, comes_commit, comes_end}
use Rattle.al_history.proofs.Doings.{Doing, doing, moved, IsXact, own_moves}
use Rattle.al_history.proofs.Turns.{Tail, Went, tail_commit, tail_on, tail_ends}
use Rattle.al_history.proofs.Xacts.{xact_is}
use Rattle.al_queue.specs.Walk.{released}
use Rattle.al_queue.specs.Settled.{IsSettled, HandsOn}
use Rattle.al_engine.specs.declared.sessions.Block.{Block}
use Rattle.al_engine.specs.declared.sessions.Block.TheVariants as blocks
use Rattle.al_engine.specs.declared.sessions.Session.{Session}
use Rattle.al_engine.specs.LockTie.{locked_by, is_granted}
use Rattle.al_engine.specs.Sessions.{xact_in, woken, state_of, IsMirror, of_xact, of_step, light_of, IsCounted, script_length, of_hand, stopped}
use Rattle.al_engine.specs.Listed.{KeepsControls}
use Rattle.al_engine.specs.Kept.{listed_in, Parts, IsSound, IsAmid, IsClear, IsKept, CanBeDone}
use Rattle.al_engine.proofs.Amid.{still_done, still_end, amid_notes, commit_comes, amid_commits, amid_stops}
use Rattle.al_engine.proofs.Grants.{HaveCome, settled_then}
use Rattle.al_engine.proofs.LockLists.{LeavesSo, leaves_so}
use Rattle.al_engine.proofs.Mirrors.{calm, calm_none, doing_granted, unasked_idle, unasked_free}
use Rattle.al_engine.proofs.SessionLemmas.{light_at}
use Rattle.al_engine.proofs.Tails.{tail_by_done, tail_granted, rows_granted}
use Rattle.al_engine.proofs.Woken.{calmed, woken_get}
use Rattle.al_history.proofs.Implicit.{unfaulted}
use Rattle.al_engine.specs.Ended.{IsOver}
use Rattle.al_engine.proofs.TurnLemmas.{statement_beyond}
use Rattle.al_engine.proofs.OverLemmas.{answered}

-- what a session is doing whose last statement is done, by its record
abbrev pub spent : Session → Option ℕ → Doing
spent t x = record { hand = t.hand; dones = t.done + 1; refused = false; xact = x; look = None; acts = []; block = state_of t.block; closed = t.closed; wants = None }

-- its record when its step has ended
abbrev pub rested : Session → Option ℕ → Session
rested t x = stopped t x t.block

rests : (terms : Terms) (past : Past) (s : ℕ) (t : Session) (x : Option ℕ) → doing past s ≡ spent t x → IsMirror terms (doing (End s ∷ past) s) (rested t x)
rests terms past s t x is =
    let state : doing (End s ∷ past) s ≡ moved past (End s) (spent t x) = own_moves past s (End s) refl ∙ ap (λ (d : Doing). moved past (End s) d) is in
    subst (λ (d : Doing). IsMirror terms d (rested t x)) (sym state) (record {
      outline = record { hand_is = refl; xact_is = refl; block_is = refl; closed_is = refl; wants_is = refl };
      underway = λ block busy. absurd cc;
    })

-- ---- it is done

module _ (terms : Terms) (past : Past) (s block : ℕ) (t : Session) (reply : Reply) (legal : Legal terms past) (clear : IsClear terms past) (done : CanBeDone terms past s t reply) (busy : t.hand ≡ Some block) where
  pub done_comes : MayCome terms past (Done s reply)
  done_comes = comes_done terms past s (doing past s) legal refl clear.settled reply (rw (done.outline.hand_is, done.dones_is, done.outline.xact_is, done.outline.block_is) done.answers) (rw clear.owed_is tt) (rw clear.owed_is done.goes)

  pub done_state : doing (Done s reply ∷ past) s ≡ spent t t.xact
  done_state = own_moves past s (Done s reply) refl ∙ rw (done.outline.hand_is, done.dones_is, done.none_refused, done.outline.xact_is, done.outline.block_is, done.keeps_block, done.outline.closed_is) refl

  -- it was the last one
  pub none_after : t.left ≤ 1 → statement_of terms t.hand (t.done + 1) ≡ None
  none_after last =
      let counted : IsCounted terms block t.done t.left = done.counted block busy in
      let beyond : script_length terms block ≤ t.done + 1 = omega (arith, counted.all) in
      rw busy (statement_beyond terms block (t.done + 1) beyond)

  -- its block is a script
  pub none_at_fault : fault_of terms t.hand ≡ None
  none_at_fault =
      let there = answered (statement_of terms t.hand t.done) (acts_of past s) t.xact (state_of t.block) reply done.answers in
      unfaulted terms t.hand t.done there.0 there.1

  pub done_owes : t.left ≤ 1 → owed terms (Done s reply ∷ past) ≡ Some (commit_or_end (if_no_block (state_of t.block) t.xact) s)
  done_owes last =
      let none : in_hand terms (Done s reply ∷ past) s ≡ None = ap (λ (d : Doing). statement_of terms d.hand d.dones) done_state ∙ none_after last in
      let its : implicit_of (Done s reply ∷ past) s ≡ if_no_block (state_of t.block) t.xact = ap (λ (d : Doing). if_no_block d.block d.xact) done_state in
      rw (none, its) refl

-- ---- its transaction commits with it

module _ (terms : Terms) (p m q : Parts) (j : Kept) (s block x : ℕ) (t : Session) (reply : Reply) (amid : IsAmid terms p s 0) (clear : IsClear terms (past_of p.journal)) (there : slice_get p.sessions s ≡ Some t) (done : CanBeDone terms (past_of p.journal) s t reply) (busy : t.hand ≡ Some block) (last : t.left ≤ 1) (outside : t.block ≡ blocks.Outside) (own : t.xact ≡ Some x) (noted : past_of j ≡ Done s reply ∷ past_of p.journal) (noted_room : j.room + 1 ≡ p.journal.room) where
  abbrev old : Past
  old = past_of p.journal

  abbrev a : Parts
  a = record { journal = j; sessions = p.sessions; controls = p.controls; tables = p.tables; locks = p.locks; committed = p.committed; weight = p.weight }

  none_last : statement_of terms t.hand (t.done + 1) ≡ None
  none_last = none_after terms old s block t reply amid.sound.legal clear done busy last

  amid_done : IsAmid terms a s 1
  amid_done = amid_notes terms p a s 0 t (Done s reply) amid there (still_done s reply) refl (done_comes terms old s block t reply amid.sound.legal clear done busy) noted noted_room refl refl refl refl refl (λ t held. held)

  by : IsXact (Done s reply ∷ old) s x
  by = let open_so : xact_of old s ≡ Some x = done.outline.xact_is ∙ own in record { session = (xact_is terms old s x amid.sound.legal open_so).own; open_xact = open_so }

  by_done : IsXact (past_of j) s x
  by_done = rw noted by

  state_done : doing (past_of j) s ≡ spent t t.xact
  state_done = subst (λ (past : Past). doing past s ≡ spent t t.xact) (sym noted) (done_state terms old s block t reply amid.sound.legal clear done busy)

  owes_done : owed terms (Done s reply ∷ old) ≡ Some (Commit x)
  owes_done = done_owes terms old s block t reply amid.sound.legal clear done busy last ∙ rw (outside, own) refl

  commit_may : MayCome terms (past_of j) (Commit x)
  commit_may = rw noted (comes_commit terms (Done s reply ∷ old) s (spent t t.xact) (done_comes terms old s block t reply amid.sound.legal clear done busy, amid.sound.legal) (done_state terms old s block t reply amid.sound.legal clear done busy) clear.settled x by block busy refl (inl (none_last, rw outside refl)) (rw owes_done refl) (rw owes_done refl))

  tail_done : Tail terms s old (past_of j) false (driver old) (IsLeast old s)
  tail_done = rw noted (tail_by_done terms s old reply amid.sound.legal clear.owed_is (done_comes terms old s block t reply amid.sound.legal clear done busy))

  module _ (c_noted : past_of m.journal ≡ locked_by (xact_in p.sessions) m.locks.locks.granted (Commit x ∷ past_of j)) (c_room : m.journal.room + length m.locks.locks.granted + 1 ≡ j.room) (c_woke : m.sessions ≡ woken m.locks.locks.granted p.sessions) (c_tables : m.tables ≡ p.tables) (c_count : m.locks.sessions ≡ p.locks.sessions) (c_marked : m.committed ≡ slice_set p.committed x true) (c_settled : IsSettled m.locks.locks) (c_hands : HandsOn (released p.locks.locks s) m.locks.locks) (c_weight : m.weight ≡ p.weight) (c_controls : KeepsControls (listed_in p) (listed_in m)) where
    amid_committed : IsAmid terms m s 2
    amid_committed = amid_commits terms a m s 1 x t amid_done there by_done c_hands c_room c_woke c_tables c_count c_settled c_weight c_controls own commit_may c_noted c_marked

    come : HaveCome terms (xact_in p.sessions) m.locks.locks.granted (Commit x ∷ past_of j) m.locks.locks
    come = commit_comes terms a m s 1 x t amid_done there by_done c_hands commit_may

    abbrev calms : Bool
    calms = is_granted s m.locks.locks.granted

    there_then : slice_get m.sessions s ≡ Some (calmed calms t)
    there_then = rw c_woke (woken_get m.locks.locks.granted p.sessions s ∙ rw there refl)

    state_committed : doing (past_of m.journal) s ≡ spent t None
    state_committed =
        let commits : doing (Commit x ∷ past_of j) s ≡ spent t None = own_moves (past_of j) s (Commit x) by_done ∙ ap (λ (d : Doing). moved (past_of j) (Commit x) d) state_done in
        subst (λ (past : Past). doing past s ≡ spent t None) (sym c_noted) (doing_granted terms (Commit x ∷ past_of j) (xact_in p.sessions) m.locks.locks s come ∙ (ap (λ (d : Doing). calm calms d) commits ∙ calm_none calms (spent t None) refl))

    settled_then_so : is_settled (past_of m.journal) ≡ true
    settled_then_so = rw c_noted (settled_then terms (Commit x ∷ past_of j) (xact_in p.sessions) m.locks.locks come c_settled)

    owes_end : owed terms (past_of m.journal) ≡ Some (End s)
    owes_end =
        let so : LeavesSo terms (Commit x ∷ past_of j) (locked_by (xact_in p.sessions) m.locks.locks.granted (Commit x ∷ past_of j)) = leaves_so terms (xact_in p.sessions) m.locks.locks.granted (Commit x ∷ past_of j) in
        let none : in_hand terms (past_of j) s ≡ None = ap (λ (d : Doing). statement_of terms d.hand d.dones) state_done ∙ none_last in
        rw c_noted (so.owes ∙ rw (by_done.session, none) refl)

    end_may : MayCome terms (past_of m.journal) (End s)
    end_may = comes_end terms (past_of m.journal) s (spent t None) amid_committed.sound.legal state_committed settled_then_so block busy (inl (record { is_script = none_at_fault terms old s block t reply amid.sound.legal clear done busy; none_left = none_last })) (rw outside refl) (rw owes_end refl) (rw owes_end refl)

    tail_committed : Tail terms s old (past_of m.journal) false (driver old) (IsLeast old s)
    tail_committed = rw c_noted (tail_granted terms s old (Commit x ∷ past_of j) false (driver old) (IsLeast old s) (xact_in p.sessions) m.locks.locks come (tail_on terms s old (past_of j) false (driver old) (IsLeast old s) (Commit x) tail_done (tail_commit x) (λ past r. refl) (inl by_done.session) commit_may (rw noted (rw owes_done tt))))

    module _ (e_noted : past_of q.journal ≡ End s ∷ past_of m.journal) (e_room : q.journal.room + 1 ≡ m.journal.room) (e_set : q.sessions ≡ slice_set m.sessions s (rested t None)) (e_tables : q.tables ≡ m.tables) (e_locks : q.locks ≡ m.locks) (e_committed : q.committed ≡ m.committed) (e_weight : q.weight ≡ m.weight) (e_controls : KeepsControls (listed_in m) (listed_in q)) where
      pub commits_kept : IsKept terms q
      commits_kept =
          let fits : light_of (rested t None) + 2 + 1 ≤ light_of (calmed calms t) = rw (own, busy) (omega arith) in
          amid_stops terms m q s 2 (calmed calms t) (rested t None) (End s) amid_committed there_then (still_end s) refl end_may (unasked_idle terms (past_of m.journal) s amid_committed.sound.legal (ap (λ (d : Doing). d.xact) state_committed)) settled_then_so refl (rests terms (past_of m.journal) s t None state_committed) (λ y its. absurd cc) fits e_noted e_room e_set e_tables e_locks e_committed e_weight e_controls

      pub commits_went : Went terms s old (past_of q.journal) false (driver old) (IsLeast old s)
      commits_went = rw e_noted (tail_ends terms s old (past_of m.journal) false (driver old) (IsLeast old s) tail_committed end_may (rw owes_end tt))

      pub commits_rows : row_entries (past_of q.journal) ≡ row_entries old
      commits_rows = rw (e_noted, c_noted) (rows_granted (xact_in p.sessions) m.locks.locks.granted (Commit x ∷ past_of j) ∙ rw noted refl)

-- ---- no implicit transaction ends with it

pub step_three : (o : Option ℕ) (left : ℕ) → 3 ≤ of_step o left
step_three None left = omega arith
step_three (Some x) left = omega arith

-- it is done, and its step goes on or ends
pub over_by_done : (terms : Terms) (p : Parts) (s block : ℕ) (t : Session) (reply : Reply) → IsAmid terms p s 0 → IsClear terms (past_of p.journal) → slice_get p.sessions s ≡ Some t → CanBeDone terms (past_of p.journal) s t reply → t.hand ≡ Some block → (t.left ≤ 1 → if_no_block (state_of t.block) t.xact ≡ None) → IsOver terms p s 0 t t (past_of p.journal) t.xact reply
over_by_done terms p s block t reply amid clear there done busy within =
    let start : Past = past_of p.journal in
    let comes_so : MayCome terms start (Done s reply) = done_comes terms start s block t reply amid.sound.legal clear done busy in
    record {
      amid = amid;
      there = there;
      like = refl;
      is_last = record {
        block = block;
        busy = done.outline.hand_is ∙ busy;
        hand_is = busy;
        dones_is = done.dones_is;
        counted = done.counted block busy;
        unrefused = done.none_refused;
        xact_is = done.outline.xact_is;
        block_is = done.outline.block_is;
        closed_is = done.outline.closed_is;
        none_left = λ last. rw done.keeps_block (within last);
      };
      settled = clear.settled;
      unasked = unasked_free terms start s amid.sound.legal clear.owed_is done.outline.wants_is;
      comes = comes_so;
      tail = tail_by_done terms s start reply amid.sound.legal clear.owed_is comes_so;
      its = λ x is. is;
      fits = λ b. rw busy (omega (arith, step_three t.xact t.left));
      fits_on = λ b more. goes_fit t.xact more;
    } where
      goes_fit : (o : Option ℕ) → 1 < t.left → cond t.closed 0 1 + (of_xact o + of_hand t.hand o (t.left - 1)) + 0 + 1 ≤ cond t.closed 0 1 + (of_xact o + of_hand t.hand o t.left)
      goes_fit None more = rw busy (omega arith)
      goes_fit (Some x) more = rw busy (omega arith)

-- ---- what the code asks for

-- a step in hand is of a block
pub record IsBusy (t : Session) : Type 0 where
  pub block : ℕ
  pub is : t.hand ≡ Some block

pub busy_by : (t : Session) → IsSome t.hand → IsBusy t
busy_by t in_step = by_hand t.hand refl in_step where
  by_hand : (o : Option ℕ) → t.hand ≡ o → IsSome o → IsBusy t
  by_hand None is some = absurd (let wrong : false ≡ true = some in cc)
  by_hand (Some block) is some = record { block = block; is = is }

-- the light entries of a step in hand have their places, besides the requests that wait
pub spare : (terms : Terms) (p : Parts) (s used : ℕ) (t : Session) → IsSound terms p used → slice_get p.sessions s ≡ Some t → IsSome t.hand → of_xact t.xact + 3 + length p.locks.locks.waiting ≤ p.journal.room + used
spare terms p s used t sound there in_step =
    let b : IsBusy t = busy_by t in_step in
    let most : of_xact t.xact + 3 ≤ light_of t = rw b.is (omega (arith, step_three t.xact t.left)) in
    omega (arith, most, light_at p.sessions s t there, sound.reserved)

pub not_outside : (b : Block) (x : Option ℕ) → (b ≡ blocks.Outside → ⊥) → if_no_block (state_of b) x ≡ None
not_outside blocks.Outside x not = absurd (not refl)
not_outside blocks.Open x not = refl
not_outside (blocks.Failed refuse) x not = refl
