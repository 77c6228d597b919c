-- What the engine keeps through each of its calls, and what contracts see of them.
use Rattle.std.proofs.Common.{◌≡◌, List, ℕ, suc, zero, ◌+◌, ◌<◌, ◌≤◌, [], ◌∷◌, length, refl, sym, ap, cond, true, false, Bool, Option, Some, None, arith, ◌∙◌, slice_get, slice_set, option_map, replicate, inl, inr, ◌-◌, ◌^◌}
use Rattle.std.specs.Prelude.{◌==◌, is_some, Result, Ok, Err}
use Rattle.std.proofs.Math.Nat.{le-max_right}
use Rattle.std.proofs.lemmas.Bool.{ne_eqb}
use Rattle.std.proofs.lemmas.Option.{slice_get_within}
use Rattle.al_statements.specs.declared.cause.Cause.TheVariants as causes
use Rattle.al_history.specs.declared.entry.Entry.TheVariants.{Give, Abort, Cancel, Close}
use Rattle.al_history.specs.declared.entry.Want.{Want}
use Rattle.al_history.specs.declared.statement.ScriptBlock.{ScriptBlock}
use Rattle.al_history.specs.declared.statement.Terms.{Terms}
use Rattle.al_history.specs.Kept.{Kept}
use Rattle.al_history.specs.Past.{Past, past_of}
use Rattle.al_history.specs.Hand.{hand, dones, in_hand, xact_of, closed, statement_of, refused as told_refused}
use Rattle.al_history.specs.Legal.{MayCome}
use Rattle.al_history.specs.Tail.{owed}
use Rattle.al_history.specs.Waits.{wanted_by, is_blocked, can_go_on}
use Rattle.al_history.specs.Whole.{driver, IsLeast, IsTurn}
use Rattle.al_history.proofs.Comes.{comes_give, comes_cancel, comes_abort, comes_close}
use Rattle.al_history.proofs.Doings.{doing, IsXact, own_moves, others_stay}
use Rattle.al_history.proofs.Pasts.{if_same}
use Rattle.al_history.proofs.Xacts.{xact_is}
use Rattle.al_history.proofs.Turns.{Went, extends_on, extends_by, extends_none}
use Rattle.al_queue.specs.Walk.{released}
use Rattle.al_queue.specs.Settled.{IsSettled, HandsOn}
use Rattle.al_engine.specs.declared.sessions.Session.{Session}
use Rattle.al_engine.specs.Ran.{WentOn, IsWaitingTurn, IsCancelled, IsClosed}
use Rattle.al_engine.specs.LockTie.{locked_by, locks_of, is_granted}
use Rattle.al_engine.specs.Sessions.{idle_session, IsMirror, xact_in, woken, is_held_up, light, light_of, of_step, of_xact, length_in, length_at, script_length, given}
use Rattle.al_engine.specs.Listed.{KeepsControls, HasSameStep, controls_by, controls_for, controls_at}
use Rattle.al_engine.specs.Kept.{parts_of, past_in, listed_in, Parts, IsAmid, IsKept, IsSame, CanBeRefused, IsRefused}
use Rattle.al_engine.specs.Closing.{HasLeft}
use Rattle.al_engine.specs.Giving.{IsTakenUp}
use Rattle.al_engine.specs.declared.machine.Machine.{Machine}
use Rattle.al_statements.specs.declared.fault.SqlFault.{SqlFault}
use Rattle.al_history.specs.declared.statement.Statement.{Statement}
use Rattle.al_sessions.specs.Blocks.{control_of}
use Rattle.std.proofs.lemmas.List.{length-map}
use Rattle.al_engine.proofs.Amid.{still_cancel, still_close, amid_begins, amid_notes, abort_comes, amid_aborts, amid_stops}
use Rattle.al_engine.proofs.Grants.{HaveCome, settled_then, driven_then}
use Rattle.al_engine.proofs.LockLists.{LeavesSo, leaves_so, locked_is}
use Rattle.al_engine.proofs.Mirrors.{unasked_idle}
use Rattle.al_engine.proofs.Tails.{extends_granted}
use Rattle.al_engine.proofs.Woken.{calmed, woken_get}
use Rattle.al_engine.proofs.StoredLemmas.{tells_none}
use Rattle.al_engine.proofs.SessionLemmas.{light_at, light_set, light_idle, length_set, got_idle, held_up_is, wanting_busy, idle_asks, mirrors_set, marked_set}
use Rattle.al_history.proofs.Agenda.{moves_same}

-- ---- one of the sessions

some_of : (o : Option ℕ) → is_some o ≡ true → (block : ℕ) × (o ≡ Some block)
some_of None e = absurd cc
some_of (Some block) e = (block, refl)

pub none_of : (o : Option ℕ) → is_some o ≡ false → o ≡ None
none_of None e = refl
none_of (Some block) e = absurd cc

module _ (terms : Terms) (p : Parts) (kept : IsKept terms p) (s : ℕ) (t : Session) where
  pub known_in : s < terms.scripts.sessions → s < length p.sessions
  known_in known = rw kept.sound.count known

  -- whether it has a step in hand
  pub hand_is : slice_get p.sessions s ≡ Some t → hand (past_of p.journal) s ≡ t.hand
  hand_is there = (kept.mirrors s t there).outline.hand_is

  pub is_busy : slice_get p.sessions s ≡ Some t → is_some t.hand ≡ true → (block : ℕ) × (t.hand ≡ Some block) × (hand (past_of p.journal) s ≡ Some block)
  is_busy there e = let block = some_of t.hand e in (block.0, block.1, hand_is there ∙ block.1)

  -- its statement in hand is the one of its block
  pub statement_there : slice_get p.sessions s ≡ Some t → is_some t.hand ≡ true → in_hand terms (past_of p.journal) s ≡ statement_of terms t.hand t.done
  statement_there there e =
      let block = some_of t.hand e in
      let dones_is : dones (past_of p.journal) s ≡ t.done = ((kept.mirrors s t there).underway block.0 block.1).dones_is in
      rw (hand_is there, dones_is) refl

  pub is_idle : slice_get p.sessions s ≡ Some t → is_some t.hand ≡ false → hand (past_of p.journal) s ≡ None
  is_idle there e = hand_is there ∙ none_of t.hand e

  pub goes : slice_get p.sessions s ≡ Some t → is_some t.hand ≡ true → is_held_up p.sessions t.wants ≡ false → can_go_on (past_of p.journal) s ≡ true
  goes there busy free =
      let block = is_busy there busy in
      let unblocked : is_blocked (past_of p.journal) s ≡ false = sym (held_up_is terms p kept s t there) ∙ free in
      rw (block.2, unblocked) refl

  -- a turn waits
  pub waits_by : slice_get p.sessions s ≡ Some t → is_some t.hand ≡ true → is_held_up p.sessions t.wants ≡ true → IsWaitingTurn (record { terms = terms; past = past_of p.journal }) (record { terms = terms; past = past_of p.journal }) s
  waits_by there busy up =
      let block = is_busy there busy in
      record { same = refl; in_step = rw block.2 refl; blocked = sym (held_up_is terms p kept s t there) ∙ up }

-- ---- the first moment

pub open_keeps : (terms : Terms) (p : Parts) → p.journal.entries ≡ [] → p.journal.room ≡ terms.scripts.sessions → p.sessions ≡ replicate terms.scripts.sessions idle_session → p.tables ≡ [] → p.locks ≡ record { sessions = terms.scripts.sessions; locks = record { held = []; waiting = []; granted = [] } } → p.committed ≡ [] → p.weight ≡ 0 → IsKept terms p
open_keeps terms p none room idle tables locks committed weighs =
    let past : past_of p.journal ≡ [] = rw none refl in
    record {
      sound = record {
        legal = rw past tt;
        controlled = λ s block t is busy.
            let first : t ≡ idle_session = got_idle terms.scripts.sessions s t (rw idle at is) in
            absurd (let wrong : ◌≡◌ {A = Option ℕ} None (Some block) = rw first at busy in cc);
        count = rw idle (length_replicate terms.scripts.sessions);
        beyond = λ r le. rw past refl;
        stored = rw (past, tables) refl;
        tells = rw (past, committed) tells_none;
        marked = λ r x t is has.
            let first : t ≡ idle_session = got_idle terms.scripts.sessions r t (rw idle at is) in
            absurd (let wrong : ◌≡◌ {A = Option ℕ} None (Some x) = rw first at has in cc);
        table_count = rw locks refl;
        tied = rw (past, locks) (record { waits = refl; holds = λ test. refl; apart = tt });
        queues = rw locks tt;
        weighed = rw past weighs;
        reserved = rw (idle, locks, light_idle terms.scripts.sessions) (omega (arith, room));
      };
      wants_so = λ c there. absurd (let wrong : false ≡ true = rw past at there in cc);
      mirrors = λ r t is.
          let first : t ≡ idle_session = got_idle terms.scripts.sessions r t (rw idle at is) in
          rw (past, first) (record { outline = record { hand_is = refl; xact_is = refl; block_is = refl; closed_is = refl; wants_is = refl }; underway = λ block e. absurd cc });
      clear = rw past (record { owed_is = refl; settled = refl });
    } where
      length_replicate : (n : ℕ) → length (replicate n idle_session) ≡ n
      length_replicate zero = refl
      length_replicate (suc n) = ap suc (length_replicate n)

-- ---- a call for which there was no memory

pub same_keeps : (terms : Terms) (p q : Parts) → IsSame p q → IsKept terms p → IsKept terms q
same_keeps terms p q same kept =
    let sound = kept.sound in
    record {
      sound = record {
        legal = rw same.journal sound.legal;
        count = rw same.sessions sound.count;
        controlled = rw (same.sessions, same.controls) sound.controlled;
        beyond = rw (same.journal, same.sessions) sound.beyond;
        stored = rw (same.journal, same.tables) sound.stored;
        tells = rw (same.journal, same.committed) sound.tells;
        marked = rw (same.sessions, same.committed) sound.marked;
        table_count = rw same.locks sound.table_count;
        tied = rw (same.journal, same.locks) sound.tied;
        queues = rw same.locks sound.queues;
        weighed = rw (same.journal, same.weight) sound.weighed;
        reserved = rw (same.sessions, same.locks) (omega (arith, sound.reserved, same.room));
      };
      wants_so = rw same.journal kept.wants_so;
      mirrors = rw (same.journal, same.sessions) kept.mirrors;
      clear = rw same.journal kept.clear;
    }

-- ---- a block is given

-- most light entries are reserved for a step where no transaction is open
step_light : (o : Option ℕ) (left : ℕ) → of_step o left ≤ of_step None left
step_light None left = omega arith
step_light (Some x) left = omega arith

-- the code's number of statements
pub controls_length : (terms : Terms) (block : ℕ) → length (controls_at terms block) ≡ script_length terms block
controls_length terms block = by_block (slice_get terms.scripts.blocks block) where
  by_script : (script : Result (List Statement) SqlFault) → length (controls_by script) ≡ length_in script
  by_script (Ok script) = length-map script control_of
  by_script (Err fault) = refl

  by_block : (o : Option ScriptBlock) → length (controls_for o) ≡ length_at o
  by_block None = refl
  by_block (Some b) = by_script b.script

module _ (terms : Terms) (old new : Machine) (s block : ℕ) (t : Session) (kept : IsKept terms (parts_of old)) (there : slice_get old.sessions.list s ≡ Some t) (none : t.hand ≡ None) (taken : IsTakenUp terms old new s block) (known : s < terms.scripts.sessions) (of_session : option_map (λ (b : ScriptBlock). b.session) (slice_get terms.scripts.blocks block) ≡ Some s) (open_so : closed (past_in old) s ≡ false) where
  abbrev given_past : Past
  given_past = past_in old

  abbrev held : Session
  held = given t block (length (controls_at terms block))

  given_idle : hand given_past s ≡ None
  given_idle = (kept.mirrors s t there).outline.hand_is ∙ none

  give_comes : MayCome terms given_past (Give s block)
  give_comes = comes_give terms given_past s (doing given_past s) kept.sound.legal refl kept.clear.settled block known of_session open_so given_idle kept.clear.owed_is

  given_list : new.sessions.list ≡ slice_set old.sessions.list s held
  given_list = taken.given.list t there

  given_others : (r : ℕ) → (s == r) ≡ false → doing (Give s block ∷ given_past) r ≡ doing given_past r
  given_others r other = others_stay terms given_past s r kept.sound.legal other (Give s block) refl

  given_mirror : IsMirror terms (doing (Give s block ∷ given_past) s) held
  given_mirror =
      let outline = (kept.mirrors s t there).outline in
      rw (own_moves given_past s (Give s block) refl) (record {
        outline = record { hand_is = refl; xact_is = outline.xact_is; block_is = outline.block_is; closed_is = outline.closed_is; wants_is = refl };
        underway = λ b e. let same : block ≡ b = cc in rw (← same) (record { dones_is = refl; counted = record { all = omega (arith, controls_length terms block); few = omega (arith, taken.few); some = λ e. refl }; none_refused = refl; no_acts = refl; look_is = refl; only_creates = λ e. absurd cc });
      })

  given_other : (r : ℕ) → s < r → (s == r) ≡ false
  given_other r lt = ne_eqb s r (λ e. omega arith)

  give_reserved : light new.sessions.list + length new.locks.locks.waiting ≤ new.journal.room + 0
  give_reserved =
      let was : light_of t + of_step t.xact (length (controls_at terms block)) ≡ light_of held = rw none (omega arith) in
      let set : light new.sessions.list + light_of t ≡ light old.sessions.list + light_of held = rw given_list (light_set old.sessions.list s t held there) in
      rw taken.locks (omega (arith, set, was, step_light t.xact (length (controls_at terms block)), taken.room, le-max_right old.journal.room (light old.sessions.list + length old.locks.locks.waiting + 1 + of_step None (length (controls_at terms block)))))

  pub give_keeps : IsKept terms (parts_of new)
  give_keeps = record {
    sound = record {
      legal = rw taken.past (give_comes, kept.sound.legal);
      count = rw given_list (length_set old.sessions.list s held ∙ kept.sound.count);
      controlled = taken.controls kept.sound.controlled;
      beyond = λ r le.
          let far : length old.sessions.list ≤ r = rw (given_list, length_set old.sessions.list s held) at le in
          let other : (s == r) ≡ false = given_other r (omega (arith, slice_get_within old.sessions.list s t there)) in
          rw (taken.past, other) (kept.sound.beyond r far);
      stored = rw (taken.past, taken.tables) kept.sound.stored;
      tells = rw (taken.past, taken.committed) kept.sound.tells;
      marked = rw (given_list, taken.committed) (marked_set old.sessions.list s _ _ kept.sound.marked (λ x has. kept.sound.marked s x t there has));
      table_count = rw taken.locks kept.sound.table_count;
      tied = rw (taken.past, taken.locks) (record { waits = kept.sound.tied.waits; holds = kept.sound.tied.holds; apart = kept.sound.tied.apart });
      queues = rw taken.locks kept.sound.queues;
      weighed = rw (taken.past, taken.weight) kept.sound.weighed;
      reserved = give_reserved;
    };
    wants_so = rw taken.past (λ c waits. let other : (s == c.session) ≡ false = idle_asks terms given_past s kept.sound.legal kept.wants_so given_idle c waits in rw other (kept.wants_so c waits));
    mirrors = rw (taken.past, given_list) (mirrors_set terms given_past (Give s block ∷ given_past) old.sessions.list s _ (λ r u other at. kept.mirrors r u at) given_others given_mirror);
    clear = rw taken.past (record { owed_is = refl; settled = kept.clear.settled });
  }

-- ---- a turn

fewer : (m n : ℕ) → m < n → m < 2 ^ 32 → 2 ^ 32 - n < 2 ^ 32 - m
fewer m n lt range = omega arith

pub turn_went : (terms : Terms) (p : Parts) (after : Past) (s : ℕ) (t : Session) (refused : Bool) → IsKept terms p → slice_get p.sessions s ≡ Some t → is_some t.hand ≡ true → is_held_up p.sessions t.wants ≡ false
    → Went terms s (past_of p.journal) after refused (driver (past_of p.journal)) (IsLeast (past_of p.journal) s) → length (past_of p.journal) < 2 ^ 32
    → WentOn (record { terms = terms; past = past_of p.journal }) (record { terms = terms; past = after }) s (length (past_of p.journal)) (length after) refused
turn_went terms p after s t refused kept there busy free went in_range =
    let block = is_busy terms p kept s t there busy in
    record {
      goes_on = record {
        terms = refl;
        in_step = rw block.2 refl;
        extends = went.extends;
        own = went.own;
        others = went.hands;
        closed_same = went.closed_same;
        failed = went.failed;
        told = went.told unrefused;
      };
      not_blocked = sym (held_up_is terms p kept s t there) ∙ free;
      refused_ends = went.refused_ends;
      from_is = refl;
      to_is = refl;
      fewer_left = fewer (length (past_of p.journal)) (length after) went.more in_range;
      left_is = went.left_is;
      one_row = went.one_row;
      driven = went.driven;
      in_turn = went.in_turn;
    } where
      unrefused : told_refused (past_of p.journal) s ≡ false
      unrefused = let block = is_busy terms p kept s t there busy in ((kept.mirrors s t there).underway block.0 block.1).none_refused

-- ---- a step is cancelled

module _ (terms : Terms) (p : Parts) (s block : ℕ) (t : Session) (kept : IsKept terms p) (there : slice_get p.sessions s ≡ Some t) (busy : t.hand ≡ Some block) where
  cancel_light : 3 ≤ light p.sessions
  cancel_light =
      let own : 3 ≤ of_xact t.xact + of_step t.xact t.left = least t.xact in
      let all : light_of t ≡ cond t.closed 0 1 + (of_xact t.xact + of_step t.xact t.left) = rw busy refl in
      omega (arith, light_at p.sessions s t there) where
        least : (o : Option ℕ) → 3 ≤ of_xact o + of_step o t.left
        least None = omega arith
        least (Some x) = omega arith

  -- the Cancel has its place
  pub cancel_may : 0 < p.journal.room
  cancel_may = omega (arith, cancel_light, kept.sound.reserved)

  module _ (new : Kept) (is : past_of new ≡ Cancel s ∷ past_of p.journal) where
    pub cancel_amid : new.room + 1 ≡ p.journal.room → IsAmid terms (record p { journal = new }) s 1
    cancel_amid room =
        let in_hand_so : hand (past_of p.journal) s ≡ Some block = (kept.mirrors s t there).outline.hand_is ∙ busy in
        let comes = comes_cancel terms (past_of p.journal) s (doing (past_of p.journal) s) kept.sound.legal refl kept.clear.settled block in_hand_so kept.clear.owed_is in
        amid_notes terms p (record p { journal = new }) s 0 t (Cancel s) (amid_begins terms p s kept) there (still_cancel s) refl comes is room refl refl refl refl refl (λ t held. held)

    pub cancel_refused : CanBeRefused terms (past_of new) s t (causes.Cancelled (length (past_of p.journal)))
    cancel_refused =
        let outline = (kept.mirrors s t there).outline in
        rw is (record {
          hand_is = outline.hand_is;
          xact_is = outline.xact_is;
          block_is = outline.block_is;
          closed_is = outline.closed_is;
          in_step = rw busy refl;
          first_true = rw (if_same s) refl;
          settled = kept.clear.settled;
          follows = refl;
          timely = refl;
        })

    module _ (after : Past) (exact : IsRefused (past_of new) after s t.xact (causes.Cancelled (length (past_of p.journal))))
        (went : Went terms s (past_of new) after true (driver (past_of new)) (IsTurn (owed terms (past_of new)) (past_of new) s)) where
      pub cancel_went : IsCancelled (record { terms = terms; past = past_of p.journal }) (record { terms = terms; past = after }) s
      cancel_went =
          let in_hand_so : hand (past_of p.journal) s ≡ Some block = (kept.mirrors s t there).outline.hand_is ∙ busy in
          let did = rw is at went in
          let ends = rw is at exact in
          record {
            goes_on = record {
              terms = refl;
              in_step = rw in_hand_so refl;
              extends = extends_on s (past_of p.journal) (Cancel s ∷ past_of p.journal) after (extends_by s (past_of p.journal) (Cancel s) (inl refl)) did.extends;
              own = did.own;
              others = did.hands;
              closed_same = did.closed_same;
              failed = did.failed;
              told = did.told unrefused;
            };
            left_is = λ spec steps. did.left_is spec steps;
            aborted = ends.aborted;
            is_aborted = rw (kept.mirrors s t there).outline.xact_is ends.is_aborted;
            is = ends.is;
            ended = rw (ends.is, if_same s) refl;
            driven = did.driven;
            in_turn = λ idle d. did.in_turn tt (idle, d);
          } where
            unrefused : told_refused (past_of p.journal) s ≡ false
            unrefused = ((kept.mirrors s t there).underway block busy).none_refused

-- ---- a session is closed

module _ (terms : Terms) (p : Parts) (s : ℕ) (t : Session) (kept : IsKept terms p) (there : slice_get p.sessions s ≡ Some t) (idle : hand (past_of p.journal) s ≡ None) (open_so : closed (past_of p.journal) s ≡ false) where
  none_in_hand : t.hand ≡ None
  none_in_hand = sym (kept.mirrors s t there).outline.hand_is ∙ idle

  idle_light : light_of t ≡ 1 + of_xact t.xact
  idle_light =
      let not_closed : t.closed ≡ false = sym (kept.mirrors s t there).outline.closed_is ∙ open_so in
      rw (none_in_hand, not_closed) (omega arith)

  -- an Abort has its place
  pub abort_may : length p.locks.locks.waiting + 1 ≤ p.journal.room
  abort_may = omega (arith, idle_light, light_at p.sessions s t there, kept.sound.reserved)

  -- it has none open
  pub left_none : t.xact ≡ None → HasLeft terms p p s t
  left_none none =
      let was = (kept.mirrors s t there).outline in
      record {
        after = t;
        there = there;
        step_is = refl;
        light_is = idle_light;
        amid = rw none (amid_begins terms p s kept);
        settled = kept.clear.settled;
        follows = rw kept.clear.owed_is tt;
        is_aborted = rw none (record { grants = []; are_grants = tt; is = refl; none_open = λ e. refl });
        none_open = was.xact_is ∙ none;
        block_is = was.block_is;
        extends = extends_none s (past_of p.journal);
        hands = λ r. refl;
        closed_same = λ r. refl;
        driven_so = refl;
        failed = λ spec. refl;
        tasks = λ spec steps. refl;
        in_turn = λ driven. driven;
      }

  -- its transaction is aborted
  module _ (q : Parts) (x : ℕ) (own : t.xact ≡ Some x) (hands_on : HandsOn (released p.locks.locks s) q.locks.locks) (room : q.journal.room + length q.locks.locks.granted + 1 ≡ p.journal.room) (woke : q.sessions ≡ woken q.locks.locks.granted p.sessions) (tables_same : q.tables ≡ p.tables) (count_same : q.locks.sessions ≡ p.locks.sessions) (settled : IsSettled q.locks.locks) (noted : past_of q.journal ≡ locked_by (xact_in p.sessions) q.locks.locks.granted (Abort x ∷ past_of p.journal)) (marked : q.committed ≡ p.committed) (weight_same : q.weight ≡ p.weight) (controls_kept : KeepsControls (listed_in p) (listed_in q)) where
    abbrev old : Past
    old = past_of p.journal

    by_own : IsXact old s x
    by_own =
        let open_xact : xact_of old s ≡ Some x = (kept.mirrors s t there).outline.xact_is ∙ own in
        record { session = (xact_is terms old s x kept.sound.legal open_xact).own; open_xact = open_xact }

    aborts : MayCome terms old (Abort x)
    aborts = comes_abort terms old s (doing old s) kept.sound.legal refl kept.clear.settled x by_own (inl (inr idle)) (rw kept.clear.owed_is tt) (rw idle refl)

    come : HaveCome terms (xact_in p.sessions) q.locks.locks.granted (Abort x ∷ old) q.locks.locks
    come = abort_comes terms p q s 0 x t (amid_begins terms p s kept) there by_own hands_on aborts

    leaves : LeavesSo terms (Abort x ∷ old) (locked_by (xact_in p.sessions) q.locks.locks.granted (Abort x ∷ old))
    leaves = leaves_so terms (xact_in p.sessions) q.locks.locks.granted (Abort x ∷ old)

    amid_then : IsAmid terms q s (0 + 1)
    amid_then = amid_aborts terms p q s 0 x t (amid_begins terms p s kept) there by_own hands_on room woke tables_same count_same settled weight_same controls_kept aborts noted marked

    pub left_some : HasLeft terms p q s t
    left_some =
        let gone : xact_of (Abort x ∷ old) s ≡ None = rw (by_own.open_xact, if_same x) refl in
        record {
          after = calmed (is_granted s q.locks.locks.granted) t;
          there = rw woke (woken_get q.locks.locks.granted p.sessions s ∙ rw there refl);
          step_is = refl;
          light_is = idle_light;
          amid = rw own amid_then;
          settled = rw noted (settled_then terms (Abort x ∷ old) (xact_in p.sessions) q.locks.locks come settled);
          follows = rw (noted, leaves.owes, by_own.session, idle) refl;
          is_aborted = rw own (record { grants = locks_of (xact_in p.sessions) q.locks.locks.granted; are_grants = come.are_grants; is = noted ∙ locked_is (xact_in p.sessions) q.locks.locks.granted (Abort x ∷ old); none_open = λ e. absurd cc });
          none_open = rw noted (leaves.xacts s ∙ gone);
          block_is = rw noted (leaves.blocks s ∙ (kept.mirrors s t there).outline.block_is);
          extends = extends_on s old (Abort x ∷ old) (past_of q.journal) (extends_by s old (Abort x) (inl by_own.session)) (rw noted (extends_granted terms s (Abort x ∷ old) (xact_in p.sessions) q.locks.locks come));
          hands = λ r. rw noted (leaves.hands r);
          closed_same = λ r. rw noted (leaves.closed_same r);
          driven_so = rw noted leaves.driven_so;
          failed = λ spec. rw noted (leaves.failed spec);
          tasks = λ spec steps. rw noted (leaves.left_is spec steps);
          in_turn = λ driven. rw noted (driven_then terms (Abort x ∷ old) (xact_in p.sessions) q.locks.locks come (rw (by_own.session, idle) tt, driven));
        }

  module _ (q : Parts) (left : HasLeft terms p q s t) where
    -- the Close has its place
    pub close_may : 0 < q.journal.room
    close_may = omega (arith, left.light_is, light_at q.sessions s left.after left.there, left.amid.sound.reserved)

    pub close_known : s < length q.sessions
    close_known = slice_get_within q.sessions s left.after left.there

    abbrev last : Past
    last = past_of q.journal

    abbrev pub shut : Session
    shut = record t { xact = None; closed = true }

    wants_none : t.wants ≡ None
    wants_none = by_want t.wants (kept.mirrors s t there).outline.wants_is where
      by_want : (o : Option Want) → wanted_by (past_of p.journal) s ≡ o → o ≡ None
      by_want None is = refl
      by_want (Some want) is =
          let busy : is_some (hand (past_of p.journal) s) ≡ true = wanting_busy terms (past_of p.journal) s want kept.sound.legal is in
          absurd (let wrong : false ≡ true = rw idle at busy in cc)

    closes : s < terms.scripts.sessions → MayCome terms last (Close s)
    closes known = comes_close terms last s (doing last s) left.amid.sound.legal refl left.settled known (left.hands s ∙ idle) (left.closed_same s ∙ open_so) left.none_open left.follows

    shut_so : IsMirror terms (doing (Close s ∷ last) s) shut
    shut_so = rw (own_moves last s (Close s) refl) (record {
      outline = record { hand_is = left.hands s ∙ (kept.mirrors s t there).outline.hand_is; xact_is = left.none_open; block_is = left.block_is; closed_is = refl; wants_is = sym wants_none };
      underway = λ block is. absurd (let wrong : ◌≡◌ {A = Option ℕ} None (Some block) = sym none_in_hand ∙ is in cc);
    })

    pub close_step : HasSameStep (slice_get q.sessions s) shut
    close_step = rw left.there (rw left.step_is refl)

    pub close_keeps : (m : Parts) → s < terms.scripts.sessions → past_of m.journal ≡ Close s ∷ past_of q.journal → m.journal.room + 1 ≡ q.journal.room → m.sessions ≡ slice_set q.sessions s shut → m.tables ≡ q.tables → m.locks ≡ q.locks → m.committed ≡ q.committed → m.weight ≡ q.weight → KeepsControls (listed_in q) (listed_in m) → IsKept terms m
    close_keeps m known noted room set tables locks committed weight_is controls_kept =
        let fits : light_of shut + of_xact t.xact + 1 ≤ light_of left.after = rw none_in_hand (omega (arith, left.light_is)) in
        amid_stops terms q m s (of_xact t.xact) left.after shut (Close s) left.amid left.there (still_close s) refl (closes known)
        (unasked_idle terms last s left.amid.sound.legal left.none_open) left.settled refl shut_so (λ x e. absurd cc) fits noted room set tables locks committed weight_is controls_kept

    pub close_went : (new : Past) → new ≡ Close s ∷ past_of q.journal → IsClosed (record { terms = terms; past = past_of p.journal }) (record { terms = terms; past = new }) s
    close_went new noted = rw noted (record {
      terms = refl;
      aborted = last;
      is_aborted = rw (kept.mirrors s t there).outline.xact_is left.is_aborted;
      is = refl;
      extends = extends_on s (past_of p.journal) last (Close s ∷ last) left.extends (extends_by s last (Close s) (inl refl));
      hands = left.hands;
      closed_now = λ r. rw (left.closed_same r) refl;
      failed = left.failed;
      left_is = λ spec steps. rw (left.tasks spec steps, moves_same spec (past_of p.journal) last left.hands _) refl;
      driven = rw left.driven_so refl;
      in_turn = λ driven. (tt, left.in_turn driven);
    })
