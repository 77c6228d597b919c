-- A statement is done: its step goes on with the next one, or ends.
use Rattle.std.proofs.Common.{◌≡◌, ℕ, ◌+◌, ◌<◌, ◌≤◌, List, ◌∷◌, length, refl, sym, cond, true, false, Bool, Option, Some, None, arith, ◌∙◌, inl, slice_set}
use Rattle.std.specs.Prelude.{IsSome, nat_lt}
use Rattle.std.proofs.lemmas.Bool.{ltb-true, ltb-false}
use Rattle.al_history.specs.declared.entry.Entry.TheVariants.{Done, End}
use Rattle.al_statements.specs.declared.reply.Reply.{Reply}
use Rattle.al_history.specs.declared.statement.Statement.{Statement}
use Rattle.al_history.specs.declared.statement.Terms.{Terms}
use Rattle.al_history.specs.Past.{Past, past_of}
use Rattle.al_history.specs.Hand.{BlockState, hand, dones, fault_of, in_hand, statement_of, acts_of, xact_of, implicit_of, block_state, block_after}
use Rattle.al_history.specs.Tail.{owed}
use Rattle.al_history.specs.Rules.{Answers}
use Rattle.al_history.specs.Legal.{Legal, MayCome}
use Rattle.al_history.specs.Whole.{driver, IsLeast}
use Rattle.al_history.proofs.Doings.{doing}
use Rattle.al_history.proofs.Comes.{comes}
use Rattle.al_history.proofs.Implicit.{unfaulted}
use Rattle.al_history.proofs.Pasts.{if_same}
use Rattle.al_history.proofs.Turns.{Went, tail_ends, tail_goes}
use Rattle.al_engine.specs.declared.sessions.Session.{Session}
use Rattle.al_engine.specs.declared.sessions.Block.{Block}
use Rattle.al_engine.specs.Sessions.{IsMirror, script_length, state_of, light, stopped, onward, passed}
use Rattle.al_engine.specs.Listed.{KeepsControls}
use Rattle.al_engine.specs.Kept.{listed_in, Parts, IsAmid, IsKept}
use Rattle.al_engine.specs.Ended.{IsOver}
use Rattle.al_engine.proofs.Amid.{amid_notes, amid_stops, still_done, still_end}
use Rattle.al_engine.proofs.SessionLemmas.{light_at}
use Rattle.al_engine.proofs.TurnLemmas.{statement_beyond, statement_some}

-- what is answered is a statement
pub answered : (o : Option Statement) (acts : List ℕ) (x : Option ℕ) (state : BlockState) (reply : Reply) → Answers o acts x state reply → (statement : Statement) × (o ≡ Some statement)
answered None acts x state reply answers = absurd answers
answered (Some statement) acts x state reply answers = (statement, refl)

some_statement : (o : Option Statement) → IsSome o → (statement : Statement) × (o ≡ Some statement)
some_statement None some = absurd cc
some_statement (Some statement) some = (statement, refl)

module _ (terms : Terms) (m : Parts) (s used : ℕ) (t state : Session) (old : Past) (xact : Option ℕ) (reply : Reply) (over : IsOver terms m s used t state old xact reply) where
  abbrev mid : Past
  mid = past_of m.journal

  legal_done : Legal terms (Done s reply ∷ mid)
  legal_done = (over.comes, over.amid.sound.legal)

  -- ---- it was the last one
  module _ (last : state.left ≤ 1) where
    none_in_hand : in_hand terms (Done s reply ∷ mid) s ≡ None
    none_in_hand =
        let beyond : script_length terms over.is_last.block ≤ state.done + 1 = omega (arith, over.is_last.counted.all) in
        rw (over.is_last.busy, if_same s, over.is_last.dones_is) (statement_beyond terms over.is_last.block (state.done + 1) beyond)

    none_implicit : implicit_of (Done s reply ∷ mid) s ≡ None
    none_implicit = rw (if_same s, over.is_last.block_is, over.is_last.xact_is) (over.is_last.none_left last)

    owes_end : owed terms (Done s reply ∷ mid) ≡ Some (End s)
    owes_end = rw (none_in_hand, none_implicit) refl

    is_script : fault_of terms (hand mid s) ≡ None
    is_script =
        let there = answered (in_hand terms mid s) (acts_of mid s) (xact_of mid s) (block_state mid s) reply over.comes.rule.answers in
        unfaulted terms (hand mid s) (dones mid s) there.0 there.1

    end_comes : MayCome terms (Done s reply ∷ mid) (End s)
    end_comes = comes terms (Done s reply ∷ mid) legal_done over.settled (End s) (record { in_step = rw over.is_last.busy refl; over = inl (record { is_script = is_script; none_left = none_in_hand }); none_implicit = none_implicit }) (rw owes_end refl) (rw owes_end refl)

    pub over_went : (new : Past) → new ≡ End s ∷ Done s reply ∷ mid → Went terms s old new false (driver old) (IsLeast old s)
    over_went new noted = rw noted (tail_ends terms s old (Done s reply ∷ mid) false (driver old) (IsLeast old s) over.tail end_comes (rw owes_end tt))

    own_stops : (block : Block) → state_of block ≡ block_after reply (state_of state.block) → IsMirror terms (doing (End s ∷ Done s reply ∷ mid) s) (stopped state xact block)
    own_stops block is = record {
      outline = record {
        hand_is = rw (if_same s) refl;
        xact_is = over.is_last.xact_is;
        block_is = rw (if_same s, over.is_last.block_is) (sym is);
        closed_is = over.is_last.closed_is;
        wants_is = rw (if_same s) refl;
      };
      underway = λ b busy. absurd cc;
    }

    module _ (m1 q : Parts) (block : Block) (is : state_of block ≡ block_after reply (state_of state.block)) (noted : past_of m1.journal ≡ Done s reply ∷ mid) (room : m1.journal.room + 1 ≡ m.journal.room) (sessions : m1.sessions ≡ m.sessions) (tables : m1.tables ≡ m.tables) (locks : m1.locks ≡ m.locks) (committed : m1.committed ≡ m.committed) (weight_is : m1.weight ≡ m.weight) (controls_first : KeepsControls (listed_in m) (listed_in m1)) where
      pub over_kept : past_of q.journal ≡ End s ∷ past_of m1.journal → q.journal.room + 1 ≡ m1.journal.room → q.sessions ≡ slice_set m1.sessions s (stopped state xact block) → q.tables ≡ m1.tables → q.locks ≡ m1.locks → q.committed ≡ m1.committed → q.weight ≡ m1.weight → KeepsControls (listed_in m1) (listed_in q) → IsKept terms q
      over_kept noted_end room_end set tables_end locks_end committed_end weight_end controls_end =
          let amid : IsAmid terms m1 s (used + 1) = amid_notes terms m m1 s used t (Done s reply) over.amid over.there (still_done s reply) refl over.comes noted room sessions tables locks committed weight_is controls_first in
          amid_stops terms m1 q s (used + 1) t (stopped state xact block) (End s) amid (rw sessions over.there) (still_end s) refl (rw noted end_comes) (rw noted over.unasked) (rw noted over.settled) refl (rw noted (own_stops block is)) over.its (omega (arith, over.fits block)) noted_end room_end set tables_end locks_end committed_end weight_end controls_end

  -- ---- there is a next one
  module _ (more : 1 < state.left) where
    next_in_hand : (statement : Statement) × (in_hand terms (Done s reply ∷ mid) s ≡ Some statement)
    next_in_hand =
        let within : state.done + 1 < script_length terms over.is_last.block = omega (arith, over.is_last.counted.all) in
        let there = some_statement (statement_of terms (Some over.is_last.block) (state.done + 1)) (statement_some terms over.is_last.block (state.done + 1) within) in
        (there.0, rw (over.is_last.busy, if_same s, over.is_last.dones_is) there.1)

    none_owed : owed terms (Done s reply ∷ mid) ≡ None
    none_owed = rw next_in_hand.1 refl

    pub on_went : (new : Past) → new ≡ Done s reply ∷ mid → Went terms s old new false (driver old) (IsLeast old s)
    on_went new noted = rw noted (tail_goes terms s old (Done s reply ∷ mid) (driver old) (IsLeast old s) over.tail)

    own_on : (block : Block) → state_of block ≡ block_after reply (state_of state.block) → IsMirror terms (doing (Done s reply ∷ mid) s) (onward state xact block)
    own_on block is = record {
      outline = record {
        hand_is = over.is_last.busy ∙ sym over.is_last.hand_is;
        xact_is = over.is_last.xact_is;
        block_is = rw (if_same s, over.is_last.block_is) (sym is);
        closed_is = over.is_last.closed_is;
        wants_is = rw (if_same s) refl;
      };
      underway = λ b busy.
          let same : over.is_last.block ≡ b = (let e : Some over.is_last.block ≡ Some b = sym over.is_last.hand_is ∙ busy in cc) in
          rw (← same) (record {
            dones_is = rw (if_same s, over.is_last.dones_is) refl;
            counted = record { all = omega (arith, over.is_last.counted.all); few = omega (arith, over.is_last.counted.few); some = λ none. omega arith };
            none_refused = over.is_last.unrefused;
            no_acts = rw (if_same s) refl;
            look_is = rw (if_same s) refl;
            only_creates = λ wrong. absurd (let no : false ≡ true = wrong in cc);
          });
    }

    pub on_kept : (q : Parts) (block : Block) → state_of block ≡ block_after reply (state_of state.block) → past_of q.journal ≡ Done s reply ∷ mid → q.journal.room + 1 ≡ m.journal.room → q.sessions ≡ slice_set m.sessions s (onward state xact block) → q.tables ≡ m.tables → q.locks ≡ m.locks → q.committed ≡ m.committed → q.weight ≡ m.weight → KeepsControls (listed_in m) (listed_in q) → IsKept terms q
    on_kept q block is noted room set tables locks committed weight_is controls_kept =
        amid_stops terms m q s used t (onward state xact block) (Done s reply) over.amid over.there (still_done s reply) refl over.comes over.unasked over.settled none_owed (own_on block is) over.its (over.fits_on block more) noted room set tables locks committed weight_is controls_kept

  -- ---- either

  -- there is room for both
  pub over_room : 1 < m.journal.room
  over_room =
      let reserved : light m.sessions + length m.locks.locks.waiting ≤ m.journal.room + used = over.amid.sound.reserved in
      omega (arith, reserved, light_at m.sessions s t over.there, over.fits state.block)

  pub passed_went : (new : Past) → new ≡ cond (nat_lt 1 state.left) (Done s reply ∷ mid) (End s ∷ Done s reply ∷ mid) → Went terms s old new false (driver old) (IsLeast old s)
  passed_went new noted = by_left (nat_lt 1 state.left) refl noted where
    by_left : (b : Bool) → nat_lt 1 state.left ≡ b → new ≡ cond b (Done s reply ∷ mid) (End s ∷ Done s reply ∷ mid) → Went terms s old new false (driver old) (IsLeast old s)
    by_left true is noted = on_went (ltb-true 1 state.left is) new noted
    by_left false is noted = over_went (ltb-false 1 state.left is) new noted

  pub passed_kept : (m1 q : Parts) (u : Session) (block : Block) → state_of block ≡ block_after reply (state_of state.block) → u ≡ record state { xact = xact; block = block } → past_of m1.journal ≡ Done s reply ∷ mid → m1.journal.room + 1 ≡ m.journal.room → m1.sessions ≡ m.sessions → m1.tables ≡ m.tables → m1.locks ≡ m.locks → m1.committed ≡ m.committed → m1.weight ≡ m.weight → KeepsControls (listed_in m) (listed_in m1)
      → past_of q.journal ≡ cond (nat_lt 1 u.left) (past_of m1.journal) (End s ∷ past_of m1.journal) → q.journal.room + cond (nat_lt 1 u.left) 0 1 ≡ m1.journal.room → q.sessions ≡ slice_set m1.sessions s (passed u) → q.tables ≡ m1.tables → q.locks ≡ m1.locks → q.committed ≡ m1.committed → q.weight ≡ m1.weight → KeepsControls (listed_in m1) (listed_in q) → IsKept terms q
  passed_kept m1 q u block is same noted room sessions tables locks committed weight_is controls_first noted_end room_end set tables_end locks_end committed_end weight_end controls_end = by_left (nat_lt 1 state.left) refl (rw same at noted_end) (rw same at room_end) (rw same at set) where
    by_left : (b : Bool) → nat_lt 1 state.left ≡ b → past_of q.journal ≡ cond b (past_of m1.journal) (End s ∷ past_of m1.journal) → q.journal.room + cond b 0 1 ≡ m1.journal.room → q.sessions ≡ slice_set m1.sessions s (cond b (onward state xact block) (stopped state xact block)) → IsKept terms q
    by_left true left_so noted_on room_on set_on = on_kept (ltb-true 1 state.left left_so) q block is (noted_on ∙ noted) (omega (arith, room_on, room)) (rw sessions at set_on) (tables_end ∙ tables) (locks_end ∙ locks) (committed_end ∙ committed) (weight_end ∙ weight_is) (λ t held. controls_end t (controls_first t held))
    by_left false left_so noted_on room_on set_on = over_kept (ltb-false 1 state.left left_so) m1 q block is noted room sessions tables locks committed weight_is controls_first noted_on room_on set_on tables_end locks_end committed_end weight_end controls_end
