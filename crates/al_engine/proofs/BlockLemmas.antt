-- BEGIN, COMMIT and ROLLBACK are done, and other statements are refused in a failed block.
use Rattle.std.proofs.Common.{◌≡◌, ℕ, ◌+◌, ◌<◌, ◌≤◌, List, [], ◌∷◌, length, refl, ap, cond, true, false, Bool, Option, Some, None, arith, ◌∙◌, inl, inr, slice_get, slice_set}
use Rattle.std.specs.Prelude.{IsSome}
use Rattle.al_statements.specs.declared.cause.Cause.TheVariants as causes
use Rattle.al_history.specs.declared.entry.Entry.{Entry}
use Rattle.al_history.specs.declared.entry.Entry.TheVariants.{Done, Commit, Abort}
use Rattle.al_statements.specs.declared.reply.Reply.{Reply}
use Rattle.al_statements.specs.declared.reply.Reply.TheVariants as replies
use Rattle.al_statements.specs.declared.reply.Tag.TheVariants as tags
use Rattle.al_history.specs.declared.statement.Statement.{Statement}
use Rattle.al_history.specs.declared.statement.Statement.TheVariants as statements
use Rattle.al_history.specs.declared.statement.Terms.{Terms}
use Rattle.al_history.specs.Past.{Past, past_of}
use Rattle.al_history.specs.Hand.{BlockState, NoBlock, OpenBlock, FailedBlock, hand, statement_of, xact_of, if_no_block, block_state, block_after, opened}
use Rattle.al_history.specs.Locks.{is_settled}
use Rattle.al_history.specs.Tail.{owed}
use Rattle.al_history.specs.Waits.{can_go_on}
use Rattle.al_history.specs.Rules.{starts, Answers, commit_tag}
use Rattle.al_history.specs.Cause.{block_cause}
use Rattle.al_history.specs.Legal.{MayCome}
use Rattle.al_history.specs.Whole.{driver, IsLeast}
use Rattle.al_history.proofs.Doings.{Doing, doing, moved, own_moves, IsXact, IsBy}
use Rattle.al_history.proofs.Comes.{cause_free, comes_done, comes_commit, comes_abort}
use Rattle.al_history.proofs.Turns.{Tail, stage_begins, tail_begins, tail_commit, tail_abort, tail_done, tail_on}
use Rattle.al_history.proofs.Xacts.{xact_is}
use Rattle.al_queue.specs.declared.grant.Grant.{Grant}
use Rattle.al_queue.specs.Walk.{released}
use Rattle.al_queue.specs.Settled.{IsSettled, HandsOn}
use Rattle.al_engine.specs.declared.sessions.Session.{Session}
use Rattle.al_engine.specs.declared.sessions.Block.{Block}
use Rattle.al_engine.specs.declared.sessions.Block.TheVariants as blocks
use Rattle.al_engine.specs.LockTie.{locked_by, is_granted}
use Rattle.al_engine.specs.Sessions.{xact_in, woken, state_of, light_of, light, stopped, onward}
use Rattle.al_engine.specs.Listed.{KeepsControls}
use Rattle.al_engine.specs.Kept.{listed_in, Parts, IsAmid, IsKept, CanBeRefused}
use Rattle.al_engine.specs.Ended.{IsLast, IsOver, end_reply, IsEnded}
use Rattle.al_engine.proofs.Amid.{amid_begins, commit_comes, abort_comes, amid_commits, amid_aborts}
use Rattle.al_engine.proofs.FailedBlocks.{open_unfailed}
use Rattle.al_engine.proofs.Grants.{HaveCome, settled_then}
use Rattle.al_engine.proofs.LockLists.{leaves_so}
use Rattle.al_engine.proofs.Mirrors.{calm, doing_granted, unasked_idle}
use Rattle.al_engine.proofs.SessionLemmas.{light_at}
use Rattle.al_engine.proofs.Tails.{tail_by_done, tail_granted}
use Rattle.al_engine.proofs.TurnLemmas.{IsGoing, going}
use Rattle.al_engine.proofs.Woken.{calmed, woken_get}
use Rattle.al_history.proofs.Implicit.{unfaulted}

-- ---- BEGIN

begin_answers : (o : Option ℕ) (state : BlockState) → IsSome o → Answers (Some statements.Begin) [] o state (replies.Tag tags.Begin 0)
begin_answers None state some = absurd cc
begin_answers (Some x) state some = refl

opened_keeps : (state : BlockState) (o : Option ℕ) → if_no_block (opened state) o ≡ None
opened_keeps NoBlock o = refl
opened_keeps OpenBlock o = refl
opened_keeps (FailedBlock refuse) o = refl

light_stops : (state : Session) (block : ℕ) → state.hand ≡ Some block → IsSome state.xact → (b : Block) → light_of (stopped state state.xact b) + 0 + 2 ≤ light_of state
light_stops state block busy some b = by_case state.xact refl some where
  by_case : (o : Option ℕ) → state.xact ≡ o → IsSome o → light_of (stopped state state.xact b) + 0 + 2 ≤ light_of state
  by_case None is some = absurd cc
  by_case (Some x) is some = rw (is, busy) (omega arith)

light_goes : (state : Session) (block : ℕ) → state.hand ≡ Some block → IsSome state.xact → (b : Block) → 1 < state.left → light_of (onward state state.xact b) + 0 + 1 ≤ light_of state
light_goes state block busy some b more = by_case state.xact refl some where
  by_case : (o : Option ℕ) → state.xact ≡ o → IsSome o → light_of (onward state state.xact b) + 0 + 1 ≤ light_of state
  by_case None is some = absurd cc
  by_case (Some x) is some = rw (is, busy) (omega arith)

pub begin_over : (terms : Terms) (p : Parts) (s : ℕ) (state : Session) → IsKept terms p → slice_get p.sessions s ≡ Some state → can_go_on (past_of p.journal) s ≡ true → IsSome state.xact → statement_of terms state.hand state.done ≡ Some statements.Begin → IsOver terms p s 0 state state (past_of p.journal) state.xact (replies.Tag tags.Begin 0)
begin_over terms p s state kept there can some statement =
    let old : Past = past_of p.journal in
    let g : IsGoing terms old s state = going terms p s state kept there can in
    let reply : Reply = replies.Tag tags.Begin 0 in
    let done_comes : MayCome terms old (Done s reply) = comes_done terms old s (doing old s) kept.sound.legal refl kept.clear.settled reply (rw (g.outline.hand_is, g.under.dones_is, statement, g.under.no_acts, g.outline.xact_is) (begin_answers state.xact (block_state old s) some)) (rw kept.clear.owed_is tt) (rw kept.clear.owed_is can) in
    record {
      amid = amid_begins terms p s kept;
      there = there;
      like = refl;
      is_last = record {
        block = g.block;
        busy = g.outline.hand_is ∙ g.busy;
        hand_is = g.busy;
        dones_is = g.under.dones_is;
        counted = g.under.counted;
        unrefused = g.under.none_refused;
        xact_is = g.outline.xact_is;
        block_is = g.outline.block_is;
        closed_is = g.outline.closed_is;
        none_left = λ last. opened_keeps (state_of state.block) state.xact;
      };
      settled = kept.clear.settled;
      unasked = g.free;
      comes = done_comes;
      tail = tail_by_done terms s old reply kept.sound.legal kept.clear.owed_is done_comes;
      its = λ x is. is;
      fits = light_stops state g.block g.busy some;
      fits_on = light_goes state g.block g.busy some;
    }

-- ---- COMMIT and ROLLBACK

no_implicit : (state : BlockState) → if_no_block state None ≡ None
no_implicit NoBlock = refl
no_implicit OpenBlock = refl
no_implicit (FailedBlock refuse) = refl

end_answers : (commits : Bool) (state : BlockState) → Answers (Some (cond commits statements.Commit statements.Rollback)) [] None state (replies.Tag (cond commits (commit_tag state) tags.Rollback) 0)
end_answers true state = refl
end_answers false state = refl

-- no transaction is open
pub none_ended : (terms : Terms) (p : Parts) (s : ℕ) (state : Session) (commits : Bool) → IsKept terms p → slice_get p.sessions s ≡ Some state → can_go_on (past_of p.journal) s ≡ true → statement_of terms state.hand state.done ≡ Some (cond commits statements.Commit statements.Rollback) → state.xact ≡ None → IsEnded terms p s state (past_of p.journal) commits
none_ended terms p s state commits kept there can statement none =
    let old : Past = past_of p.journal in
    let g : IsGoing terms old s state = going terms p s state kept there can in
    let reply : Reply = end_reply state commits in
    let done_comes : MayCome terms old (Done s reply) = comes_done terms old s (doing old s) kept.sound.legal refl kept.clear.settled reply (rw (g.outline.hand_is, g.under.dones_is, statement, g.under.no_acts, g.outline.xact_is, none, g.outline.block_is) (end_answers commits (state_of state.block))) (rw kept.clear.owed_is tt) (rw kept.clear.owed_is can) in
    record {
      used = 0;
      t = state;
      over = record {
        amid = amid_begins terms p s kept;
        there = there;
        like = refl;
        is_last = record {
          block = g.block;
          busy = g.outline.hand_is ∙ g.busy;
          hand_is = g.busy;
          dones_is = g.under.dones_is;
          counted = g.under.counted;
          unrefused = g.under.none_refused;
          xact_is = g.outline.xact_is ∙ none;
          block_is = g.outline.block_is;
          closed_is = g.outline.closed_is;
          none_left = λ last. no_implicit _;
        };
        settled = kept.clear.settled;
        unasked = g.free;
        comes = done_comes;
        tail = tail_by_done terms s old reply kept.sound.legal kept.clear.owed_is done_comes;
        its = λ x is. absurd cc;
        fits = λ b. rw (g.busy, none) (omega arith);
        fits_on = λ b more. rw (g.busy, none) (omega arith);
      };
    }

unfailed_tag : (state : BlockState) → ((r : ℕ) → state ≡ FailedBlock r → ⊥) → commit_tag state ≡ tags.Commit
unfailed_tag NoBlock unfailed = refl
unfailed_tag OpenBlock unfailed = refl
unfailed_tag (FailedBlock r) unfailed = absurd (unfailed r refl)

-- the open transaction ends by this entry, and locks are granted
module _ (terms : Terms) (p m : Parts) (s x : ℕ) (state : Session) (commits : Bool) (kept : IsKept terms p) (there : slice_get p.sessions s ≡ Some state) (can : can_go_on (past_of p.journal) s ≡ true) (statement : statement_of terms state.hand state.done ≡ Some (cond commits statements.Commit statements.Rollback)) (own : state.xact ≡ Some x) where
  abbrev old : Past
  old = past_of p.journal

  abbrev granted : List Grant
  granted = m.locks.locks.granted

  going_so : IsGoing terms old s state
  going_so = going terms p s state kept there can

  pub is_open : IsXact old s x
  is_open =
      let g : IsGoing terms old s state = going_so in
      let open_xact : xact_of old s ≡ Some x = g.outline.xact_is ∙ own in
      record { session = (xact_is terms old s x kept.sound.legal open_xact).own; open_xact = open_xact }

  module _ (e : Entry) (by : IsBy old s e) (moves : moved old e (doing old s) ≡ record (doing old s) { xact = None; wants = None }) (e_tail : Tail terms s old (e ∷ old) false (driver old) (IsLeast old s)) (owes : owed terms (e ∷ old) ≡ Some (Done s (end_reply state commits))) (come : HaveCome terms (xact_in p.sessions) granted (e ∷ old) m.locks.locks) (amid : IsAmid terms m s 1) (noted : past_of m.journal ≡ locked_by (xact_in p.sessions) granted (e ∷ old)) (woke : m.sessions ≡ woken granted p.sessions) (settled : IsSettled m.locks.locks) where
    abbrev then : Past
    then = locked_by (xact_in p.sessions) granted (e ∷ old)

    doing_then : doing then s ≡ calm (is_granted s granted) (record (doing old s) { xact = None; wants = None })
    doing_then = doing_granted terms (e ∷ old) (xact_in p.sessions) m.locks.locks s come ∙ ap (λ (d : Doing). calm (is_granted s granted) d) (own_moves old s e by ∙ moves)

    settled_so : is_settled then ≡ true
    settled_so = settled_then terms (e ∷ old) (xact_in p.sessions) m.locks.locks come settled

    owes_then : owed terms then ≡ Some (Done s (end_reply state commits))
    owes_then = (leaves_so terms (xact_in p.sessions) granted (e ∷ old)).owes ∙ owes

    done_then : MayCome terms then (Done s (end_reply state commits))
    done_then =
        let g : IsGoing terms old s state = going_so in
        comes_done terms then s (calm (is_granted s granted) (record (doing old s) { xact = None; wants = None })) come.legal doing_then settled_so (end_reply state commits) (rw (g.outline.hand_is, g.under.dones_is, statement, g.under.no_acts, g.outline.block_is) (end_answers commits (state_of state.block))) (rw owes_then refl) (rw owes_then refl)

    last_then : IsLast terms then s state None (end_reply state commits)
    last_then =
        let g : IsGoing terms old s state = going_so in
        record {
          block = g.block;
          busy = ap (λ (d : Doing). d.hand) doing_then ∙ (g.outline.hand_is ∙ g.busy);
          hand_is = g.busy;
          dones_is = ap (λ (d : Doing). d.dones) doing_then ∙ g.under.dones_is;
          counted = g.under.counted;
          unrefused = ap (λ (d : Doing). d.refused) doing_then ∙ g.under.none_refused;
          xact_is = ap (λ (d : Doing). d.xact) doing_then;
          block_is = ap (λ (d : Doing). d.block) doing_then ∙ g.outline.block_is;
          closed_is = ap (λ (d : Doing). d.closed) doing_then ∙ g.outline.closed_is;
          none_left = λ last. no_implicit _;
        }

    pub xact_ended : IsEnded terms m s state old commits
    xact_ended =
        let g : IsGoing terms old s state = going_so in
        record {
          used = 1;
          t = calmed (is_granted s granted) state;
          over = record {
            amid = amid;
            there = rw (woke, woken_get granted p.sessions s, there) refl;
            like = refl;
            is_last = rw noted last_then;
            settled = rw noted settled_so;
            unasked = rw noted (unasked_idle terms then s come.legal last_then.xact_is);
            comes = rw noted done_then;
            tail = rw noted (tail_on terms s old then false (driver old) (IsLeast old s) (Done s (end_reply state commits)) (tail_granted terms s old (e ∷ old) false (driver old) (IsLeast old s) (xact_in p.sessions) m.locks.locks come e_tail) (tail_done s (end_reply state commits)) (λ past r. refl) (inl refl) done_then (rw owes_then tt));
            its = λ y is. absurd cc;
            fits = λ b. rw (g.busy, own) (omega arith);
            fits_on = λ b more. rw (g.busy, own) (omega arith);
          };
        }

  -- there is room for it, and for the locks that it frees
  pub end_room : length p.locks.locks.waiting + 1 ≤ p.journal.room
  end_room =
      let g : IsGoing terms old s state = going_so in
      let reserved : light p.sessions + length p.locks.locks.waiting ≤ p.journal.room + 0 = kept.sound.reserved in
      let some : 1 ≤ light_of state = rw (g.busy, own) (omega arith) in
      omega (arith, reserved, some, light_at p.sessions s state there)

  module _ (hands : HandsOn (released p.locks.locks s) m.locks.locks) (room : m.journal.room + length granted + 1 ≡ p.journal.room) (woke : m.sessions ≡ woken granted p.sessions) (tables : m.tables ≡ p.tables) (count_same : m.locks.sessions ≡ p.locks.sessions) (settled : IsSettled m.locks.locks) (weight_same : m.weight ≡ p.weight) (controls_kept : KeepsControls (listed_in p) (listed_in m)) where
    pub commit_ended : commits ≡ true → past_of m.journal ≡ locked_by (xact_in p.sessions) granted (Commit x ∷ old) → m.committed ≡ slice_set p.committed x true → IsEnded terms m s state old commits
    commit_ended commits_so noted marked =
        let g : IsGoing terms old s state = going_so in
        let by : IsXact old s x = is_open in
        let amid : IsAmid terms p s 0 = amid_begins terms p s kept in
        let in_hand_is : statement_of terms state.hand state.done ≡ Some statements.Commit = rw commits_so at statement in
        let comes_so : MayCome terms old (Commit x) = comes_commit terms old s (doing old s) kept.sound.legal refl kept.clear.settled x by g.block (g.outline.hand_is ∙ g.busy) g.under.none_refused (inr (rw (g.outline.hand_is, g.under.dones_is) in_hand_is)) (rw kept.clear.owed_is tt) (rw kept.clear.owed_is can) in
        let begins : Tail terms s old (Commit x ∷ old) false (driver old) (IsLeast old s) = tail_begins terms s old old 0 (Commit x) (stage_begins terms s old kept.sound.legal kept.clear.settled kept.clear.owed_is) (omega arith) (omega arith) (tail_commit x) (λ past r. refl) by comes_so (λ least. rw (kept.clear.owed_is, by.session) least) in
        let tag : commit_tag (state_of state.block) ≡ tags.Commit = unfailed_tag (state_of state.block) (λ r failed. open_unfailed terms old s x r kept.sound.legal kept.clear.owed_is by.open_xact (g.outline.block_is ∙ failed)) in
        let owes : owed terms (Commit x ∷ old) ≡ Some (Done s (end_reply state commits)) = rw (by.session, g.outline.hand_is, g.under.dones_is, in_hand_is, commits_so, tag) refl in
        xact_ended (Commit x) by refl begins owes (commit_comes terms p m s 0 x state amid there by hands comes_so) (amid_commits terms p m s 0 x state amid there by hands room woke tables count_same settled weight_same controls_kept own comes_so noted marked) noted woke settled

    pub abort_ended : commits ≡ false → past_of m.journal ≡ locked_by (xact_in p.sessions) granted (Abort x ∷ old) → m.committed ≡ p.committed → IsEnded terms m s state old commits
    abort_ended aborts_so noted marked =
        let g : IsGoing terms old s state = going_so in
        let by : IsXact old s x = is_open in
        let amid : IsAmid terms p s 0 = amid_begins terms p s kept in
        let busy : hand old s ≡ Some g.block = g.outline.hand_is ∙ g.busy in
        let in_hand_is : statement_of terms state.hand state.done ≡ Some statements.Rollback = rw aborts_so at statement in
        let comes_so : MayCome terms old (Abort x) = comes_abort terms old s (doing old s) kept.sound.legal refl kept.clear.settled x by (inr (rw (g.outline.hand_is, g.under.dones_is) in_hand_is)) (rw kept.clear.owed_is tt) (rw (busy, kept.clear.owed_is) can) in
        let begins : Tail terms s old (Abort x ∷ old) false (driver old) (IsLeast old s) = tail_begins terms s old old 0 (Abort x) (stage_begins terms s old kept.sound.legal kept.clear.settled kept.clear.owed_is) (omega arith) (omega arith) (tail_abort x) (λ past r. refl) by comes_so (λ least. rw (by.session, busy, kept.clear.owed_is) least) in
        let owes : owed terms (Abort x ∷ old) ≡ Some (Done s (end_reply state commits)) = rw (by.session, busy, g.under.none_refused, aborts_so) refl in
        xact_ended (Abort x) by refl begins owes (abort_comes terms p m s 0 x state amid there by hands comes_so) (amid_aborts terms p m s 0 x state amid there by hands room woke tables count_same settled weight_same controls_kept comes_so noted marked) noted woke settled

-- the block is over
pub end_closes : (state : Session) (commits : Bool) → NoBlock ≡ block_after (end_reply state commits) (state_of state.block)
end_closes state commits = by_state commits (state_of state.block) where
  by_state : (commits : Bool) (state : BlockState) → NoBlock ≡ block_after (replies.Tag (cond commits (commit_tag state) tags.Rollback) 0) state
  by_state true NoBlock = refl
  by_state true OpenBlock = refl
  by_state true (FailedBlock refuse) = refl
  by_state false state = refl

-- ---- a failed block

failed_cause : (statement : Statement) (refuse : ℕ) → starts NoBlock statement ≡ true → block_cause (FailedBlock refuse) statement ≡ Some (causes.BlockFailed refuse)
failed_cause statements.Commit refuse goes_on = absurd cc
failed_cause statements.Rollback refuse goes_on = absurd cc
failed_cause statement refuse goes_on = refl

pub failed_refused : (terms : Terms) (p : Parts) (s place : ℕ) (state : Session) (statement : Statement) → IsKept terms p → slice_get p.sessions s ≡ Some state → can_go_on (past_of p.journal) s ≡ true → statement_of terms state.hand state.done ≡ Some statement → starts NoBlock statement ≡ true → state.block ≡ blocks.Failed place → CanBeRefused terms (past_of p.journal) s state (causes.BlockFailed place)
failed_refused terms p s place state statement kept there can in_hand_is goes_on failed =
    let old : Past = past_of p.journal in
    let g : IsGoing terms old s state = going terms p s state kept there can in
    record {
      hand_is = g.outline.hand_is;
      xact_is = g.outline.xact_is;
      block_is = g.outline.block_is;
      closed_is = g.outline.closed_is;
      in_step = rw g.busy refl;
      first_true = cause_free terms old s (doing old s) kept.sound.legal refl kept.clear.settled kept.clear.owed_is ∙ rw (g.outline.hand_is, unfaulted terms state.hand state.done statement in_hand_is, g.under.dones_is, in_hand_is, g.outline.block_is, failed, failed_cause statement place goes_on) refl;
      settled = kept.clear.settled;
      follows = rw kept.clear.owed_is tt;
      timely = rw kept.clear.owed_is can;
    }
