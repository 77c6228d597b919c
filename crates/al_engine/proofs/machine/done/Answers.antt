use Rattle.std.proofs.Common.{◌≡◌, ◌∙◌, arith, ap, refl, None, Some, slice_get, ◌<◌, ◌≤◌, sym}
use Rattle.al_history.specs.Past.{past_of}
use Rattle.al_history.specs.Hand.{if_no_block}
use Rattle.al_queue.specs.Locks.{Kept}
use Rattle.al_engine.specs.LockTie.{is_granted}
use Rattle.al_engine.specs.Sessions.{state_of}
use Rattle.al_engine.specs.Kept.{parts_of}
use Rattle.al_engine.proofs.DoneLemmas.{IsBusy, busy_by, spare, not_outside, commits_kept, commits_went, commits_rows, over_by_done}
use Rattle.al_engine.proofs.AfterLemmas.{stays_in, goes_after, ends_after}
use Rattle.al_engine.proofs.Woken.{calmed, woken_get, woken_length, few_granted}
use Rattle.al_engine.proofs.machine.done.Goals.{in_default-via-in-Outside+in_default, in_default-via-in_default}
use Rattle.al_engine.proofs.machine.done.Goals as goal
use Rattle.al_engine.proofs.OverLemmas.{on_went, on_kept, over_went, over_kept}

pub note-requires : goal.note-requires
note-requires c = omega (arith, spare _ (parts_of c.args.machine.now) _ 0 _ c.requires.amid.sound c.requires.state c.requires.done.in_step)

pub commit-requires-clause-room : goal.commit-requires-clause-room
commit-requires-clause-room c = omega (arith, spare _ (parts_of c.args.machine.now) _ 0 _ c.requires.amid.sound c.requires.state c.requires.done.in_step, c.note.ensures.room)

pub end_step-requires-clause-known : goal.end_step-requires-clause-known
end_step-requires-clause-known c = rw (c.commit.ensures.sessions, woken_length c.commit.new.machine.locks.locks.granted c.args.machine.now.sessions.list, c.requires.amid.sound.count) c.requires.known

pub end_step-requires-clause-room : goal.end_step-requires-clause-room
end_step-requires-clause-room c = omega (arith, spare _ (parts_of c.args.machine.now) _ 0 _ c.requires.amid.sound c.requires.state c.requires.done.in_step, c.note.ensures.room, c.commit.ensures.room, few_granted c.args.machine.now.locks.locks c.commit.new.machine.locks.locks c.args.session c.commit.ensures.hands_on)

pub end_step-requires-in_default-clause-room : goal.end_step-requires-in_default-clause-room
end_step-requires-in_default-clause-room c = omega (arith, spare _ (parts_of c.args.machine.now) _ 0 _ c.requires.amid.sound c.requires.state c.requires.done.in_step, c.note.ensures.room)

pub after-requires-clause-is_after : goal.after-requires-clause-is_after
after-requires-clause-is_after c =
    let b : IsBusy c.args.state = busy_by c.args.state c.requires.done.in_step in
    let stays = stays_in c.args._terms.now (past_of c.args.machine.now.journal) c.args.session b.block c.args.state c.args.reply c.requires.done b.is in
    rw c.next_statement-next.ensures (goes_after c.args._terms.now c.args.machine.now.sessions c.args.session b.block c.args.state c.args.state.wants c.args.state.xact c.args.state.block stays.control c.requires.amid.sound.controlled c.requires.state b.is stays.is stays.stays (omega (arith, c.if-state-gt1.true)))

pub end_step-requires-clause-is_after : goal.end_step-requires-clause-is_after
end_step-requires-clause-is_after c =
    let b : IsBusy c.args.state = busy_by c.args.state c.requires.done.in_step in
    let stays = stays_in c.args._terms.now (past_of c.args.machine.now.journal) c.args.session b.block c.args.state c.args.reply c.requires.done b.is in
    let there : slice_get c.commit.new.machine.sessions.list c.args.session ≡ Some (calmed (is_granted c.args.session c.commit.new.machine.locks.locks.granted) c.args.state) = rw c.commit.ensures.sessions (woken_get c.commit.new.machine.locks.locks.granted c.args.machine.now.sessions.list c.args.session ∙ rw c.requires.state refl) in
    ends_after c.args._terms.now c.commit.new.machine.sessions c.args.session b.block c.args.state _ None c.args.state.block stays.control (c.commit.ensures.controls c.args._terms.now c.requires.amid.sound.controlled) there b.is stays.is stays.stays (omega (arith, c.if-state-gt1.false))

pub end_step-requires-in_default-clause-is_after : goal.end_step-requires-in_default-clause-is_after
end_step-requires-in_default-clause-is_after c =
    let b : IsBusy c.args.state = busy_by c.args.state c.requires.done.in_step in
    let stays = stays_in c.args._terms.now (past_of c.args.machine.now.journal) c.args.session b.block c.args.state c.args.reply c.requires.done b.is in
    ends_after c.args._terms.now c.args.machine.now.sessions c.args.session b.block c.args.state c.args.state.wants c.args.state.xact c.args.state.block stays.control c.requires.amid.sound.controlled c.requires.state b.is stays.is stays.stays (omega (arith, c.if-state-gt1.false))

pub returns-in-Outside-Some-clause-kept : goal.returns-in-Outside-Some-clause-kept
returns-in-Outside-Some-clause-kept c =
    let b : IsBusy c.args.state = busy_by c.args.state c.requires.done.in_step in
    commits_kept c.args._terms.now (parts_of c.args.machine.now) (parts_of c.commit.new.machine) (parts_of c.end_step.new.machine) c.note.new.self c.args.session b.block c.in-Outside-Some.xact c.args.state c.args.reply c.requires.amid c.requires.clear c.requires.state c.requires.done b.is (omega (arith, c.if-state-gt1.false)) c.in-Outside-Some.is-0 c.in-Outside-Some.is-1 c.note.ensures.past c.note.ensures.room
    c.commit.ensures.past c.commit.ensures.room c.commit.ensures.sessions c.commit.ensures.tables (ap (λ (kept : Kept). kept.sessions) c.commit.ensures.locks) c.commit.ensures.committed c.commit.ensures.settled c.commit.ensures.hands_on c.commit.ensures.weight c.commit.ensures.controls c.end_step.ensures.past c.end_step.ensures.room c.end_step.ensures.sessions c.end_step.ensures.tables c.end_step.ensures.locks c.end_step.ensures.committed c.end_step.ensures.weight c.end_step.ensures.controls

pub returns-in-Outside-Some-clause-rows : goal.returns-in-Outside-Some-clause-rows
returns-in-Outside-Some-clause-rows c =
    let b : IsBusy c.args.state = busy_by c.args.state c.requires.done.in_step in
    commits_rows c.args._terms.now (parts_of c.args.machine.now) (parts_of c.commit.new.machine) (parts_of c.end_step.new.machine) c.note.new.self c.args.session b.block c.in-Outside-Some.xact c.args.state c.args.reply c.requires.amid c.requires.clear c.requires.state c.requires.done b.is (omega (arith, c.if-state-gt1.false)) c.in-Outside-Some.is-0 c.in-Outside-Some.is-1 c.note.ensures.past c.note.ensures.room
    c.commit.ensures.past c.commit.ensures.room c.commit.ensures.sessions c.commit.ensures.tables (ap (λ (kept : Kept). kept.sessions) c.commit.ensures.locks) c.commit.ensures.committed c.commit.ensures.settled c.commit.ensures.hands_on c.commit.ensures.weight c.commit.ensures.controls c.end_step.ensures.past c.end_step.ensures.room c.end_step.ensures.sessions c.end_step.ensures.tables c.end_step.ensures.locks c.end_step.ensures.committed c.end_step.ensures.weight c.end_step.ensures.controls

pub returns-in-Outside-Some-clause-went : goal.returns-in-Outside-Some-clause-went
returns-in-Outside-Some-clause-went c =
    let b : IsBusy c.args.state = busy_by c.args.state c.requires.done.in_step in
    commits_went c.args._terms.now (parts_of c.args.machine.now) (parts_of c.commit.new.machine) (parts_of c.end_step.new.machine) c.note.new.self c.args.session b.block c.in-Outside-Some.xact c.args.state c.args.reply c.requires.amid c.requires.clear c.requires.state c.requires.done b.is (omega (arith, c.if-state-gt1.false)) c.in-Outside-Some.is-0 c.in-Outside-Some.is-1 c.note.ensures.past c.note.ensures.room
    c.commit.ensures.past c.commit.ensures.room c.commit.ensures.sessions c.commit.ensures.tables (ap (λ (kept : Kept). kept.sessions) c.commit.ensures.locks) c.commit.ensures.committed c.commit.ensures.settled c.commit.ensures.hands_on c.commit.ensures.weight c.commit.ensures.controls c.end_step.ensures.past c.end_step.ensures.room c.end_step.ensures.sessions c.end_step.ensures.tables c.end_step.ensures.locks c.end_step.ensures.committed c.end_step.ensures.weight c.end_step.ensures.controls

pub returns-then-state-gt1-clause-kept : goal.returns-then-state-gt1-clause-kept
returns-then-state-gt1-clause-kept c =
    let b : IsBusy c.args.state = busy_by c.args.state c.requires.done.in_step in
    let more : 1 < c.args.state.left = omega (arith, c.if-state-gt1.true) in
    let over = over_by_done c.args._terms.now (parts_of c.args.machine.now) c.args.session b.block c.args.state c.args.reply c.requires.amid c.requires.clear c.requires.state c.requires.done b.is (λ last. absurd (omega (arith, more))) in
    on_kept _ _ _ _ _ _ _ _ _ over more (record (parts_of c.args.machine.now) { journal = c.note.new.self; sessions = c.after.new.self.list; controls = c.after.new.self.controls }) c.args.state.block (sym c.requires.done.keeps_block) c.note.ensures.past c.note.ensures.room (rw c.next_statement-next.ensures at c.after.ensures.list) refl refl refl refl c.after.ensures.controls

pub returns-then-state-gt1-clause-went : goal.returns-then-state-gt1-clause-went
returns-then-state-gt1-clause-went c =
    let b : IsBusy c.args.state = busy_by c.args.state c.requires.done.in_step in
    let more : 1 < c.args.state.left = omega (arith, c.if-state-gt1.true) in
    let over = over_by_done c.args._terms.now (parts_of c.args.machine.now) c.args.session b.block c.args.state c.args.reply c.requires.amid c.requires.clear c.requires.state c.requires.done b.is (λ last. absurd (omega (arith, more))) in
    on_went _ _ _ _ _ _ _ _ _ over more _ c.note.ensures.past

pub returns-in_default-clause-kept : goal.returns-in_default-clause-kept
returns-in_default-clause-kept c =
    let b : IsBusy c.args.state = busy_by c.args.state c.requires.done.in_step in
    let last : c.args.state.left ≤ 1 = omega (arith, c.if-state-gt1.false) in
    let within : if_no_block (state_of c.args.state.block) c.args.state.xact ≡ None = elim c.in_default.branch [ in_default-via-in-Outside+in_default w ↦ rw (w.in_default.is-0, w.in_default.is-1) refl | in_default-via-in_default w ↦ not_outside c.args.state.block c.args.state.xact w.in_default.not-Outside-0 ] in
    let over = over_by_done c.args._terms.now (parts_of c.args.machine.now) c.args.session b.block c.args.state c.args.reply c.requires.amid c.requires.clear c.requires.state c.requires.done b.is (λ l. within) in
    over_kept _ _ _ _ _ _ _ _ _ over last (record (parts_of c.args.machine.now) { journal = c.note.new.self }) (parts_of c.end_step-in_default.new.machine) c.args.state.block (sym c.requires.done.keeps_block) c.note.ensures.past c.note.ensures.room refl refl refl refl refl (λ t held. held) c.end_step-in_default.ensures.past c.end_step-in_default.ensures.room c.end_step-in_default.ensures.sessions c.end_step-in_default.ensures.tables c.end_step-in_default.ensures.locks c.end_step-in_default.ensures.committed c.end_step-in_default.ensures.weight c.end_step-in_default.ensures.controls

pub returns-in_default-clause-went : goal.returns-in_default-clause-went
returns-in_default-clause-went c =
    let b : IsBusy c.args.state = busy_by c.args.state c.requires.done.in_step in
    let last : c.args.state.left ≤ 1 = omega (arith, c.if-state-gt1.false) in
    let within : if_no_block (state_of c.args.state.block) c.args.state.xact ≡ None = elim c.in_default.branch [ in_default-via-in-Outside+in_default w ↦ rw (w.in_default.is-0, w.in_default.is-1) refl | in_default-via-in_default w ↦ not_outside c.args.state.block c.args.state.xact w.in_default.not-Outside-0 ] in
    let over = over_by_done c.args._terms.now (parts_of c.args.machine.now) c.args.session b.block c.args.state c.args.reply c.requires.amid c.requires.clear c.requires.state c.requires.done b.is (λ l. within) in
    over_went _ _ _ _ _ _ _ _ _ over last _ (rw c.note.ensures.past at c.end_step-in_default.ensures.past)
