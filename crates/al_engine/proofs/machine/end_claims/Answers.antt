use Rattle.std.proofs.Common.{◌∙◌, arith, slice_get}
use Rattle.al_history.specs.Past.{past_of}
use Rattle.al_engine.specs.Kept.{past_in}
use Rattle.al_engine.specs.LockTie.{IsNoted}
use Rattle.al_engine.specs.Sessions.{xact_in, IsWakened}
use Rattle.al_engine.proofs.Woken.{few_granted, locks_on, wakes_on}
use Rattle.al_engine.proofs.machine.end_claims.Goals as goal

pub note_granted-requires-clause-there : goal.note_granted-requires-clause-there
note_granted-requires-clause-there c = rw c.loop-i.invariant.locks (omega (arith, c.release-count.ensures.count, c.loop-i-test.true))

pub note_granted-requires-clause-room : goal.note_granted-requires-clause-room
note_granted-requires-clause-room c = omega (arith, few_granted c.args.machine.now.locks.locks _ _ c.release-count.ensures.hands_on, c.requires.room, c.loop-i.invariant.room, c.release-count.ensures.count, c.loop-i-test.true)

pub loop-i-preserved : goal.loop-i-preserved
loop-i-preserved c =
    let noted : IsNoted (xact_in c.loop-i.machine.sessions.list) (slice_get c.release-count.new.self.locks.granted c.loop-i.i) (past_in c.loop-i.machine) (past_in c.note_granted.new.machine) = rw c.loop-i.invariant.locks at c.note_granted.ensures.past in
    let wakes : IsWakened (slice_get c.release-count.new.self.locks.granted c.loop-i.i) c.loop-i.machine.sessions.list c.note_granted.new.machine.sessions.list = rw c.loop-i.invariant.locks at c.note_granted.ensures.sessions in
    record {
      past = locks_on c.args.machine.now.sessions.list _ c.release-count.new.self.locks.granted (past_of c.args.machine.now.journal) _ _ c.loop-i.i noted c.loop-i.invariant.past c.loop-i.invariant.sessions;
      sessions = wakes_on c.args.machine.now.sessions.list _ _ c.release-count.new.self.locks.granted c.loop-i.i wakes c.loop-i.invariant.sessions;
      controls = λ terms held. c.note_granted.ensures.controls terms (c.loop-i.invariant.controls terms held);
      locks = c.note_granted.ensures.locks ∙ c.loop-i.invariant.locks;
      tables = c.note_granted.ensures.tables ∙ c.loop-i.invariant.tables;
      committed = c.note_granted.ensures.committed ∙ c.loop-i.invariant.committed;
      weight = c.note_granted.ensures.weight ∙ c.loop-i.invariant.weight;
      room = omega (arith, c.note_granted.ensures.room, c.loop-i.invariant.room);
    }
