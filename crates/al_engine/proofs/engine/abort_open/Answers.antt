use Rattle.std.proofs.Common.{ap}
use Rattle.al_queue.specs.Locks.{Kept}
use Rattle.al_engine.specs.Kept.{parts_of}
use Rattle.al_engine.proofs.EngineLemmas.{abort_may, left_none, left_some}
use Rattle.al_engine.proofs.engine.abort_open.Goals as goal

pub abort-requires-clause-room : goal.abort-requires-clause-room
abort-requires-clause-room c = abort_may _ _ _ _ c.requires.kept c.requires.state c.requires.idle c.requires.not_closed

pub returns-in-Some : goal.returns-in-Some
returns-in-Some c =
    let done = c.abort.ensures in
    left_some _ _ _ _ c.requires.kept c.requires.state c.requires.idle c.requires.not_closed (parts_of c.abort.new.machine) _ c.in-Some.is done.hands_on done.room done.sessions done.tables (ap (λ (kept : Kept). kept.sessions) done.locks) done.settled done.past done.committed done.weight done.controls

pub returns-in_default : goal.returns-in_default
returns-in_default c = left_none _ _ _ _ c.requires.kept c.requires.state c.requires.idle c.requires.not_closed c.in_default.is
