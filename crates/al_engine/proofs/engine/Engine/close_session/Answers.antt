use Rattle.std.proofs.Common.{refl}
use Rattle.al_engine.specs.Kept.{parts_of}
use Rattle.al_engine.proofs.EngineLemmas.{close_may, close_step, close_keeps, close_went}
use Rattle.al_engine.proofs.engine.Engine.close_session.Goals as goal

pub abort_open-requires-clause-state : goal.abort_open-requires-clause-state
abort_open-requires-clause-state c = c.get-state.ensures

pub note-requires : goal.note-requires
note-requires c =
    let there = c.get-state.ensures in
    close_may _ _ _ _ c.self.invariant there (rw (← c.self.view_is) at c.requires.idle) (rw (← c.self.view_is) at c.requires.not_closed) (parts_of c.abort_open.new.machine) c.abort_open.ensures

pub keep-requires-clause-same_step : goal.keep-requires-clause-same_step
keep-requires-clause-same_step c =
    let there = c.get-state.ensures in
    close_step _ _ _ _ c.self.invariant there (rw (← c.self.view_is) at c.requires.idle) (rw (← c.self.view_is) at c.requires.not_closed) (parts_of c.abort_open.new.machine) c.abort_open.ensures

pub invariant_of-self : goal.invariant_of-self
invariant_of-self c =
    let there = c.get-state.ensures in
    close_keeps _ _ _ _ c.self.invariant there (rw (← c.self.view_is) at c.requires.idle) (rw (← c.self.view_is) at c.requires.not_closed) (parts_of c.abort_open.new.machine) c.abort_open.ensures (record (parts_of c.abort_open.new.machine) { journal = c.note.new.self; sessions = c.keep.new.self.list; controls = c.keep.new.self.controls }) (rw (← c.self.view_is) at c.requires.known) c.note.ensures.past c.note.ensures.room c.keep.ensures.list refl refl refl refl c.keep.ensures.controls

pub returns-clause-closes : goal.returns-clause-closes
returns-clause-closes c =
    let there = c.get-state.ensures in
    rw (← c.self.view_is) (close_went _ _ _ _ c.self.invariant there (rw (← c.self.view_is) at c.requires.idle) (rw (← c.self.view_is) at c.requires.not_closed) (parts_of c.abort_open.new.machine) c.abort_open.ensures _ c.note.ensures.past)

pub returns-clause-legal : goal.returns-clause-legal
returns-clause-legal c = (invariant_of-self c).sound.legal
