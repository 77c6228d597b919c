use Rattle.al_engine.proofs.Joined.{xacts_joined}
use Rattle.al_engine.proofs.sessions.SessionList.open_xacts.Goals as goal

pub returns : goal.returns
returns c = rw (← c.self.view_is, xacts_joined c.self.inside.steps c.self.inside.beside.items c.self.invariant, ← c.deref.ensures.value) c.xacts_beside.ensures
