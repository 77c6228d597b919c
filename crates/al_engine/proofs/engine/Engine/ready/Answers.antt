use Rattle.al_engine.proofs.SessionLemmas.{ready_by, ready_within}
use Rattle.al_engine.proofs.engine.Engine.ready.Goals as goal

pub returns-clause-is : goal.returns-clause-is
returns-clause-is c = rw (← c.self.view_is) (ready_by _ _ c.self.invariant _ c.first_ready.ensures.some c.first_ready.ensures.none)

pub returns-clause-known : goal.returns-clause-known
returns-clause-known c = rw (← c.self.view_is) (ready_within _ _ c.self.invariant _ c.first_ready.ensures.some)
