use Rattle.al_engine.specs.Sessions.{AreStuck}
use Rattle.al_engine.proofs.sessions.SessionList.first_ready.Given as goal

abbrev pub invariant-loop-at : goal.invariant-loop-at
invariant-loop-at l = AreStuck l.self.list l.at
