use Rattle.al_app.specs.Runs.{SessionsClosed}
use Rattle.al_app.proofs.runs.close_sessions.Given as goal

abbrev pub invariant-loop-session : goal.invariant-loop-session
invariant-loop-session l = SessionsClosed l.initial.engine l.engine l.first l.session
