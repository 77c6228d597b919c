use Rattle.al_app.specs.Runs.{SessionsCancelled}
use Rattle.al_app.proofs.runs.cancel_busy.Given as goal

abbrev pub invariant-loop-session : goal.invariant-loop-session
invariant-loop-session l = SessionsCancelled l.initial.engine l.engine l.session
