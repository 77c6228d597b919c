use Rattle.al_engine.specs.Ran.{places_left}
use Rattle.al_engine.specs.Outcomes.{is_refused}
use Rattle.al_app.specs.Runs.{WentOnInTurn}
use Rattle.al_app.proofs.runs.drive.Given as goal

abbrev pub invariant-turns : goal.invariant-turns
invariant-turns l = WentOnInTurn l.initial.engine l.engine (is_refused l.outcome)

abbrev pub decreases-turns : goal.decreases-turns
decreases-turns l = places_left l.engine.past
