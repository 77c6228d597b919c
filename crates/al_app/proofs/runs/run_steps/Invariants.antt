use Rattle.std.proofs.Common.{◌≡◌}
use Rattle.al_app.specs.Runs.{StepsSoFar}
use Rattle.al_app.proofs.runs.run_steps.Given as goal

abbrev pub invariant-loop-step : goal.invariant-loop-step
invariant-loop-step l = record { so_far : StepsSoFar l.spec l.steps l.engine l.step-index; terms : l.engine.terms ≡ l.initial.engine.terms }
