use Rattle.std.proofs.Common.{◌≡◌}
use Rattle.al_app.specs.Runs.{SetupSoFar}
use Rattle.al_app.proofs.runs.run_setup.Given as goal

abbrev pub invariant-loop-number : goal.invariant-loop-number
invariant-loop-number l = record { so_far : SetupSoFar l.spec l.engine l.number; terms : l.engine.terms ≡ l.initial.engine.terms }
