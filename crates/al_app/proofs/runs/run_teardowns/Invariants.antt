use Rattle.al_history.specs.Whole.{each_block}
use Rattle.al_app.specs.Runs.{is_of, tasks_from, TeardownsRan}
use Rattle.al_app.proofs.runs.run_teardowns.Given as goal

abbrev pub invariant-loop-number : goal.invariant-loop-number
invariant-loop-number l = TeardownsRan l.spec l.initial.engine l.engine (each_block l.spec (is_of l.which)) (tasks_from l.spec (is_of l.which) l.number)
