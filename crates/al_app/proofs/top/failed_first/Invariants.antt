use Rattle.std.proofs.Common.{◌≡◌, drop}
use Rattle.al_app.specs.Answers.{failed_first}
use Rattle.al_app.proofs.top.failed_first.Given as goal

abbrev pub invariant-loop-run : goal.invariant-loop-run
invariant-loop-run l = failed_first l.runs ≡ failed_first (drop l.run-index l.runs)
