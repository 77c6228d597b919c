use Rattle.std.proofs.Common.{◌≡◌, take}
use Rattle.al_history.specs.Whole.{AreRunsFrom}
use Rattle.al_app.specs.Runs.{terms_for}
use Rattle.al_app.proofs.top.run_all.Given as goal

abbrev pub invariant-loop-place : goal.invariant-loop-place
invariant-loop-place l = record {
  so_far : AreRunsFrom l.spec (terms_for l.spec l.initial.scripts) 1 (take l.place l.spec.permutations) l.runs;
  same : l.scripts ≡ l.initial.scripts;
}
