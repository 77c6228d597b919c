use Rattle.std.proofs.Common.{◌≡◌, ◌≤◌, take}
use Rattle.std.specs.List.{count_by}
use Rattle.al_app.specs.Report.{gives_step}
use Rattle.al_app.proofs.report.steps_given.Given as goal

abbrev pub invariant-loop-entry : goal.invariant-loop-entry
invariant-loop-entry l = record {
  counted : l.count ≡ count_by (gives_step l.blocks) (take l.entry-index l.journal);
  few : l.count ≤ l.entry-index;
}
