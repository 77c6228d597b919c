use Rattle.std.proofs.Common.{◌≡◌, drop}
use Rattle.al_app.specs.Report.{ends_in_part}
use Rattle.al_app.proofs.report.blocks.ends_in_part.Given as goal

abbrev pub invariant-loop-entry : goal.invariant-loop-entry
invariant-loop-entry l = ends_in_part l.session (drop l.entry-index l.later) ≡ ends_in_part l.session l.later
