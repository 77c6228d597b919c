use Rattle.std.proofs.Common.{◌≡◌, ◌+◌, drop}
use Rattle.al_app.specs.Report.{giving_end}
use Rattle.al_app.proofs.report.giving_end.Given as goal

abbrev pub invariant-loop-place : goal.invariant-loop-place
invariant-loop-place l = giving_end (drop l.place l.journal) + l.place ≡ giving_end l.journal
