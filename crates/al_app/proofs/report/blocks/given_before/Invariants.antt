use Rattle.std.proofs.Common.{◌≡◌, ◌≤◌, take, reverse}
use Rattle.al_app.specs.Report.{given_at}
use Rattle.al_app.proofs.report.blocks.given_before.Given as goal

abbrev pub invariant-loop-at : goal.invariant-loop-at
invariant-loop-at l = record {
  within : l.at ≤ l.place;
  same : given_at (reverse (take l.at l.journal)) l.session ≡ given_at (reverse (take l.place l.journal)) l.session;
}

abbrev pub decreases-loop-at : goal.decreases-loop-at
decreases-loop-at l = l.at
