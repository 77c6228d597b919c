use Rattle.al_app.proofs.TopLemmas.{failed_at}
use Rattle.al_app.proofs.top.failed_first.Goals as goal

pub returns-in-Failed : goal.returns-in-Failed
returns-in-Failed c = failed_at _ _ c.run-item.result _ c.loop-run-test.true c.run-item.is c.in-Failed.is c.loop-run.invariant
