use Rattle.al_app.proofs.RunLemmas.{has_run_whole}
use Rattle.al_app.proofs.runs.run_whole.Goals as goal

pub returns : goal.returns
returns c = rw c.is_refused.ensures (has_run_whole _ _ _ _ c.requires.none_busy _ _ _ c.in_ok-outcome.ensures c.in_ok-cancelled.ensures)
