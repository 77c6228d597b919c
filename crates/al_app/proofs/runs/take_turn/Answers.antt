use Rattle.al_app.proofs.DriveLemmas.{has_turned}
use Rattle.al_app.proofs.runs.take_turn.Goals as goal

pub returns : goal.returns
returns c = has_turned _ _ _ _ _ _ c.requires.least c.turn_uncounted.ensures.legal (rw c.in-Went.is at c.in_ok-outcome.ensures.turned)
