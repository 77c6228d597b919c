use Rattle.al_app.proofs.DriveLemmas.{went_then}
use Rattle.al_app.proofs.runs.drive.Goals as goal

pub turns-preserved : goal.turns-preserved
turns-preserved c = rw c.or-outcome.ensures (went_then _ _ _ _ _ c.turns.invariant c.in_ok-take_turn.ensures.went)
