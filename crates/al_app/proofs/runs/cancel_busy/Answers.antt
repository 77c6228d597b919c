use Rattle.al_app.proofs.CloseLemmas.{cancels_begin, cancels_go_on}
use Rattle.al_app.proofs.runs.cancel_busy.Goals as goal

pub loop-session-init : goal.loop-session-init
loop-session-init c = cancels_begin _ c.requires.rest

pub loop-session-preserved : goal.loop-session-preserved
loop-session-preserved c = cancels_go_on _ _ _ c.loop-session.invariant _ _ c.in_ok-cancel_if_busy.ensures
