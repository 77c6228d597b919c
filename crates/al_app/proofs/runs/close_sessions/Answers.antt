use Rattle.std.proofs.Common.{◌≡◌, ◌∙◌, arith, inr, subst}
use Rattle.al_app.specs.Runs.{SessionsClosed}
use Rattle.al_app.proofs.CloseLemmas.{closes_begin, closes_go_on}
use Rattle.al_app.proofs.runs.close_sessions.Goals as goal

pub loop-session-init : goal.loop-session-init
loop-session-init c = closes_begin _ _ c.requires.rest c.requires.none_busy

pub close_session-requires-clause-idle : goal.close_session-requires-clause-idle
close_session-requires-clause-idle c = c.loop-session.invariant.none_busy _

pub close_session-requires-clause-not_closed : goal.close_session-requires-clause-not_closed
close_session-requires-clause-not_closed c = c.loop-session.invariant.closed_same _ (inr (omega arith)) ∙ c.requires.still_open _ (omega arith) (omega arith)

pub loop-session-preserved : goal.loop-session-preserved
loop-session-preserved c = closes_go_on _ c.loop-session.engine _ _ _ (omega arith) c.loop-session.invariant c.close_session.ensures.legal c.close_session.ensures.closes

pub returns : goal.returns
returns c = let same : c.loop-session.session ≡ c.args.end = omega arith in subst (SessionsClosed c.args.engine.now c.loop-session.engine c.args.first) same c.loop-session.invariant
