use Rattle.al_app.proofs.CloseLemmas.{ends_done}
use Rattle.al_app.proofs.runs.finish_steps.Goals as goal

pub returns-clause-ran : goal.returns-clause-ran
returns-clause-ran c = ends_done c.args.spec.now c.args.steps.now c.run_steps.new.engine c.cancel_busy.new.engine _ c.requires.end c.in_ok-run_steps.ensures.ran c.in_ok-cancel_busy.ensures c.run_teardowns.new.engine c.close_sessions.new.engine c.in_ok-run_teardowns.ensures.ran c.close_sessions.ensures c.run_teardowns-2.new.engine c.in_ok-run_teardowns-2.ensures.ran _ c.close_sessions-2.ensures
