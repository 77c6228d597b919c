use Rattle.al_app.proofs.CloseLemmas.{ends_failed}
use Rattle.al_app.proofs.runs.finish.Goals as goal

pub returns-in-Failed-clause-ran : goal.returns-in-Failed-clause-ran
returns-in-Failed-clause-ran c =
    let set_up = rw c.in-Failed.is at c.requires.set_up in
    rw c.in-Failed.is (ends_failed _ _ c.args.engine.now _ c.in-Failed.block _ c.requires.end set_up c.close_sessions.ensures)
