use Rattle.al_engine.proofs.Joined.{replicate_joined}
use Rattle.al_engine.proofs.sessions.SessionList.new.Goals as goal

pub returns : goal.returns
returns c = rw (c.in_ok-steps.ensures, c.in_ok-beside.ensures) (replicate_joined c.args.count)
