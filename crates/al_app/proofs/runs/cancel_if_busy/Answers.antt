use Rattle.std.proofs.Common.{rules}
use Rattle.al_app.proofs.DriveLemmas.{cancelled_as, was_cancelled}
use Rattle.al_app.proofs.runs.cancel_if_busy.Goals as goal

pub returns : goal.returns
returns c = was_cancelled _ c.cancel.new.self _ _ _ c.requires.rest c.cancel.ensures.legal (cancelled_as _ _ _ _ (search rules) c.cancel.ensures.cancels) c.in_ok-drive.ensures
