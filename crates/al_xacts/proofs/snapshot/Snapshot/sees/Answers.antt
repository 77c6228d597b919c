use Rattle.al_xacts.proofs.FateLaws.{seen-said}
use Rattle.al_xacts.proofs.snapshot.Snapshot.sees.Goals as goal

pub returns-clause-as_taken : goal.returns-clause-as_taken
returns-clause-as_taken c = seen-said c.args.self.now c.args.xacts.now.transactions c.args.x _ c.sees_now.ensures
