use Rattle.std.proofs.Common.{arith}
use Rattle.std.proofs.lemmas.Grind.{common_steps}
use Rattle.al_queue.proofs.Walks.{insert-placed}
use Rattle.al_queue.proofs.walk.place.Goals as goal

pub returns-clause-items : goal.returns-clause-items
returns-clause-items c = grind (arith, common_steps, insert-placed c.args.granted.now.items c.args.grant)
