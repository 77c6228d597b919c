use Rattle.std.proofs.Common.{arith}
use Rattle.std.proofs.lemmas.Grind.{common_steps}
use Rattle.al_tree.proofs.Sorted.{insert-put}
use Rattle.al_tree.proofs.line.put.Goals as goal

pub returns-clause-ok : goal.returns-clause-ok
returns-clause-ok c = grind (arith, common_steps, insert-put c.args.number c.args.numbers.now.items)
