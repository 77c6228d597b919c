use Rattle.al_tree.specs.Met.{work}
use Rattle.al_tree.proofs.Searches.{Searching}
use Rattle.al_tree.proofs.search.descendants.Given as goal

abbrev pub invariant-loop-next : goal.invariant-loop-next
invariant-loop-next l = Searching l.lines l.table (record { met = l.met.items; todo = l.todo.items })

abbrev pub decreases-loop-next : goal.decreases-loop-next
decreases-loop-next l = work l.lines l.met.items l.todo.items
