use Rattle.al_heap.proofs.Places.{Sought, left}
use Rattle.al_heap.proofs.walk.standing_from.Given as goal

abbrev pub invariant-loop-at : goal.invariant-loop-at
invariant-loop-at l = Sought l.xacts.transactions l.versions l.row l.at

abbrev pub decreases-loop-at : goal.decreases-loop-at
decreases-loop-at l = left l.at
