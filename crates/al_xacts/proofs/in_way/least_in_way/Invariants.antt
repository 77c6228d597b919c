use Rattle.std.proofs.Common.{◌≡◌, fold, take, None}
use Rattle.al_xacts.specs.Least.{lesser}
use Rattle.al_xacts.proofs.in_way.least_in_way.Given as goal

abbrev pub invariant-loop-mark : goal.invariant-loop-mark
invariant-loop-mark l = l.least ≡ fold (lesser l.x l.mode) None (take l.mark-index l.marks)
