use Rattle.std.proofs.Common.{◌≡◌, fold, take}
use Rattle.al_queue.specs.Least.{lesser}
use Rattle.al_queue.proofs.in_way.least_in_way.Given as goal

abbrev pub invariant-loop-other : goal.invariant-loop-other
invariant-loop-other l = l.least ≡ fold (lesser l.request) l.initial.least (take l.other-index l.others)
