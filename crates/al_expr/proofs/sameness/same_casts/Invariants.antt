use Rattle.std.proofs.Common.{◌≡◌, take}
use Rattle.al_expr.proofs.sameness.same_casts.Given as goal

abbrev pub invariant-loop-at : goal.invariant-loop-at
invariant-loop-at l = take l.at l.casts ≡ take l.at l.others
