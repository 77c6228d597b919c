use Rattle.std.proofs.Common.{◌≡◌, take}
use Rattle.al_expr.proofs.sameness.+sameness.Given as goal

abbrev pub invariant-same_items-loop-at : goal.invariant-same_items-loop-at
invariant-same_items-loop-at l = take l.at l.items ≡ take l.at l.others

abbrev pub invariant-same_links-loop-at : goal.invariant-same_links-loop-at
invariant-same_links-loop-at l = take l.at l.links ≡ take l.at l.others
