use Rattle.std.proofs.Common.{◌≡◌, ◌++◌, map, Bor}
use Rattle.al_query.proofs.reading.copy_found.Given as goal

-- what is lent
abbrev lent : {X : Type 0} → Bor X → X
lent x = x.now

abbrev pub invariant-loop-row : goal.invariant-loop-row
invariant-loop-row l = l.rows ≡ l.initial.rows ++ map lent l.yielded
