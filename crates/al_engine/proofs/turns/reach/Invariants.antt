use Rattle.std.proofs.Common.{◌≡◌, ◌++◌, false, replicate}
use Rattle.al_engine.proofs.turns.reach.Given as goal

abbrev pub invariant-loop-mark : goal.invariant-loop-mark
invariant-loop-mark l = (l.marks.items ≡ l.initial.marks.items ++ replicate l._mark false) × (l.marks.cap ≡ l.initial.marks.cap)
