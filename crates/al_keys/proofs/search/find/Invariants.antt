use Rattle.std.proofs.Common.{◌-◌}
use Rattle.al_keys.proofs.Bisection.{Between}
use Rattle.al_keys.proofs.search.find.Given as goal

abbrev pub invariant-loop-low : goal.invariant-loop-low
invariant-loop-low l = Between l.entries l.key l.low l.high

abbrev pub decreases-loop-low : goal.decreases-loop-low
decreases-loop-low l = l.high - l.low
