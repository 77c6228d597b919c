use Rattle.std.proofs.Common.{◌≡◌, drop}
use Rattle.al_statements.specs.Levels.{strictest_from, strictest_of}
use Rattle.al_statements.proofs.levels.strictest.Given as goal

abbrev pub invariant-loop-sub : goal.invariant-loop-sub
invariant-loop-sub l = strictest_of l.subs ≡ strictest_from l.strictest (drop l.sub-index l.subs)
