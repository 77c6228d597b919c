use Rattle.std.proofs.Common.{◌≡◌, ◌++◌, drop}
use Rattle.al_query.specs.Origins.{names_in}
use Rattle.al_query.proofs.origin.names_in.Given as goal

abbrev pub invariant-loop-column : goal.invariant-loop-column
invariant-loop-column l = l.names ++ names_in (drop l.column-index l.columns) ≡ names_in l.columns
