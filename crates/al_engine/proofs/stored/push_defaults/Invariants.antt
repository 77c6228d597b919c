use Rattle.std.proofs.Common.{◌≡◌, ◌++◌, take, map}
use Rattle.al_history.specs.declared.statement.Column.{Column}
use Rattle.al_engine.proofs.stored.push_defaults.Given as goal

abbrev pub invariant-loop-column : goal.invariant-loop-column
invariant-loop-column l = l.row ≡ l.initial.row ++ map (λ (c : Column). c.default) (take l.column-index l.columns)
