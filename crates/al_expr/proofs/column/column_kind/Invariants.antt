use Rattle.std.proofs.Common.{◌≡◌, drop}
use Rattle.al_expr.specs.Columns.{column_kind}
use Rattle.al_expr.proofs.column.column_kind.Given as goal

abbrev pub invariant-loop-column : goal.invariant-loop-column
invariant-loop-column l = column_kind l.columns l.name ≡ column_kind (drop l.column-index l.columns) l.name
