use Rattle.std.proofs.Common.{◌≡◌, drop}
use Rattle.al_expr.specs.Columns.{column_kind, column_value}
use Rattle.al_expr.proofs.evaluation.column_found.Given as goal

abbrev pub invariant-loop-column : goal.invariant-loop-column
invariant-loop-column l =
    (column_kind l.columns l.name ≡ column_kind (drop l.column-index l.columns) l.name)
    × (column_value l.columns l.fn.row l.name ≡ column_value (drop l.column-index l.columns) l.rest l.name)
