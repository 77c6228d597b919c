use Rattle.std.proofs.Common.{◌≡◌, drop}
use Rattle.al_expr.specs.Rows.{row_fits}
use Rattle.al_expr.proofs.roots.fits_all.Given as goal

abbrev pub invariant-loop-column : goal.invariant-loop-column
invariant-loop-column l = row_fits l.columns l.row ≡ row_fits (drop l.column-index l.columns) l.rest
