use Rattle.al_expr.proofs.RootSound.{output_is_sound}
use Rattle.al_expr.proofs.roots.eval.Goals as goal

pub returns-clause-kind : goal.returns-clause-kind
returns-clause-kind c = output_is_sound c.args.expr.now c.args.columns.now c.args.row.now c.output.result
    (rw (← c.as_slice.ensures, ← c.as_slice-2.ensures) c.output.ensures)
