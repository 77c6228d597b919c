use Rattle.al_expr.proofs.RootSound.{stored_is_sound}
use Rattle.al_expr.proofs.roots.eval_as.Goals as goal

pub returns-clause-kind : goal.returns-clause-kind
returns-clause-kind c = stored_is_sound c.args.expr.now c.args.columns.now c.args.row.now c.args.kind c.stored.result
    (rw (← c.as_slice.ensures, ← c.as_slice-2.ensures) c.stored.ensures)
