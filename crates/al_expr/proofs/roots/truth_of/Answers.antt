use Rattle.al_expr.proofs.RootSound.{truth_is_sound}
use Rattle.al_expr.proofs.roots.truth_of.Goals as goal

pub returns-clause-kind : goal.returns-clause-kind
returns-clause-kind c = truth_is_sound c.args.expr.now c.args.columns.now c.args.row.now c.condition.result
    (rw (← c.as_slice.ensures, ← c.as_slice-2.ensures) c.condition.ensures)
