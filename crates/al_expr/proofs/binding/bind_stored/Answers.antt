use Rattle.al_expr.proofs.BoundSame.{if_ok, as_stored}
use Rattle.al_expr.proofs.BoundSound.{stored_on}
use Rattle.al_expr.proofs.binding.bind_stored.Goals as goal

pub returns-clause-value : goal.returns-clause-value
returns-clause-value c =
    if_ok c.bind_store.result _ _ (as_stored c.args.kind c.args.expr.now c.args.columns.now) (rw (← c.as_slice.ensures) c.bind_store.ensures)

pub returns-clause-kind : goal.returns-clause-kind
returns-clause-kind c =
    if_ok c.bind_store.result _ _ (stored_on c.args.kind c.args.expr.now c.args.columns.now) (rw (← c.as_slice.ensures) c.bind_store.ensures)
