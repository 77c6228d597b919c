use Rattle.al_values.specs.declared.kinds.Kind.TheVariants as kinds
use Rattle.al_expr.proofs.BoundSame.{if_ok, as_bound}
use Rattle.al_expr.proofs.BoundSound.{condition_on}
use Rattle.al_expr.proofs.binding.bind_condition.Goals as goal

pub returns-clause-value : goal.returns-clause-value
returns-clause-value c =
    if_ok c.bind_as.result _ _ (as_bound kinds.Boolean c.args.expr.now c.args.columns.now) (rw (← c.as_slice.ensures) c.bind_as.ensures)

pub returns-clause-kind : goal.returns-clause-kind
returns-clause-kind c =
    if_ok c.bind_as.result _ _ (condition_on c.args.expr.now c.args.columns.now) (rw (← c.as_slice.ensures) c.bind_as.ensures)
