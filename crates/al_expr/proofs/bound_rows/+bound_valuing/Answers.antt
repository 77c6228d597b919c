use Rattle.std.proofs.Common.{rules, ◌≡◌, false, Ok, sym, subst}
use Rattle.al_values.specs.declared.scalar.Value.TheVariants as values
use Rattle.al_values.specs.Gives.{GivesUnlessNoMemory}
use Rattle.al_expr.specs.Evaluation.{followed}
use Rattle.al_expr.specs.Bound.{among, bound_value, items_bound}
use Rattle.al_expr.specs.Values.{Outcome, denied_if}
use Rattle.al_expr.proofs.BoundNodes.{bound_within}
use Rattle.al_expr.proofs.bound_rows.+bound_valuing.Goals as goal

pub valued-returns-in_ok-value-in-In : goal.valued-returns-in_ok-value-in-In
valued-returns-in_ok-value-in-In t c =
    let value = c.in_ok-value-in-In.value in
    let known : bound_value c.in-In.value c.args.row.now ≡ Ok value = search rules in
    let gave : GivesUnlessNoMemory c.valued_in.result (followed (among value (values.Bool false) (items_bound c.args.row.now c.in-In.items)) (λ truth. Ok (denied_if c.in-In.negated truth))) =
    rw (← c.as_slice-in-In.ensures) c.valued_in.ensures in
    subst (λ (x : Outcome). GivesUnlessNoMemory c.valued_in.result x)
    (sym (bound_within c.args.bound.now c.in-In.negated c.in-In.value c.in-In.items c.args.row.now value c.in-In.is known)) gave
