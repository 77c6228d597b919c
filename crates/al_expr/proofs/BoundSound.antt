-- The law of values and kinds, of bound expressions.
use Rattle.std.proofs.Common.{◌≡◌, true, List, Ok, sym, subst}
use Rattle.al_values.specs.declared.kinds.Kind.{Kind}
use Rattle.al_values.specs.declared.kinds.Kind.TheVariants as kinds
use Rattle.al_expr.specs.declared.bound.Bound.{Bound}
use Rattle.al_expr.specs.declared.column.Column.{Column}
use Rattle.al_expr.specs.declared.kinds.Typed.{Typed}
use Rattle.al_expr.specs.declared.kinds.Typed.TheVariants as types
use Rattle.al_expr.specs.declared.tree.Expr.{Expr}
use Rattle.al_expr.specs.Binding.{written, bound_of, bound_as, stored_bound}
use Rattle.al_expr.specs.Bound.{IsSoundOn}
use Rattle.al_expr.specs.Kinds.{is_truth, settled}
use Rattle.al_expr.specs.Nominal.{nominal}
use Rattle.al_expr.specs.Roots.{is_assignable}
use Rattle.al_expr.specs.Rows.{is_sound}
use Rattle.al_expr.specs.Typing.{kind_is}
use Rattle.al_expr.specs.Values.{Outcome}
use Rattle.al_expr.proofs.BoundSame.{as_bound, as_stored}
use Rattle.al_expr.proofs.RootSound.{output_sound, stored_sound, condition_sound}

of_same : (kind : Kind) (a b : Outcome) → a ≡ b → is_sound (types.Known kind) b ≡ true → is_sound (types.Known kind) a ≡ true
of_same kind a b is sound = subst (λ o. is_sound (types.Known kind) o ≡ true) (sym is) sound

pub output_on : (expr : Expr) (columns : List Column) (bound : Bound) → bound ≡ bound_as kinds.Text expr columns →
    (typed : Typed) → kind_is expr columns ≡ Ok typed → IsSoundOn columns (settled typed) bound
output_on expr columns bound is typed kind row fit =
    of_same (settled typed) _ _ (as_bound kinds.Text expr columns bound is row) (output_sound expr columns row typed kind fit)

pub condition_on : (expr : Expr) (columns : List Column) (bound : Bound) → bound ≡ bound_as kinds.Boolean expr columns →
    (typed : Typed) → kind_is expr columns ≡ Ok typed → is_truth typed ≡ true → IsSoundOn columns kinds.Boolean bound
condition_on expr columns bound is typed kind truth row fit =
    of_same kinds.Boolean _ _ (as_bound kinds.Boolean expr columns bound is row) (condition_sound expr columns row typed kind truth fit)

pub stored_on : (to : Kind) (expr : Expr) (columns : List Column) (bound : Bound) →
    bound ≡ stored_bound to (nominal expr columns) (written expr) (bound_of expr columns) →
    (typed : Typed) → kind_is expr columns ≡ Ok typed → is_assignable typed to ≡ true → IsSoundOn columns to bound
stored_on to expr columns bound is typed kind there row fit =
    of_same to _ _ (as_stored to expr columns bound is row) (stored_sound expr columns row to typed kind there fit)
