-- The law of values and kinds, at the root.
use Rattle.std.proofs.Common.{◌≡◌, true, List, Result, Ok, Err, refl, sym, ap, ◌∙◌, subst}
use Rattle.al_values.specs.Gives.{GivesUnlessNoMemory}
use Rattle.al_values.specs.declared.cant.Cant.{Cant}
use Rattle.al_values.specs.declared.cant.Cant.TheVariants as cants
use Rattle.al_values.specs.declared.kinds.Kind.{Kind}
use Rattle.al_values.specs.declared.kinds.Kind.TheVariants as kinds
use Rattle.al_values.specs.declared.kinds.Tri.{Tri}
use Rattle.al_values.specs.declared.scalar.Value.{Value}
use Rattle.al_values.specs.Convert.{assigned}
use Rattle.al_expr.specs.declared.column.Column.{Column}
use Rattle.al_expr.specs.declared.kinds.Typed.{Typed}
use Rattle.al_expr.specs.declared.kinds.Typed.TheVariants as types
use Rattle.al_expr.specs.declared.fault.EvalFault.{EvalFault}
use Rattle.al_expr.specs.declared.tree.Expr.{Expr}
use Rattle.al_expr.specs.Then.{◌>>=◌}
use Rattle.al_expr.specs.Kinds.{is_truth, settled}
use Rattle.al_expr.specs.Typing.{kind_is}
use Rattle.al_expr.specs.Nominal.{nominal}
use Rattle.al_expr.specs.Rows.{is_typed, is_sound, is_fault_of_row, row_fits}
use Rattle.al_expr.specs.Values.{Outcome}
use Rattle.al_expr.specs.Evaluation.{value_of, side_value}
use Rattle.al_expr.specs.Roots.{root_of, output_of, stored_as, stored_of, as_truth, truth_of, is_assignable, IsSound, IsTruth}
use Rattle.al_expr.proofs.Conversions.{assigned_sound, converted_sound}
use Rattle.al_expr.proofs.OperatorSound.{read_kind, read_in_sound, then_sound}
use Rattle.al_expr.proofs.Lawful.{IsGood, side_sound, good}
use Rattle.al_expr.proofs.TypedValues.{lawful}

told : (kind : Kind) (result : Result Value (Cant EvalFault)) (outcome : Outcome) → GivesUnlessNoMemory result outcome →
    is_sound (types.Known kind) outcome ≡ true → IsSound kind result
told kind (Ok value) outcome gives sound = subst (λ o. is_sound (types.Known kind) o ≡ true) gives sound
told kind (Err (cants.Why fault)) outcome gives sound = subst (λ o. is_sound (types.Known kind) o ≡ true) gives sound
told kind (Err cants.NoMemory) outcome gives sound = tt

output_kind : (typed : Typed) → read_kind kinds.Text typed ≡ settled typed
output_kind (types.Known kind) = refl
output_kind types.Untyped = refl

root_good : (expr : Expr) (columns : List Column) (row : List Value) (typed : Typed) → kind_is expr columns ≡ Ok typed → row_fits columns row ≡ true →
    IsGood (root_of expr columns row)
root_good expr columns row typed is fit = good columns row expr typed (lawful columns row fit expr) is

named : (expr : Expr) (columns : List Column) (row : List Value) (typed : Typed) → kind_is expr columns ≡ Ok typed → row_fits columns row ≡ true →
    nominal expr columns ≡ typed
named expr columns row typed is fit = (lawful columns row fit expr typed is).0

-- an output
pub output_sound : (expr : Expr) (columns : List Column) (row : List Value) (typed : Typed) → kind_is expr columns ≡ Ok typed → row_fits columns row ≡ true →
    is_sound (types.Known (settled typed)) (output_of (root_of expr columns row)) ≡ true
output_sound expr columns row typed is fit =
    subst (λ k. is_sound (types.Known k) (output_of (root_of expr columns row)) ≡ true)
    (ap (read_kind kinds.Text) (named expr columns row typed is fit) ∙ output_kind typed)
    (side_sound kinds.Text (root_of expr columns row) (root_good expr columns row typed is fit))

pub output_is_sound : (expr : Expr) (columns : List Column) (row : List Value) (result : Result Value (Cant EvalFault)) →
    GivesUnlessNoMemory result (output_of (root_of expr columns row)) → (typed : Typed) → kind_is expr columns ≡ Ok typed → row_fits columns row ≡ true →
    IsSound (settled typed) result
output_is_sound expr columns row result gives typed is fit =
    told (settled typed) result (output_of (root_of expr columns row)) gives (output_sound expr columns row typed is fit)

-- a stored value
stored_value : (kind : Kind) (typed : Typed) (value : Value) → is_assignable typed kind ≡ true → is_typed typed value ≡ true →
    is_sound (types.Known kind) (stored_as kind typed value) ≡ true
stored_value kind (types.Known from) value there is = converted_sound kind (assigned value kind) (assigned_sound from kind value there is)
stored_value kind types.Untyped value there is = read_in_sound kind types.Untyped value is

pub stored_sound : (expr : Expr) (columns : List Column) (row : List Value) (kind : Kind) (typed : Typed) → kind_is expr columns ≡ Ok typed →
    is_assignable typed kind ≡ true → row_fits columns row ≡ true → is_sound (types.Known kind) (stored_of kind (root_of expr columns row)) ≡ true
stored_sound expr columns row kind typed is there fit =
    then_sound (nominal expr columns) kind (value_of expr columns row) (λ value. stored_as kind (nominal expr columns) value)
    (root_good expr columns row typed is fit)
    (λ value value_is. stored_value kind (nominal expr columns) value
    (subst (λ t. is_assignable t kind ≡ true) (sym (named expr columns row typed is fit)) there) value_is)

pub stored_is_sound : (expr : Expr) (columns : List Column) (row : List Value) (kind : Kind) (result : Result Value (Cant EvalFault)) →
    GivesUnlessNoMemory result (stored_of kind (root_of expr columns row)) → (typed : Typed) → kind_is expr columns ≡ Ok typed →
    is_assignable typed kind ≡ true → row_fits columns row ≡ true → IsSound kind result
stored_is_sound expr columns row kind result gives typed is there fit =
    told kind result (stored_of kind (root_of expr columns row)) gives (stored_sound expr columns row kind typed is there fit)

-- a condition
condition_kind : (typed : Typed) → is_truth typed ≡ true → read_kind kinds.Boolean typed ≡ kinds.Boolean
condition_kind (types.Known kinds.Boolean) is = refl
condition_kind types.Untyped is = refl
condition_kind typed is = absurd cc

pub condition_sound : (expr : Expr) (columns : List Column) (row : List Value) (typed : Typed) → kind_is expr columns ≡ Ok typed → is_truth typed ≡ true →
    row_fits columns row ≡ true → is_sound (types.Known kinds.Boolean) (side_value kinds.Boolean (root_of expr columns row)) ≡ true
condition_sound expr columns row typed is truth fit =
    subst (λ k. is_sound (types.Known k) (side_value kinds.Boolean (root_of expr columns row)) ≡ true)
    (ap (read_kind kinds.Boolean) (named expr columns row typed is fit) ∙ condition_kind typed truth)
    (side_sound kinds.Boolean (root_of expr columns row) (root_good expr columns row typed is fit))

truth_fault : (kind : Kind) (outcome : Outcome) (result : Result Tri (Cant EvalFault)) → is_sound (types.Known kind) outcome ≡ true →
    GivesUnlessNoMemory result (outcome >>= (λ value. Ok (as_truth value))) → IsTruth result
truth_fault kind (Ok value) (Ok truth) sound gives = tt
truth_fault kind (Ok value) (Err (cants.Why fault)) sound gives = absurd cc
truth_fault kind (Ok value) (Err cants.NoMemory) sound gives = tt
truth_fault kind (Err fault) (Ok truth) sound gives = tt
truth_fault kind (Err fault) (Err (cants.Why other)) sound gives = let same : fault ≡ other = cc in subst (λ f. is_fault_of_row f ≡ true) same sound
truth_fault kind (Err fault) (Err cants.NoMemory) sound gives = tt

pub truth_is_sound : (expr : Expr) (columns : List Column) (row : List Value) (result : Result Tri (Cant EvalFault)) →
    GivesUnlessNoMemory result (truth_of (root_of expr columns row)) → (typed : Typed) → kind_is expr columns ≡ Ok typed → row_fits columns row ≡ true →
    IsTruth result
truth_is_sound expr columns row result gives typed is fit =
    truth_fault (read_kind kinds.Boolean (nominal expr columns)) (side_value kinds.Boolean (root_of expr columns row)) result
    (side_sound kinds.Boolean (root_of expr columns row) (root_good expr columns row typed is fit)) gives
