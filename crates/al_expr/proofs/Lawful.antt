-- Where an expression has a kind and the row fits the columns, its value is of that kind, or the row is at fault.
use Rattle.std.proofs.Common.{◌≡◌, ℕ, Bool, true, false, List, [], ◌∷◌, map, Option, Some, None, Result, Ok, refl, sym, ap, ◌∙◌, subst}
use Rattle.std.specs.Prelude.{if◌then◌else◌, ◌&&◌}
use Rattle.al_values.specs.declared.kinds.Kind.{Kind}
use Rattle.al_values.specs.declared.kinds.Kind.TheVariants as kinds
use Rattle.al_values.specs.declared.scalar.Value.{Value}
use Rattle.al_values.specs.declared.scalar.Value.TheVariants as values
use Rattle.al_values.specs.Convert.{casted}
use Rattle.al_expr.specs.declared.column.Column.{Column}
use Rattle.al_expr.specs.declared.kinds.Typed.{Typed}
use Rattle.al_expr.specs.declared.kinds.Typed.TheVariants as types
use Rattle.al_expr.specs.declared.kinds.TypeFault.{TypeFault}
use Rattle.al_expr.specs.declared.tree.Operator.{Operator}
use Rattle.al_expr.specs.declared.tree.Comparison.TheVariants as comparisons
use Rattle.al_expr.specs.declared.tree.Operator.TheVariants as operators
use Rattle.al_expr.specs.declared.tree.Prefix.{Prefix}
use Rattle.al_expr.specs.declared.tree.Expr.{Expr}
use Rattle.al_expr.specs.Then.{◌>>=◌}
use Rattle.al_expr.specs.Columns.{same_name, column_kind, column_value}
use Rattle.al_expr.specs.Kinds.{common, common_with, settled, operator_kind, prefix_kind, cast_kind}
use Rattle.al_expr.specs.Nominal.{nominal, links_nominal, items_nominal, operator_gives, prefix_gives, chain_gives, prefixed_gives, casts_gives, shared_by}
use Rattle.al_expr.specs.Rows.{is_of, is_written, is_typed, is_sound, row_fits}
use Rattle.al_expr.specs.Typing.{Answer, kind_is, links_kinds, items_kinds, named_kind, ruled, chain_kind, prefixed_kind, casts_kind, tests_kind, shared_kind}
use Rattle.al_expr.specs.Values.{read_in, converted, both, either, related, decides, denied_if, is_null, tested, operand_kind, prefix_value, operated}
use Rattle.al_expr.specs.Evaluation.{Side, value_of, links_sides, items_sides, operator_value, decided_value, right_value, sides_value, chain_value, prefixed_value, casts_value, tests_value, side_value, below_high, between_value, or_more, in_value, in_items, unless_null, coalesce_value}
use Rattle.al_expr.proofs.Conversions.{by_if, cast_sound, converted_sound}
use Rattle.al_expr.proofs.NominalLemmas.{operator_agrees, prefix_agrees, cast_agrees}
use Rattle.al_expr.proofs.Openings.{opened, ruled_is}
use Rattle.al_expr.proofs.OperatorSound.{Sound, read_kind, then_sound, then_typed, both_truth, either_truth, denied_if_truth, related_truth, read_in_sound, operated_sound, decided_sound, prefix_sound}
use Rattle.al_expr.proofs.Widening.{nothing, joins}

-- the law, of one expression
abbrev pub IsLawful : List Column → List Value → Expr → Type 0
IsLawful columns row expr =
    (typed : Typed) → kind_is expr columns ≡ Ok typed → (nominal expr columns ≡ typed) × (is_sound typed (value_of expr columns row) ≡ true)

-- an operand with its kind
abbrev pub IsGood : Side → Type 0
IsGood side = is_sound side.0 side.1 ≡ true

abbrev pub side : List Column → List Value → Expr → Side
side columns row expr = (nominal expr columns, value_of expr columns row)

pub good : (columns : List Column) (row : List Value) (expr : Expr) (typed : Typed) → IsLawful columns row expr → kind_is expr columns ≡ Ok typed →
    IsGood (side columns row expr)
good columns row expr typed law is =
    let here = law typed is in subst (λ t. is_sound t (value_of expr columns row) ≡ true) (sym here.0) here.1

pub same_ok : (a b : Typed) → (let left : Answer = Ok a in left ≡ Ok b) → a ≡ b
same_ok a b is = cc

-- ---- columns

column_here : (b : Bool) (own : Kind) (value : Value) (found : Option Kind) (other : Value) (kind : Kind) →
    is_of own value ≡ true → (found ≡ Some kind → is_of kind other ≡ true) →
    (if b then Some own else found) ≡ Some kind → is_of kind (if b then value else other) ≡ true
column_here true own value found other kind here more is = let same : own ≡ kind = cc in rw (← same) here
column_here false own value found other kind here more is = more is

both_true : (a b : Bool) → (a && b) ≡ true → (a ≡ true) × (b ≡ true)
both_true true true is = (refl, refl)
both_true true false is = absurd cc
both_true false b is = absurd cc

pub column_sound : (columns : List Column) (row : List Value) (name : List ℕ) (kind : Kind) → row_fits columns row ≡ true →
    column_kind columns name ≡ Some kind → is_of kind (column_value columns row name) ≡ true
column_sound [] row name kind fit is = absurd cc
column_sound (column ∷ columns) [] name kind fit is = absurd cc
column_sound (column ∷ columns) (value ∷ row) name kind fit is =
    let parts = both_true (is_of column.kind value) (row_fits columns row) fit in
    column_here (same_name column.name name) column.kind value (column_kind columns name) (column_value columns row name) kind parts.0
    (column_sound columns row name kind parts.1) is

pub named_of : (place : ℕ) (found : Option Kind) (typed : Typed) → named_kind place found ≡ Ok typed → (kind : Kind) × (found ≡ Some kind) × (types.Known kind ≡ typed)
named_of place (Some kind) typed is = (kind, refl, cc)
named_of place None typed is = absurd cc

-- ---- one operator

pub side_sound : (kind : Kind) (operand : Side) → IsGood operand → Sound (read_kind kind operand.0) (side_value kind operand)
side_sound kind operand here =
    then_sound operand.0 (read_kind kind operand.0) operand.1 (λ value. read_in kind operand.0 value) here (λ value is. read_in_sound kind operand.0 value is)

right_sound : (operator : Operator) (left : Typed) (right : Side) (kind : Kind) (a : Value) → operator_kind operator left right.0 ≡ Some kind → IsGood right →
    is_of (read_kind (operand_kind operator left right.0) left) a ≡ true → Sound kind (right_value operator left a right)
right_sound operator left right kind a is here left_is =
    then_sound right.0 kind right.1 (λ value. sides_value operator left a right.0 value) here
    (λ value value_is. then_sound (types.Known (read_kind (operand_kind operator left right.0) right.0)) kind (read_in (operand_kind operator left right.0) right.0 value)
    (λ b. operated operator (settled (operator_gives operator left right.0)) a b)
    (read_in_sound (operand_kind operator left right.0) right.0 value value_is)
    (λ b b_is. operated_sound operator left right.0 kind a b is left_is b_is))

operator_sound : (operator : Operator) (left : Typed) (right : Side) (kind : Kind) (value : Value) → operator_kind operator left right.0 ≡ Some kind →
    is_typed left value ≡ true → IsGood right → Sound kind (operator_value operator left value right)
operator_sound operator left right kind value is left_is here =
    then_sound (types.Known (read_kind (operand_kind operator left right.0) left)) kind (read_in (operand_kind operator left right.0) left value)
    (λ a. decided_value operator left a right)
    (read_in_sound (operand_kind operator left right.0) left value left_is)
    (λ a a_is. by_if (Sound kind) (decides operator a) (Ok a) (right_value operator left a right)
    (λ decided. decided_sound operator left right.0 kind a is decided)
    (right_sound operator left right kind a is here a_is))

-- ---- rows of operators, each with a right side of which the law holds

abbrev pub Held : List Column → List Value → Type 0
Held columns row = (expr : Expr) × IsLawful columns row expr

abbrev pub links_of : (columns : List Column) (row : List Value) → List (ℕ × Operator × Held columns row) → List (ℕ × Operator × Expr)
links_of columns row links = map (λ link. (link.0, link.1, link.2.0)) links

abbrev pub items_of : (columns : List Column) (row : List Value) → List (Held columns row) → List Expr
items_of columns row items = map (λ item. item.0) items

record Linked (columns : List Column) (row : List Value) (link : ℕ × Operator × Held columns row) (left typed : Typed) (rest : Typed → Answer) : Type 0 where
  kind : Kind
  gives : operator_gives link.1 left (nominal link.2.0 columns) ≡ types.Known kind
  takes : operator_kind link.1 left (nominal link.2.0 columns) ≡ Some kind
  right : IsGood (side columns row link.2.0)
  rest_is : rest (types.Known kind) ≡ Ok typed

linked : (columns : List Column) (row : List Value) (link : ℕ × Operator × Held columns row) (left typed : Typed) (rest : Typed → Answer) →
    ((kind_is link.2.0 columns >>= (λ right. ruled link.0 (operator_kind link.1 left right))) >>= rest) ≡ Ok typed →
    Linked columns row link left typed rest
linked columns row link left typed rest is =
    let step = opened (kind_is link.2.0 columns >>= (λ right. ruled link.0 (operator_kind link.1 left right))) rest typed is in
    let inner = opened (kind_is link.2.0 columns) (λ right. ruled link.0 (operator_kind link.1 left right)) step.0 step.1 in
    let found = ruled_is link.0 (operator_kind link.1 left inner.0) step.0 inner.2 in
    let law = link.2.1 inner.0 inner.1 in
    record {
      kind = found.0;
      gives = ap (operator_gives link.1 left) law.0 ∙ operator_agrees link.0 link.1 left inner.0 step.0 inner.2 ∙ sym found.2;
      takes = ap (operator_kind link.1 left) law.0 ∙ found.1;
      right = good columns row link.2.0 inner.0 link.2.1 inner.1;
      rest_is = ap rest found.2 ∙ step.2;
    }

pub chain_named : (columns : List Column) (row : List Value) (links : List (ℕ × Operator × Held columns row)) (left typed : Typed) →
    chain_kind left (links_kinds columns (links_of columns row links)) ≡ Ok typed →
    chain_gives left (links_nominal columns (links_of columns row links)) ≡ typed
unfolding links_kinds links_nominal
chain_named columns row [] left typed is = same_ok left typed is
chain_named columns row (link ∷ links) left typed is =
    let here = linked columns row link left typed (λ next. chain_kind next (links_kinds columns (links_of columns row links))) is in
    ap (λ next. chain_gives next (links_nominal columns (links_of columns row links))) here.gives
    ∙ chain_named columns row links (types.Known here.kind) typed here.rest_is

pub chain_sound : (columns : List Column) (row : List Value) (links : List (ℕ × Operator × Held columns row)) (left typed : Typed) (value : Value) →
    is_typed left value ≡ true → chain_kind left (links_kinds columns (links_of columns row links)) ≡ Ok typed →
    is_sound typed (chain_value left value (links_sides columns row (links_of columns row links))) ≡ true
unfolding links_kinds links_sides
chain_sound columns row [] left typed value left_is is = subst (λ t. is_typed t value ≡ true) (same_ok left typed is) left_is
chain_sound columns row (link ∷ links) left typed value left_is is =
    let here = linked columns row link left typed (λ next. chain_kind next (links_kinds columns (links_of columns row links))) is in
    then_typed (types.Known here.kind) typed (operator_value link.1 left value (side columns row link.2.0))
    (λ next. chain_value (operator_gives link.1 left (nominal link.2.0 columns)) next (links_sides columns row (links_of columns row links)))
    (operator_sound link.1 left (side columns row link.2.0) here.kind value here.takes left_is here.right)
    (λ next next_is. subst (λ t. is_sound typed (chain_value t next (links_sides columns row (links_of columns row links))) ≡ true) (sym here.gives)
    (chain_sound columns row links (types.Known here.kind) typed next next_is here.rest_is))

-- ---- NOTs and signs, casts, and IS NULL in a row

pub prefixed_named : (prefixes : List (ℕ × Prefix)) (inner typed : Typed) → prefixed_kind inner prefixes ≡ Ok typed → prefixed_gives inner prefixes ≡ typed
prefixed_named [] inner typed is = same_ok inner typed is
prefixed_named (prefix ∷ prefixes) inner typed is =
    let step = opened (ruled prefix.0 (prefix_kind prefix.1 inner)) (λ outer. prefixed_kind outer prefixes) typed is in
    ap (λ outer. prefixed_gives outer prefixes) (prefix_agrees prefix.0 prefix.1 inner step.0 step.1) ∙ prefixed_named prefixes step.0 typed step.2

pub prefixed_sound : (prefixes : List (ℕ × Prefix)) (inner typed : Typed) (value : Value) → is_typed inner value ≡ true → prefixed_kind inner prefixes ≡ Ok typed →
    is_sound typed (prefixed_value inner value prefixes) ≡ true
prefixed_sound [] inner typed value inner_is is = subst (λ t. is_typed t value ≡ true) (same_ok inner typed is) inner_is
prefixed_sound (prefix ∷ prefixes) inner typed value inner_is is =
    let step = opened (ruled prefix.0 (prefix_kind prefix.1 inner)) (λ outer. prefixed_kind outer prefixes) typed is in
    let found = ruled_is prefix.0 (prefix_kind prefix.1 inner) step.0 step.1 in
    then_typed (types.Known found.0) typed (prefix_value prefix.1 inner value) (λ outer. prefixed_value (prefix_gives prefix.1 inner) outer prefixes)
    (prefix_sound prefix.1 inner found.0 value found.1 inner_is)
    (λ outer outer_is. subst (λ t. is_sound typed (prefixed_value t outer prefixes) ≡ true) (sym (prefix_agrees prefix.0 prefix.1 inner step.0 step.1))
    (prefixed_sound prefixes step.0 typed outer (subst (λ t. is_typed t outer ≡ true) found.2 outer_is) step.2))

pub casts_named : (casts : List (ℕ × Kind)) (inner typed : Typed) → casts_kind inner casts ≡ Ok typed → casts_gives inner casts ≡ typed
casts_named [] inner typed is = same_ok inner typed is
casts_named (to ∷ casts) inner typed is =
    let step = opened (ruled to.0 (cast_kind inner to.1)) (λ outer. casts_kind outer casts) typed is in
    ap (λ outer. casts_gives outer casts) (cast_agrees to.0 inner to.1 step.0 step.1) ∙ casts_named casts step.0 typed step.2

pub casts_sound : (casts : List (ℕ × Kind)) (inner typed : Typed) (value : Value) → is_typed inner value ≡ true → casts_kind inner casts ≡ Ok typed →
    is_sound typed (casts_value value casts) ≡ true
casts_sound [] inner typed value inner_is is = subst (λ t. is_typed t value ≡ true) (same_ok inner typed is) inner_is
casts_sound (to ∷ casts) inner typed value inner_is is =
    let step = opened (ruled to.0 (cast_kind inner to.1)) (λ outer. casts_kind outer casts) typed is in
    let found = ruled_is to.0 (cast_kind inner to.1) step.0 step.1 in
    let cast = cast_sound inner to.1 found.0 value found.1 inner_is in
    then_typed (types.Known to.1) typed (converted (casted value to.1)) (λ outer. casts_value outer casts)
    (converted_sound to.1 (casted value to.1) cast.1)
    (λ outer outer_is. casts_sound casts step.0 typed outer
    (subst (λ t. is_typed t outer ≡ true) (ap types.Known cast.0 ∙ found.2) outer_is) step.2)

tests_truth : (tests : List (ℕ × Bool)) (value : Value) → is_of kinds.Boolean value ≡ true → is_of kinds.Boolean (tests_value value tests) ≡ true
tests_truth [] value is = is
tests_truth (test ∷ tests) value is = tests_truth tests (tested test.1 value) refl

text_is_written : (value : Value) → is_of kinds.Text value ≡ true → is_written value ≡ true
text_is_written values.Null is = refl
text_is_written (values.Text text) is = refl
text_is_written (values.Bool truth) is = absurd cc
text_is_written (values.Int number) is = absurd cc
text_is_written (values.Day day) is = absurd cc

read_typed : (typed : Typed) (value : Value) → is_of (read_kind kinds.Text typed) value ≡ true → is_typed typed value ≡ true
read_typed (types.Known kind) value is = is
read_typed types.Untyped value is = text_is_written value is

pub tests_sound : (tests : List (ℕ × Bool)) (operand : Side) → IsGood operand →
    is_sound (tests_kind operand.0 tests) (side_value kinds.Text operand >>= (λ value. Ok (tests_value value tests))) ≡ true
tests_sound [] operand here =
    then_typed (types.Known (read_kind kinds.Text operand.0)) operand.0 (side_value kinds.Text operand) (λ value. Ok value)
    (side_sound kinds.Text operand here) (λ value is. read_typed operand.0 value is)
tests_sound (test ∷ tests) operand here =
    then_sound (types.Known (read_kind kinds.Text operand.0)) kinds.Boolean (side_value kinds.Text operand) (λ value. Ok (tests_value value (test ∷ tests)))
    (side_sound kinds.Text operand here) (λ value is. tests_truth tests (tested test.1 value) refl)

-- ---- BETWEEN, IN and coalesce

pub between_sound : (kind : Kind) (negated : Bool) (value low high : Side) → IsGood value → IsGood low → IsGood high →
    Sound kinds.Boolean (between_value kind value low high >>= (λ truth. Ok (denied_if negated truth)))
between_sound kind negated value low high value_is low_is high_is =
    then_sound (types.Known kinds.Boolean) kinds.Boolean (between_value kind value low high) (λ truth. Ok (denied_if negated truth))
    (then_sound (types.Known (read_kind kind value.0)) kinds.Boolean (side_value kind value)
    (λ a. side_value kind low >>= (λ b. below_high a (related comparisons.GreaterOrEqual a b) (side_value kind high)))
    (side_sound kind value value_is)
    (λ a _. then_sound (types.Known (read_kind kind low.0)) kinds.Boolean (side_value kind low)
    (λ b. below_high a (related comparisons.GreaterOrEqual a b) (side_value kind high))
    (side_sound kind low low_is)
    (λ b _. by_if (Sound kinds.Boolean) (decides operators.And (related comparisons.GreaterOrEqual a b)) (Ok (related comparisons.GreaterOrEqual a b))
    (side_value kind high >>= (λ end. Ok (both (related comparisons.GreaterOrEqual a b) (related comparisons.LessOrEqual a end))))
    (λ _. related_truth comparisons.GreaterOrEqual a b)
    (then_sound (types.Known (read_kind kind high.0)) kinds.Boolean (side_value kind high)
    (λ end. Ok (both (related comparisons.GreaterOrEqual a b) (related comparisons.LessOrEqual a end)))
    (side_sound kind high high_is)
    (λ end _. both_truth (related comparisons.GreaterOrEqual a b) (related comparisons.LessOrEqual a end))))))
    (λ truth is. denied_if_truth negated truth is)

among_sound : (columns : List Column) (row : List Value) (items : List (Held columns row)) (kind : Kind) (value so_far : Value) (before shared : Option Typed) →
    is_of kinds.Boolean so_far ≡ true → shared_kind before (items_kinds columns (items_of columns row items)) ≡ Ok shared →
    Sound kinds.Boolean (in_value kind value so_far (items_sides columns row (items_of columns row items)))
unfolding items_kinds items_sides
among_sound columns row [] kind value so_far before shared truth is = truth
among_sound columns row (item ∷ items) kind value so_far before shared truth is =
    let step = opened (kind_is item.0 columns) (λ typed. shared_kind (common_with before typed) (items_kinds columns (items_of columns row items))) shared is in
    then_sound (types.Known (read_kind kind (nominal item.0 columns))) kinds.Boolean (side_value kind (side columns row item.0))
    (λ b. or_more (either so_far (related comparisons.Equal value b))
    (in_value kind value (either so_far (related comparisons.Equal value b)) (items_sides columns row (items_of columns row items))))
    (side_sound kind (side columns row item.0) (good columns row item.0 step.0 item.1 step.1))
    (λ b _. by_if (Sound kinds.Boolean) (decides operators.Or (either so_far (related comparisons.Equal value b)))
    (Ok (either so_far (related comparisons.Equal value b)))
    (in_value kind value (either so_far (related comparisons.Equal value b)) (items_sides columns row (items_of columns row items)))
    (λ _. either_truth so_far (related comparisons.Equal value b))
    (among_sound columns row items kind value (either so_far (related comparisons.Equal value b)) (common_with before step.0) shared
    (either_truth so_far (related comparisons.Equal value b)) step.2))

pub in_sound : (columns : List Column) (row : List Value) (items : List (Held columns row)) (kind : Kind) (negated : Bool) (value : Side) (before shared : Option Typed) →
    IsGood value → shared_kind before (items_kinds columns (items_of columns row items)) ≡ Ok shared →
    Sound kinds.Boolean (in_items kind value (items_sides columns row (items_of columns row items)) >>= (λ truth. Ok (denied_if negated truth)))
in_sound columns row items kind negated value before shared value_is is =
    then_sound (types.Known kinds.Boolean) kinds.Boolean (in_items kind value (items_sides columns row (items_of columns row items))) (λ truth. Ok (denied_if negated truth))
    (then_sound (types.Known (read_kind kind value.0)) kinds.Boolean (side_value kind value)
    (λ a. in_value kind a (values.Bool false) (items_sides columns row (items_of columns row items)))
    (side_sound kind value value_is)
    (λ a _. among_sound columns row items kind a (values.Bool false) before shared refl is))
    (λ truth truth_is. denied_if_truth negated truth truth_is)

pub shared_named : (columns : List Column) (row : List Value) (items : List (Held columns row)) (before shared : Option Typed) →
    shared_kind before (items_kinds columns (items_of columns row items)) ≡ Ok shared →
    shared_by before (items_nominal columns (items_of columns row items)) ≡ shared
unfolding items_kinds items_nominal
shared_named columns row [] before shared is = found_ok before shared is
  where
    found_ok : (a b : Option Typed) → (let left : Result (Option Typed) TypeFault = Ok a in left ≡ Ok b) → a ≡ b
    found_ok a b is = cc
shared_named columns row (item ∷ items) before shared is =
    let step = opened (kind_is item.0 columns) (λ typed. shared_kind (common_with before typed) (items_kinds columns (items_of columns row items))) shared is in
    let law = item.1 step.0 step.1 in
    ap (λ typed. shared_by (common_with before typed) (items_nominal columns (items_of columns row items))) law.0
    ∙ shared_named columns row items (common_with before step.0) shared step.2

-- a value of an operand is a value of the shared kind
shared_value : (before typed : Typed) (answers : List Answer) (shared : Typed) (value : Value) →
    shared_kind (common before typed) answers ≡ Ok (Some shared) → is_of (read_kind (settled shared) typed) value ≡ true → is_of (settled shared) value ≡ true
shared_value before (types.Known own) answers shared value is here = joins before own answers shared is value here
shared_value before types.Untyped answers shared value is here = here

pub coalesce_sound : (columns : List Column) (row : List Value) (items : List (Held columns row)) (before : Option Typed) (shared : Typed) →
    shared_kind before (items_kinds columns (items_of columns row items)) ≡ Ok (Some shared) →
    Sound (settled shared) (coalesce_value (settled shared) (items_sides columns row (items_of columns row items)))
unfolding items_kinds items_sides
coalesce_sound columns row [] before shared is = refl
coalesce_sound columns row (item ∷ items) before shared is =
    let step = opened (kind_is item.0 columns) (λ typed. shared_kind (common_with before typed) (items_kinds columns (items_of columns row items))) (Some shared) is in
    let law = item.1 step.0 step.1 in
    then_sound (types.Known (read_kind (settled shared) (nominal item.0 columns))) (settled shared) (side_value (settled shared) (side columns row item.0))
    (λ value. unless_null value (coalesce_value (settled shared) (items_sides columns row (items_of columns row items))))
    (side_sound (settled shared) (side columns row item.0) (good columns row item.0 step.0 item.1 step.1))
    (λ value value_is. by_if (Sound (settled shared)) (is_null value)
    (coalesce_value (settled shared) (items_sides columns row (items_of columns row items))) (Ok value)
    (λ _. coalesce_sound columns row items (common_with before step.0) shared step.2)
    (first_of before step.0 step.2 value (subst (λ t. is_of (read_kind (settled shared) t) value ≡ true) law.0 value_is)))
  where
    first_of : (before : Option Typed) (typed : Typed) (is : shared_kind (common_with before typed) (items_kinds columns (items_of columns row items)) ≡ Ok (Some shared)) (value : Value) →
        is_of (read_kind (settled shared) typed) value ≡ true → is_of (settled shared) value ≡ true
    first_of (Some so_far) typed is value here = shared_value so_far typed (items_kinds columns (items_of columns row items)) shared value is here
    first_of None typed is value here = absurd (nothing (items_kinds columns (items_of columns row items)) shared is)
