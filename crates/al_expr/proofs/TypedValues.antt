-- Where an expression has a kind and the row fits the columns, its value is of that kind, or the row is at fault: for every
-- expression, node by node.
use Rattle.std.proofs.Common.{◌≡◌, ℕ, Bool, true, List, Option, Some, None, Ok, refl, sym, ap, ◌∙◌, subst}
use Rattle.al_values.specs.declared.kinds.Kind.{Kind}
use Rattle.al_values.specs.declared.kinds.Kind.TheVariants as kinds
use Rattle.al_values.specs.declared.scalar.Value.{Value}
use Rattle.al_values.specs.Reading.{read_as}
use Rattle.al_expr.specs.declared.column.Column.{Column}
use Rattle.al_expr.specs.declared.kinds.Typed.{Typed}
use Rattle.al_expr.specs.declared.kinds.Typed.TheVariants as types
use Rattle.al_expr.specs.declared.tree.Operator.{Operator}
use Rattle.al_expr.specs.declared.tree.Prefix.{Prefix}
use Rattle.al_expr.specs.declared.tree.Expr.{Expr}
use Rattle.al_expr.specs.declared.tree.Expr.TheOpen.{Expr-F}
use Rattle.al_expr.specs.declared.tree.Expr.TheViews.{roll-Expr}
use Rattle.al_expr.specs.declared.tree.Expr.TheFolds.{map-Expr, ind-Expr}
use Rattle.al_expr.specs.declared.tree.Expr.TheVariants as e
use Rattle.al_expr.specs.Then.{◌>>=◌}
use Rattle.al_expr.specs.Columns.{column_kind}
use Rattle.al_expr.specs.Kinds.{common, common_with, settled, signed_kind, length_kind}
use Rattle.al_expr.specs.Nominal.{nominal, links_nominal, items_nominal, shared_by, met, as_typed, chain_gives, prefixed_gives, casts_gives}
use Rattle.al_expr.specs.Rows.{is_sound, row_fits}
use Rattle.al_expr.specs.Typing.{kind_is, links_kinds, items_kinds, ruled, chain_kind, prefixed_kind, casts_kind, tests_kind, shared_kind, alike, first_kind, literal_kind}
use Rattle.al_expr.specs.Values.{Outcome, absolute, measured}
use Rattle.al_expr.specs.Evaluation.{value_of, links_sides, items_sides, chain_value, prefixed_value, casts_value, side_value, coalesce_value}
use Rattle.al_expr.proofs.Conversions.{read_sound, converted_sound}
use Rattle.al_expr.proofs.KindNodes.{kind_literal, kind_date, kind_column, kind_chain, kind_prefixed, kind_casts, kind_is_null, kind_between, kind_in, kind_coalesce, kind_abs, kind_length}
use Rattle.al_expr.proofs.NominalNodes.{nominal_literal, nominal_date, nominal_column, nominal_chain, nominal_prefixed, nominal_casts, nominal_is_null, nominal_between, nominal_in, nominal_coalesce, nominal_abs, nominal_length}
use Rattle.al_expr.proofs.ValueNodes.{value_literal, value_date, value_column, value_chain, value_prefixed, value_casts, value_is_null, value_between, value_in, value_coalesce, value_abs, value_length}
use Rattle.al_expr.proofs.NominalLemmas.{length_agrees, alike_agrees}
use Rattle.al_expr.proofs.Openings.{opened, ruled_is}
use Rattle.al_expr.proofs.OperatorSound.{read_kind, then_sound, then_typed, literal_sound, measured_sound, absolute_sound, signed_is}
use Rattle.al_expr.proofs.Lawful.{IsLawful, side, good, same_ok, column_sound, named_of, Held, links_of, items_of, chain_named, chain_sound, prefixed_named, prefixed_sound, casts_named, casts_sound, tests_sound, between_sound, in_sound, shared_named, coalesce_sound, side_sound}

-- what the law says of a node, by what its equations give
lawful_by : (columns : List Column) (row : List Value) (expr : Expr) (typed given : Typed) (outcome : Outcome) →
    nominal expr columns ≡ given → given ≡ typed → value_of expr columns row ≡ outcome → is_sound given outcome ≡ true →
    (nominal expr columns ≡ typed) × (is_sound typed (value_of expr columns row) ≡ true)
lawful_by columns row expr typed given outcome named same valued sound =
    (named ∙ same, subst (λ t. is_sound t (value_of expr columns row) ≡ true) same (subst (λ o. is_sound given o ≡ true) (sym valued) sound))

on_literal : (columns : List Column) (row : List Value) (place : ℕ) (value : Value) → IsLawful columns row (e.Literal place value)
on_literal columns row place value typed is =
    lawful_by columns row (e.Literal place value) typed _ _ (nominal_literal place value columns)
    (same_ok (literal_kind value) typed (sym (kind_literal place value columns) ∙ is)) (value_literal place value columns row) (literal_sound value)

on_date : (columns : List Column) (row : List Value) (place : ℕ) (text : List ℕ) → IsLawful columns row (e.Date place text)
on_date columns row place text typed is =
    lawful_by columns row (e.Date place text) typed _ _ (nominal_date place text columns)
    (same_ok (types.Known kinds.Date) typed (sym (kind_date place text columns) ∙ is)) (value_date place text columns row)
    (converted_sound kinds.Date (read_as text kinds.Date) (read_sound text kinds.Date))

on_column : (columns : List Column) (row : List Value) → row_fits columns row ≡ true → (place : ℕ) (name : List ℕ) → IsLawful columns row (e.Column place name)
on_column columns row fit place name typed is =
    let found = named_of place (column_kind columns name) typed (sym (kind_column place name columns) ∙ is) in
    lawful_by columns row (e.Column place name) typed (types.Known found.0) _ (nominal_column place name columns ∙ ap as_typed found.1) found.2
    (value_column place name columns row) (column_sound columns row name found.0 fit found.1)

on_chain : (columns : List Column) (row : List Value) (first : Held columns row) (links : List (ℕ × Operator × Held columns row)) →
    IsLawful columns row (e.Chain first.0 (links_of columns row links))
on_chain columns row first links typed is =
    let step = opened (kind_is first.0 columns) (λ left. chain_kind left (links_kinds columns (links_of columns row links))) typed
    (sym (kind_chain first.0 (links_of columns row links) columns) ∙ is) in
    let law = first.1 step.0 step.1 in
    lawful_by columns row (e.Chain first.0 (links_of columns row links)) typed typed _
    (nominal_chain first.0 (links_of columns row links) columns
    ∙ ap (λ left. chain_gives left (links_nominal columns (links_of columns row links))) law.0
    ∙ chain_named columns row links step.0 typed step.2)
    refl
    (value_chain first.0 (links_of columns row links) columns row)
    (then_typed step.0 typed (value_of first.0 columns row)
    (λ left. chain_value (nominal first.0 columns) left (links_sides columns row (links_of columns row links))) law.1
    (λ left left_is. subst (λ t. is_sound typed (chain_value t left (links_sides columns row (links_of columns row links))) ≡ true) (sym law.0)
    (chain_sound columns row links step.0 typed left left_is step.2)))

on_prefixed : (columns : List Column) (row : List Value) (operand : Held columns row) (prefixes : List (ℕ × Prefix)) →
    IsLawful columns row (e.Prefixed operand.0 prefixes)
on_prefixed columns row operand prefixes typed is =
    let step = opened (kind_is operand.0 columns) (λ inner. prefixed_kind inner prefixes) typed (sym (kind_prefixed operand.0 prefixes columns) ∙ is) in
    let law = operand.1 step.0 step.1 in
    lawful_by columns row (e.Prefixed operand.0 prefixes) typed typed _
    (nominal_prefixed operand.0 prefixes columns ∙ ap (λ inner. prefixed_gives inner prefixes) law.0 ∙ prefixed_named prefixes step.0 typed step.2)
    refl
    (value_prefixed operand.0 prefixes columns row)
    (then_typed step.0 typed (value_of operand.0 columns row) (λ value. prefixed_value (nominal operand.0 columns) value prefixes) law.1
    (λ value value_is. subst (λ t. is_sound typed (prefixed_value t value prefixes) ≡ true) (sym law.0) (prefixed_sound prefixes step.0 typed value value_is step.2)))

on_casts : (columns : List Column) (row : List Value) (operand : Held columns row) (casts : List (ℕ × Kind)) →
    IsLawful columns row (e.Casts operand.0 casts)
on_casts columns row operand casts typed is =
    let step = opened (kind_is operand.0 columns) (λ inner. casts_kind inner casts) typed (sym (kind_casts operand.0 casts columns) ∙ is) in
    let law = operand.1 step.0 step.1 in
    lawful_by columns row (e.Casts operand.0 casts) typed typed _
    (nominal_casts operand.0 casts columns ∙ ap (λ inner. casts_gives inner casts) law.0 ∙ casts_named casts step.0 typed step.2)
    refl
    (value_casts operand.0 casts columns row)
    (then_typed step.0 typed (value_of operand.0 columns row) (λ value. casts_value value casts) law.1
    (λ value value_is. casts_sound casts step.0 typed value value_is step.2))

on_is_null : (columns : List Column) (row : List Value) (operand : Held columns row) (tests : List (ℕ × Bool)) →
    IsLawful columns row (e.IsNull operand.0 tests)
on_is_null columns row operand tests typed is =
    let step = opened (kind_is operand.0 columns) (λ inner. Ok (tests_kind inner tests)) typed (sym (kind_is_null operand.0 tests columns) ∙ is) in
    let law = operand.1 step.0 step.1 in
    lawful_by columns row (e.IsNull operand.0 tests) typed (tests_kind (nominal operand.0 columns) tests) _
    (nominal_is_null operand.0 tests columns)
    (ap (λ inner. tests_kind inner tests) law.0 ∙ same_ok (tests_kind step.0 tests) typed step.2)
    (value_is_null operand.0 tests columns row)
    (tests_sound tests (side columns row operand.0) (good columns row operand.0 step.0 operand.1 step.1))

on_between : (columns : List Column) (row : List Value) (place : ℕ) (negated : Bool) (value low high : Held columns row) →
    IsLawful columns row (e.Between place negated value.0 low.0 high.0)
on_between columns row place negated value low high typed is =
    let first = opened (kind_is value.0 columns) (λ a. kind_is low.0 columns >>= (λ b. kind_is high.0 columns >>= (λ c. alike place (common_with (common a b) c)))) typed
    (sym (kind_between place negated value.0 low.0 high.0 columns) ∙ is) in
    let second = opened (kind_is low.0 columns) (λ b. kind_is high.0 columns >>= (λ c. alike place (common_with (common first.0 b) c))) typed first.2 in
    let third = opened (kind_is high.0 columns) (λ c. alike place (common_with (common first.0 second.0) c)) typed second.2 in
    lawful_by columns row (e.Between place negated value.0 low.0 high.0) typed (types.Known kinds.Boolean) _
    (nominal_between place negated value.0 low.0 high.0 columns)
    (alike_agrees place (common_with (common first.0 second.0) third.0) typed third.2)
    (value_between place negated value.0 low.0 high.0 columns row)
    (between_sound (met (common_with (common (nominal value.0 columns) (nominal low.0 columns)) (nominal high.0 columns))) negated
    (side columns row value.0) (side columns row low.0) (side columns row high.0)
    (good columns row value.0 first.0 value.1 first.1) (good columns row low.0 second.0 low.1 second.1) (good columns row high.0 third.0 high.1 third.1))

on_in : (columns : List Column) (row : List Value) (place : ℕ) (negated : Bool) (value : Held columns row) (items : List (Held columns row)) →
    IsLawful columns row (e.In place negated value.0 (items_of columns row items))
on_in columns row place negated value items typed is =
    let first = opened (kind_is value.0 columns) (λ a. shared_kind (Some a) (items_kinds columns (items_of columns row items)) >>= (λ shared. alike place shared)) typed
    (sym (kind_in place negated value.0 (items_of columns row items) columns) ∙ is) in
    let second = opened (shared_kind (Some first.0) (items_kinds columns (items_of columns row items))) (λ shared. alike place shared) typed first.2 in
    lawful_by columns row (e.In place negated value.0 (items_of columns row items)) typed (types.Known kinds.Boolean) _
    (nominal_in place negated value.0 (items_of columns row items) columns)
    (alike_agrees place second.0 typed second.2)
    (value_in place negated value.0 (items_of columns row items) columns row)
    (in_sound columns row items (met (shared_by (Some (nominal value.0 columns)) (items_nominal columns (items_of columns row items)))) negated
    (side columns row value.0) (Some first.0) second.0 (good columns row value.0 first.0 value.1 first.1) second.1)

shared_first : (place : ℕ) (found : Option Typed) (typed : Typed) → first_kind place found ≡ Ok typed → (shared : Typed) × (found ≡ Some shared) × (types.Known (settled shared) ≡ typed)
shared_first place (Some shared) typed is = (shared, refl, cc)
shared_first place None typed is = absurd cc

on_coalesce : (columns : List Column) (row : List Value) (place : ℕ) (items : List (Held columns row)) →
    IsLawful columns row (e.Coalesce place (items_of columns row items))
on_coalesce columns row place items typed is =
    let step = opened (shared_kind (Some types.Untyped) (items_kinds columns (items_of columns row items))) (λ shared. first_kind place shared) typed
    (sym (kind_coalesce place (items_of columns row items) columns) ∙ is) in
    let found = shared_first place step.0 typed step.2 in
    let gave : shared_kind (Some types.Untyped) (items_kinds columns (items_of columns row items)) ≡ Ok (Some found.0) = step.1 ∙ ap Ok found.1 in
    let named : shared_by (Some types.Untyped) (items_nominal columns (items_of columns row items)) ≡ Some found.0 =
    shared_named columns row items (Some types.Untyped) (Some found.0) gave in
    lawful_by columns row (e.Coalesce place (items_of columns row items)) typed (types.Known (settled found.0)) _
    (nominal_coalesce place (items_of columns row items) columns ∙ ap (λ shared. types.Known (met shared)) named)
    found.2
    (value_coalesce place (items_of columns row items) columns row
    ∙ ap (λ shared. coalesce_value (met shared) (items_sides columns row (items_of columns row items))) named)
    (coalesce_sound columns row items (Some types.Untyped) found.0 gave)

on_abs : (columns : List Column) (row : List Value) (place : ℕ) (operand : Held columns row) → IsLawful columns row (e.Abs place operand.0)
on_abs columns row place operand typed is =
    let step = opened (kind_is operand.0 columns) (λ inner. ruled place (signed_kind inner)) typed (sym (kind_abs place operand.0 columns) ∙ is) in
    let law = operand.1 step.0 step.1 in
    let found = ruled_is place (signed_kind step.0) typed step.2 in
    let own = law.0 ∙ signed_is step.0 found.0 found.1 in
    lawful_by columns row (e.Abs place operand.0) typed (types.Known found.0) _
    (nominal_abs place operand.0 columns ∙ own) found.2
    (value_abs place operand.0 columns row)
    (subst (λ t. is_sound (types.Known found.0) (value_of operand.0 columns row >>= (λ value. absolute (settled t) value)) ≡ true) (sym own)
    (then_sound step.0 found.0 (value_of operand.0 columns row) (λ value. absolute found.0 value) law.1 (λ value _. absolute_sound found.0 value)))

on_length : (columns : List Column) (row : List Value) (place : ℕ) (operand : Held columns row) → IsLawful columns row (e.Length place operand.0)
on_length columns row place operand typed is =
    let step = opened (kind_is operand.0 columns) (λ inner. ruled place (length_kind inner)) typed (sym (kind_length place operand.0 columns) ∙ is) in
    lawful_by columns row (e.Length place operand.0) typed (types.Known kinds.Integer) _
    (nominal_length place operand.0 columns) (length_agrees place step.0 typed step.2)
    (value_length place operand.0 columns row)
    (then_sound (types.Known (read_kind kinds.Text (nominal operand.0 columns))) kinds.Integer (side_value kinds.Text (side columns row operand.0)) measured
    (side_sound kinds.Text (side columns row operand.0) (good columns row operand.0 step.0 operand.1 step.1)) (λ value _. measured_sound value))

-- each node, its operands beside the law on them
on_node : (columns : List Column) (row : List Value) → row_fits columns row ≡ true → (node : Expr-F (Held columns row)) →
    IsLawful columns row (roll-Expr (map-Expr (Held columns row) Expr (λ held. held.0) node))
on_node columns row fit (Expr-F.Literal place value) = subst (IsLawful columns row) (sym (e.rolls-Literal place value)) (on_literal columns row place value)
on_node columns row fit (Expr-F.Date place text) = subst (IsLawful columns row) (sym (e.rolls-Date place text)) (on_date columns row place text)
on_node columns row fit (Expr-F.Column place name) = subst (IsLawful columns row) (sym (e.rolls-Column place name)) (on_column columns row fit place name)
on_node columns row fit (Expr-F.Chain first links) =
    subst (IsLawful columns row) (sym (e.rolls-Chain first.0 (links_of columns row links))) (on_chain columns row first links)
on_node columns row fit (Expr-F.Prefixed operand prefixes) =
    subst (IsLawful columns row) (sym (e.rolls-Prefixed operand.0 prefixes)) (on_prefixed columns row operand prefixes)
on_node columns row fit (Expr-F.Casts operand casts) =
    subst (IsLawful columns row) (sym (e.rolls-Casts operand.0 casts)) (on_casts columns row operand casts)
on_node columns row fit (Expr-F.IsNull operand tests) =
    subst (IsLawful columns row) (sym (e.rolls-IsNull operand.0 tests)) (on_is_null columns row operand tests)
on_node columns row fit (Expr-F.Between place negated value low high) =
    subst (IsLawful columns row) (sym (e.rolls-Between place negated value.0 low.0 high.0)) (on_between columns row place negated value low high)
on_node columns row fit (Expr-F.In place negated value items) =
    subst (IsLawful columns row) (sym (e.rolls-In place negated value.0 (items_of columns row items))) (on_in columns row place negated value items)
on_node columns row fit (Expr-F.Coalesce place items) =
    subst (IsLawful columns row) (sym (e.rolls-Coalesce place (items_of columns row items))) (on_coalesce columns row place items)
on_node columns row fit (Expr-F.Abs place operand) = subst (IsLawful columns row) (sym (e.rolls-Abs place operand.0)) (on_abs columns row place operand)
on_node columns row fit (Expr-F.Length place operand) = subst (IsLawful columns row) (sym (e.rolls-Length place operand.0)) (on_length columns row place operand)

pub lawful : (columns : List Column) (row : List Value) → row_fits columns row ≡ true → (expr : Expr) → IsLawful columns row expr
lawful columns row fit =
    ind-Expr (IsLawful columns row) (λ node held is. subst (λ n. IsLawful columns row (roll-Expr n)) is (on_node columns row fit held))
