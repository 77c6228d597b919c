-- What an operator gives is the kind that its table names, wherever that takes the operands.
use Rattle.std.proofs.Common.{◌≡◌, ℕ, ◌+◌, ◌<◌, Bool, true, false, List, ◌∷◌, length, get_or, drop, Option, Some, None, option_map, Ok, sym, ap, ◌∙◌}
use Rattle.std.proofs.lemmas.List.{at_drop_more}
use Rattle.std.specs.Prelude.{if◌then◌else◌, ◌&&◌}
use Rattle.al_values.specs.declared.kinds.Kind.{Kind}
use Rattle.al_values.specs.declared.kinds.Kind.TheVariants as kinds
use Rattle.al_expr.specs.declared.kinds.Typed.{Typed}
use Rattle.al_expr.specs.declared.kinds.Typed.TheVariants as types
use Rattle.al_expr.specs.declared.tree.Operator.{Operator}
use Rattle.al_expr.specs.declared.tree.Operator.TheVariants as operators
use Rattle.al_expr.specs.declared.tree.Prefix.{Prefix}
use Rattle.al_expr.specs.declared.tree.Prefix.TheVariants as prefixes
use Rattle.al_expr.specs.Kinds.{is_truth, is_text, is_castable, common, operator_kind, arithmetic_kind, prefix_kind, signed_kind, length_kind, cast_kind}
use Rattle.al_expr.specs.Typing.{ruled, alike, first_kind}
use Rattle.al_expr.specs.Nominal.{as_typed, operator_gives, prefix_gives, met, chain_gives, prefixed_gives, casts_gives, nominal, links_nominal}
use Rattle.al_expr.specs.declared.column.Column.{Column}
use Rattle.al_expr.specs.declared.tree.Expr.{Expr}

by_test : (place : ℕ) (test : Bool) (kind : Kind) (typed : Typed) →
    ruled place (if test then Some kind else None) ≡ Ok typed → types.Known kind ≡ typed
by_test place true kind typed is = cc
by_test place false kind typed is = cc

by_option : (place : ℕ) (found : Option Typed) (kind : Kind) (typed : Typed) →
    ruled place (option_map (λ _. kind) found) ≡ Ok typed → types.Known kind ≡ typed
by_option place (Some other) kind typed is = cc
by_option place None kind typed is = cc

by_kind : (place : ℕ) (found : Option Kind) (typed : Typed) → ruled place found ≡ Ok typed → as_typed found ≡ typed
by_kind place (Some kind) typed is = cc
by_kind place None typed is = cc

pub operator_agrees : (place : ℕ) (operator : Operator) (a b typed : Typed) →
    ruled place (operator_kind operator a b) ≡ Ok typed → operator_gives operator a b ≡ typed
operator_agrees place operators.Or a b typed is = by_test place (is_truth a && is_truth b) kinds.Boolean typed is
operator_agrees place operators.And a b typed is = by_test place (is_truth a && is_truth b) kinds.Boolean typed is
operator_agrees place (operators.Compare comparison) a b typed is = by_option place (common a b) kinds.Boolean typed is
operator_agrees place operators.Concat a b typed is = by_test place (is_text a && is_text b) kinds.Text typed is
operator_agrees place (operators.Calculate operator) a b typed is = by_kind place (arithmetic_kind operator a b) typed is

pub sign_agrees : (place : ℕ) (operand typed : Typed) → ruled place (signed_kind operand) ≡ Ok typed → operand ≡ typed
sign_agrees place (types.Known kinds.Smallint) typed is = cc
sign_agrees place (types.Known kinds.Integer) typed is = cc
sign_agrees place (types.Known kinds.Bigint) typed is = cc
sign_agrees place (types.Known kinds.Boolean) typed is = cc
sign_agrees place (types.Known kinds.Text) typed is = cc
sign_agrees place (types.Known (kinds.Varchar most)) typed is = cc
sign_agrees place (types.Known kinds.Date) typed is = cc
sign_agrees place types.Untyped typed is = cc

pub prefix_agrees : (place : ℕ) (prefix : Prefix) (operand typed : Typed) →
    ruled place (prefix_kind prefix operand) ≡ Ok typed → prefix_gives prefix operand ≡ typed
prefix_agrees place prefixes.Not operand typed is = by_test place (is_truth operand) kinds.Boolean typed is
prefix_agrees place prefixes.Minus operand typed is = sign_agrees place operand typed is
prefix_agrees place prefixes.Plus operand typed is = sign_agrees place operand typed is

pub cast_agrees : (place : ℕ) (operand : Typed) (to : Kind) (typed : Typed) →
    ruled place (cast_kind operand to) ≡ Ok typed → types.Known to ≡ typed
cast_agrees place (types.Known from) to typed is = by_test place (is_castable from to) to typed is
cast_agrees place types.Untyped to typed is = cc

pub length_agrees : (place : ℕ) (operand typed : Typed) →
    ruled place (length_kind operand) ≡ Ok typed → types.Known kinds.Integer ≡ typed
length_agrees place operand typed is = by_test place (is_text operand) kinds.Integer typed is

pub alike_agrees : (place : ℕ) (shared : Option Typed) (typed : Typed) → alike place shared ≡ Ok typed → types.Known kinds.Boolean ≡ typed
alike_agrees place (Some found) typed is = cc
alike_agrees place None typed is = cc

pub first_agrees : (place : ℕ) (shared : Option Typed) (typed : Typed) → first_kind place shared ≡ Ok typed → types.Known (met shared) ≡ typed
first_agrees place (Some found) typed is = cc
first_agrees place None typed is = cc

pub ruleset node_agrees = (sign_agrees, length_agrees, alike_agrees, first_agrees)

-- one step of each row
pub casts_more : (casts : List (ℕ × Kind)) (at : ℕ) (none : ℕ × Kind) (typed next : Typed) (found : Option Kind) → at < length casts →
    found ≡ cast_kind typed (get_or casts at none).1 → ruled (get_or casts at none).0 found ≡ Ok next →
    casts_gives typed (drop at casts) ≡ casts_gives next (drop (at + 1) casts)
casts_more casts at none typed next found within is gave =
    at_drop_more (casts_gives typed) casts at none within
    ∙ ap (λ outer. casts_gives outer (drop (at + 1) casts))
    (cast_agrees (get_or casts at none).0 typed (get_or casts at none).1 next (ap (ruled (get_or casts at none).0) (sym is) ∙ gave))

pub prefixes_more : (prefixes : List (ℕ × Prefix)) (at : ℕ) (none : ℕ × Prefix) (typed next : Typed) (found : Option Kind) → at < length prefixes →
    found ≡ prefix_kind (get_or prefixes at none).1 typed → ruled (get_or prefixes at none).0 found ≡ Ok next →
    prefixed_gives typed (drop at prefixes) ≡ prefixed_gives next (drop (at + 1) prefixes)
prefixes_more prefixes at none typed next found within is gave =
    at_drop_more (prefixed_gives typed) prefixes at none within
    ∙ ap (λ outer. prefixed_gives outer (drop (at + 1) prefixes))
    (prefix_agrees (get_or prefixes at none).0 (get_or prefixes at none).1 typed next (ap (ruled (get_or prefixes at none).0) (sym is) ∙ gave))

pub links_more : (columns : List Column) (links : List (ℕ × Operator × Expr)) (at : ℕ) (link : ℕ × Operator × Expr) (left right next : Typed) (found : Option Kind) →
    at < length links → link ≡ get_or links at link → nominal link.2 columns ≡ right →
    found ≡ operator_kind link.1 left right → ruled link.0 found ≡ Ok next →
    chain_gives left (links_nominal columns (drop at links)) ≡ chain_gives next (links_nominal columns (drop (at + 1) links))
unfolding links_nominal
links_more columns links at link left right next found within here named is gave =
    at_drop_more (λ rest. chain_gives left (links_nominal columns rest)) links at link within
    ∙ ap (λ it. chain_gives left (links_nominal columns (it ∷ drop (at + 1) links))) (sym here)
    ∙ ap (λ it. chain_gives (operator_gives link.1 left it) (links_nominal columns (drop (at + 1) links))) named
    ∙ ap (λ it. chain_gives it (links_nominal columns (drop (at + 1) links)))
    (operator_agrees link.0 link.1 left right next (ap (ruled link.0) (sym is) ∙ gave))
