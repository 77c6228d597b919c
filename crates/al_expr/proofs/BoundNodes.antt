-- `bound_value`, one equation for each variant.
use Rattle.std.proofs.Common.{◌≡◌, ℕ, Bool, false, List, Ok, Err, sym, ap, ◌∙◌}
use Rattle.al_values.specs.declared.kinds.Kind.{Kind}
use Rattle.al_values.specs.declared.scalar.Value.{Value}
use Rattle.al_values.specs.declared.scalar.Value.TheVariants as values
use Rattle.al_values.specs.Convert.{assigned}
use Rattle.al_expr.specs.declared.bound.Bound.{Bound}
use Rattle.al_expr.specs.declared.bound.Bound.TheOpen.{Bound-F}
use Rattle.al_expr.specs.declared.bound.Bound.TheFolds.{fold-roll-Bound}
use Rattle.al_expr.specs.declared.bound.Bound.TheVariants as b
use Rattle.al_expr.specs.declared.bound.Joint.{Joint}
use Rattle.al_expr.specs.declared.fault.EvalFault.{EvalFault}
use Rattle.al_expr.specs.declared.kinds.Typed.{Typed}
use Rattle.al_expr.specs.declared.kinds.Typed.TheVariants as types
use Rattle.al_expr.specs.declared.tree.Prefix.{Prefix}
use Rattle.al_expr.specs.Then.{◌>>=◌}
use Rattle.al_expr.specs.Values.{Outcome, converted, read_in, denied_if, absolute, measured}
use Rattle.al_expr.specs.Evaluation.{followed, prefixed_value, casts_value, tests_value}
use Rattle.al_expr.specs.Bound.{placed, joints_value, within_ends, among, first_of, bound_step, bound_value, links_bound, items_bound}

pub bound_fixed : (value : Value) (row : List Value) →
    bound_value (b.Fixed value) row ≡ Ok value
unfolding bound_value
bound_fixed value row =
    ap (λ x. bound_value x row) (sym (b.rolls-Fixed value)) ∙ fold-roll-Bound Outcome (bound_step row) (Bound-F.Fixed value)

pub bound_faulty : (fault : EvalFault) (row : List Value) →
    bound_value (b.Faulty fault) row ≡ Err fault
unfolding bound_value
bound_faulty fault row =
    ap (λ x. bound_value x row) (sym (b.rolls-Faulty fault)) ∙ fold-roll-Bound Outcome (bound_step row) (Bound-F.Faulty fault)

pub bound_place : (place : ℕ) (row : List Value) →
    bound_value (b.Place place) row ≡ Ok (placed row place)
unfolding bound_value
bound_place place row =
    ap (λ x. bound_value x row) (sym (b.rolls-Place place)) ∙ fold-roll-Bound Outcome (bound_step row) (Bound-F.Place place)

pub bound_chain : (first : Bound) (links : List (Joint × Bound)) (row : List Value) →
    bound_value (b.Chain first links) row ≡ (bound_value first row >>= (λ left. joints_value left (links_bound row links)))
unfolding bound_value links_bound
bound_chain first links row =
    ap (λ x. bound_value x row) (sym (b.rolls-Chain first links)) ∙ fold-roll-Bound Outcome (bound_step row) (Bound-F.Chain first links)

pub bound_prefixed : (typed : Typed) (operand : Bound) (prefixes : List (ℕ × Prefix)) (row : List Value) →
    bound_value (b.Prefixed typed operand prefixes) row ≡ (bound_value operand row >>= (λ value. prefixed_value typed value prefixes))
unfolding bound_value
bound_prefixed typed operand prefixes row =
    ap (λ x. bound_value x row) (sym (b.rolls-Prefixed typed operand prefixes)) ∙ fold-roll-Bound Outcome (bound_step row) (Bound-F.Prefixed typed operand prefixes)

pub bound_casts : (operand : Bound) (casts : List (ℕ × Kind)) (row : List Value) →
    bound_value (b.Casts operand casts) row ≡ (bound_value operand row >>= (λ value. casts_value value casts))
unfolding bound_value
bound_casts operand casts row =
    ap (λ x. bound_value x row) (sym (b.rolls-Casts operand casts)) ∙ fold-roll-Bound Outcome (bound_step row) (Bound-F.Casts operand casts)

pub bound_is_null : (operand : Bound) (tests : List (ℕ × Bool)) (row : List Value) →
    bound_value (b.IsNull operand tests) row ≡ (bound_value operand row >>= (λ value. Ok (tests_value value tests)))
unfolding bound_value
bound_is_null operand tests row =
    ap (λ x. bound_value x row) (sym (b.rolls-IsNull operand tests)) ∙ fold-roll-Bound Outcome (bound_step row) (Bound-F.IsNull operand tests)

pub bound_between : (negated : Bool) (value : Bound) (low : Bound) (high : Bound) (row : List Value) →
    bound_value (b.Between negated value low high) row ≡ (within_ends (bound_value value row) (bound_value low row) (bound_value high row) >>= (λ truth. Ok (denied_if negated truth)))
unfolding bound_value
bound_between negated value low high row =
    ap (λ x. bound_value x row) (sym (b.rolls-Between negated value low high)) ∙ fold-roll-Bound Outcome (bound_step row) (Bound-F.Between negated value low high)

pub bound_in : (negated : Bool) (value : Bound) (items : List Bound) (row : List Value) →
    bound_value (b.In negated value items) row ≡ ((bound_value value row >>= (λ a. among a (values.Bool false) (items_bound row items))) >>= (λ truth. Ok (denied_if negated truth)))
unfolding bound_value items_bound
bound_in negated value items row =
    ap (λ x. bound_value x row) (sym (b.rolls-In negated value items)) ∙ fold-roll-Bound Outcome (bound_step row) (Bound-F.In negated value items)

-- IN, whose value is known
pub bound_within : (bound : Bound) (negated : Bool) (operand : Bound) (items : List Bound) (row : List Value) (value : Value) → bound ≡ b.In negated operand items → bound_value operand row ≡ Ok value →
    bound_value bound row ≡ followed (among value (values.Bool false) (items_bound row items)) (λ truth. Ok (denied_if negated truth))
bound_within bound negated operand items row value is known =
    ap (λ x. bound_value x row) is ∙ bound_in negated operand items row
    ∙ ap (λ (x : Outcome). (x >>= (λ a. among a (values.Bool false) (items_bound row items))) >>= (λ truth. Ok (denied_if negated truth))) known

pub bound_coalesce : (items : List Bound) (row : List Value) →
    bound_value (b.Coalesce items) row ≡ first_of (items_bound row items)
unfolding bound_value items_bound
bound_coalesce items row =
    ap (λ x. bound_value x row) (sym (b.rolls-Coalesce items)) ∙ fold-roll-Bound Outcome (bound_step row) (Bound-F.Coalesce items)

pub bound_abs : (kind : Kind) (operand : Bound) (row : List Value) →
    bound_value (b.Abs kind operand) row ≡ (bound_value operand row >>= (λ value. absolute kind value))
unfolding bound_value
bound_abs kind operand row =
    ap (λ x. bound_value x row) (sym (b.rolls-Abs kind operand)) ∙ fold-roll-Bound Outcome (bound_step row) (Bound-F.Abs kind operand)

pub bound_length : (operand : Bound) (row : List Value) →
    bound_value (b.Length operand) row ≡ (bound_value operand row >>= measured)
unfolding bound_value
bound_length operand row =
    ap (λ x. bound_value x row) (sym (b.rolls-Length operand)) ∙ fold-roll-Bound Outcome (bound_step row) (Bound-F.Length operand)

pub bound_read : (kind : Kind) (operand : Bound) (row : List Value) →
    bound_value (b.Read kind operand) row ≡ (bound_value operand row >>= (λ value. read_in kind types.Untyped value))
unfolding bound_value
bound_read kind operand row =
    ap (λ x. bound_value x row) (sym (b.rolls-Read kind operand)) ∙ fold-roll-Bound Outcome (bound_step row) (Bound-F.Read kind operand)

pub bound_store : (kind : Kind) (operand : Bound) (row : List Value) →
    bound_value (b.Store kind operand) row ≡ (bound_value operand row >>= (λ value. converted (assigned value kind)))
unfolding bound_value
bound_store kind operand row =
    ap (λ x. bound_value x row) (sym (b.rolls-Store kind operand)) ∙ fold-roll-Bound Outcome (bound_step row) (Bound-F.Store kind operand)

pub ruleset bound_nodes = (bound_fixed, bound_faulty, bound_place, bound_chain, bound_prefixed, bound_casts, bound_is_null, bound_between, bound_in, bound_coalesce, bound_abs, bound_length, bound_read, bound_store)
