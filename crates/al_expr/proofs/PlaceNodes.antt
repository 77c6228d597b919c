-- `place_is`, one equation for each variant.
use Rattle.std.proofs.Common.{◌≡◌, ℕ, Bool, List, [], ◌∷◌, map, refl, sym, ap, ◌∙◌}
use Rattle.al_values.specs.declared.kinds.Kind.{Kind}
use Rattle.al_values.specs.declared.scalar.Value.{Value}
use Rattle.al_expr.specs.declared.tree.Operator.{Operator}
use Rattle.al_expr.specs.declared.tree.Prefix.{Prefix}
use Rattle.al_expr.specs.declared.tree.Expr.{Expr}
use Rattle.al_expr.specs.declared.tree.Expr.TheOpen.{Expr-F}
use Rattle.al_expr.specs.declared.tree.Expr.TheFolds.{fold-roll-Expr}
use Rattle.al_expr.specs.declared.tree.Expr.TheVariants as e
use Rattle.al_expr.specs.Places.{place_step, place_is, last_place, last_link_place}

links_places : (before : ℕ) (links : List (ℕ × Operator × Expr)) →
    last_link_place before (map (λ link. (link.0, link.1, place_is link.2)) links) ≡ last_link_place before links
links_places before [] = refl
links_places before (link ∷ links) = links_places link.0 links

pub place_literal : (place : ℕ) (value : Value) → place_is (e.Literal place value) ≡ place
unfolding place_is
place_literal place value = ap place_is (sym (e.rolls-Literal place value)) ∙ fold-roll-Expr ℕ place_step (Expr-F.Literal place value)

pub place_date : (place : ℕ) (text : List ℕ) → place_is (e.Date place text) ≡ place
unfolding place_is
place_date place text = ap place_is (sym (e.rolls-Date place text)) ∙ fold-roll-Expr ℕ place_step (Expr-F.Date place text)

pub place_column : (place : ℕ) (name : List ℕ) → place_is (e.Column place name) ≡ place
unfolding place_is
place_column place name = ap place_is (sym (e.rolls-Column place name)) ∙ fold-roll-Expr ℕ place_step (Expr-F.Column place name)

pub place_chain : (first : Expr) (links : List (ℕ × Operator × Expr)) → place_is (e.Chain first links) ≡ last_link_place (place_is first) links
unfolding place_is
place_chain first links = ap place_is (sym (e.rolls-Chain first links)) ∙ fold-roll-Expr ℕ place_step (Expr-F.Chain first links) ∙ links_places (place_is first) links

pub place_prefixed : (operand : Expr) (prefixes : List (ℕ × Prefix)) → place_is (e.Prefixed operand prefixes) ≡ last_place (place_is operand) prefixes
unfolding place_is
place_prefixed operand prefixes = ap place_is (sym (e.rolls-Prefixed operand prefixes)) ∙ fold-roll-Expr ℕ place_step (Expr-F.Prefixed operand prefixes)

pub place_casts : (operand : Expr) (casts : List (ℕ × Kind)) → place_is (e.Casts operand casts) ≡ last_place (place_is operand) casts
unfolding place_is
place_casts operand casts = ap place_is (sym (e.rolls-Casts operand casts)) ∙ fold-roll-Expr ℕ place_step (Expr-F.Casts operand casts)

pub place_is_null : (operand : Expr) (tests : List (ℕ × Bool)) → place_is (e.IsNull operand tests) ≡ last_place (place_is operand) tests
unfolding place_is
place_is_null operand tests = ap place_is (sym (e.rolls-IsNull operand tests)) ∙ fold-roll-Expr ℕ place_step (Expr-F.IsNull operand tests)

pub place_between : (place : ℕ) (negated : Bool) (value : Expr) (low : Expr) (high : Expr) → place_is (e.Between place negated value low high) ≡ place
unfolding place_is
place_between place negated value low high = ap place_is (sym (e.rolls-Between place negated value low high)) ∙ fold-roll-Expr ℕ place_step (Expr-F.Between place negated value low high)

pub place_in : (place : ℕ) (negated : Bool) (value : Expr) (items : List Expr) → place_is (e.In place negated value items) ≡ place
unfolding place_is
place_in place negated value items = ap place_is (sym (e.rolls-In place negated value items)) ∙ fold-roll-Expr ℕ place_step (Expr-F.In place negated value items)

pub place_coalesce : (place : ℕ) (items : List Expr) → place_is (e.Coalesce place items) ≡ place
unfolding place_is
place_coalesce place items = ap place_is (sym (e.rolls-Coalesce place items)) ∙ fold-roll-Expr ℕ place_step (Expr-F.Coalesce place items)

pub place_abs : (place : ℕ) (operand : Expr) → place_is (e.Abs place operand) ≡ place
unfolding place_is
place_abs place operand = ap place_is (sym (e.rolls-Abs place operand)) ∙ fold-roll-Expr ℕ place_step (Expr-F.Abs place operand)

pub place_length : (place : ℕ) (operand : Expr) → place_is (e.Length place operand) ≡ place
unfolding place_is
place_length place operand = ap place_is (sym (e.rolls-Length place operand)) ∙ fold-roll-Expr ℕ place_step (Expr-F.Length place operand)

pub ruleset place_nodes = (place_literal, place_date, place_column, place_chain, place_prefixed, place_casts, place_is_null, place_between, place_in, place_coalesce, place_abs, place_length)
