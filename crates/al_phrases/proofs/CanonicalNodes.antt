-- `is_canonical`, one equation for each variant.
use Rattle.std.proofs.Common.{◌≡◌, ℕ, Bool, true, List, [], ◌∷◌, map, refl, sym, ap, ◌∙◌}
use Rattle.std.specs.Prelude.{◌&&◌, not, ◌==◌}
use Rattle.al_values.specs.declared.kinds.Kind.{Kind}
use Rattle.al_values.specs.declared.scalar.Value.{Value}
use Rattle.al_expr.specs.declared.tree.Operator.{Operator}
use Rattle.al_expr.specs.declared.tree.Prefix.{Prefix}
use Rattle.al_expr.specs.declared.tree.Expr.{Expr, out-Expr}
use Rattle.al_expr.specs.declared.tree.Expr.TheOpen.{Expr-F}
use Rattle.al_expr.specs.declared.tree.Expr.TheFolds.{para-roll-Expr}
use Rattle.al_expr.specs.declared.tree.Expr.TheVariants as e
use Rattle.al_phrases.specs.Rows.{precedence}
use Rattle.al_phrases.specs.Canonical.{row_in, is_prefixed, is_cast, is_test, has_some, all_of, is_row, right_sides, each, canonical_step, is_canonical, links_canonical, items_canonical}

abbrev with_mark : Expr → Expr × Bool
with_mark x = (x, is_canonical x)

links_are : (links : List (ℕ × Operator × Expr)) → right_sides (map (λ link. (link.0, link.1, with_mark link.2)) links) ≡ links_canonical links
unfolding links_canonical
links_are [] = refl
links_are (link ∷ links) = ap (λ b. is_canonical link.2 && b) (links_are links)

items_are : (items : List Expr) → each (map with_mark items) ≡ items_canonical items
unfolding items_canonical
items_are [] = refl
items_are (item ∷ items) = ap (λ b. is_canonical item && b) (items_are items)

all_same : (p : ℕ) (links : List (ℕ × Operator × Expr)) → all_of p (map (λ link. (link.0, link.1, with_mark link.2)) links) ≡ all_of p links
all_same p [] = refl
all_same p (link ∷ links) = ap (λ b. (precedence link.1 == p) && b) (all_same p links)

row_same : (first : ℕ) (links : List (ℕ × Operator × Expr)) → is_row first (map (λ link. (link.0, link.1, with_mark link.2)) links) ≡ is_row first links
row_same first [] = refl
row_same first (link ∷ links) = ap (λ b. b && not (first == precedence link.1)) (all_same (precedence link.1) links)

pub canonical_literal : (place : ℕ) (value : Value) → is_canonical (e.Literal place value) ≡ true
unfolding is_canonical
canonical_literal place value = ap is_canonical (sym (e.rolls-Literal place value)) ∙ para-roll-Expr Bool canonical_step (Expr-F.Literal place value)

pub canonical_date : (place : ℕ) (text : List ℕ) → is_canonical (e.Date place text) ≡ true
unfolding is_canonical
canonical_date place text = ap is_canonical (sym (e.rolls-Date place text)) ∙ para-roll-Expr Bool canonical_step (Expr-F.Date place text)

pub canonical_column : (place : ℕ) (name : List ℕ) → is_canonical (e.Column place name) ≡ true
unfolding is_canonical
canonical_column place name = ap is_canonical (sym (e.rolls-Column place name)) ∙ para-roll-Expr Bool canonical_step (Expr-F.Column place name)

pub canonical_chain : (first : Expr) (links : List (ℕ × Operator × Expr)) → is_canonical (e.Chain first links) ≡ (is_canonical first && (links_canonical links && is_row (row_in (out-Expr first)) links))
unfolding is_canonical
canonical_chain first links =
    ap is_canonical (sym (e.rolls-Chain first links)) ∙ para-roll-Expr Bool canonical_step (Expr-F.Chain first links)
    ∙ ap (λ b. is_canonical first && (b && is_row (row_in (out-Expr first)) (map (λ link. (link.0, link.1, with_mark link.2)) links))) (links_are links)
    ∙ ap (λ b. is_canonical first && (links_canonical links && b)) (row_same (row_in (out-Expr first)) links)

pub canonical_prefixed : (operand : Expr) (prefixes : List (ℕ × Prefix)) → is_canonical (e.Prefixed operand prefixes) ≡ (is_canonical operand && (has_some prefixes && not (is_prefixed (out-Expr operand))))
unfolding is_canonical
canonical_prefixed operand prefixes = ap is_canonical (sym (e.rolls-Prefixed operand prefixes)) ∙ para-roll-Expr Bool canonical_step (Expr-F.Prefixed operand prefixes)

pub canonical_casts : (operand : Expr) (casts : List (ℕ × Kind)) → is_canonical (e.Casts operand casts) ≡ (is_canonical operand && (has_some casts && not (is_cast (out-Expr operand))))
unfolding is_canonical
canonical_casts operand casts = ap is_canonical (sym (e.rolls-Casts operand casts)) ∙ para-roll-Expr Bool canonical_step (Expr-F.Casts operand casts)

pub canonical_tests : (operand : Expr) (tests : List (ℕ × Bool)) → is_canonical (e.IsNull operand tests) ≡ (is_canonical operand && (has_some tests && not (is_test (out-Expr operand))))
unfolding is_canonical
canonical_tests operand tests = ap is_canonical (sym (e.rolls-IsNull operand tests)) ∙ para-roll-Expr Bool canonical_step (Expr-F.IsNull operand tests)

pub canonical_between : (place : ℕ) (negated : Bool) (value low high : Expr) → is_canonical (e.Between place negated value low high) ≡ (is_canonical value && (is_canonical low && is_canonical high))
unfolding is_canonical
canonical_between place negated value low high = ap is_canonical (sym (e.rolls-Between place negated value low high)) ∙ para-roll-Expr Bool canonical_step (Expr-F.Between place negated value low high)

pub canonical_in : (place : ℕ) (negated : Bool) (value : Expr) (items : List Expr) → is_canonical (e.In place negated value items) ≡ (is_canonical value && items_canonical items)
unfolding is_canonical
canonical_in place negated value items =
    ap is_canonical (sym (e.rolls-In place negated value items)) ∙ para-roll-Expr Bool canonical_step (Expr-F.In place negated value items)
    ∙ ap (λ b. is_canonical value && b) (items_are items)

pub canonical_coalesce : (place : ℕ) (items : List Expr) → is_canonical (e.Coalesce place items) ≡ items_canonical items
unfolding is_canonical
canonical_coalesce place items = ap is_canonical (sym (e.rolls-Coalesce place items)) ∙ para-roll-Expr Bool canonical_step (Expr-F.Coalesce place items) ∙ items_are items

pub canonical_abs : (place : ℕ) (operand : Expr) → is_canonical (e.Abs place operand) ≡ is_canonical operand
unfolding is_canonical
canonical_abs place operand = ap is_canonical (sym (e.rolls-Abs place operand)) ∙ para-roll-Expr Bool canonical_step (Expr-F.Abs place operand)

pub canonical_length : (place : ℕ) (operand : Expr) → is_canonical (e.Length place operand) ≡ is_canonical operand
unfolding is_canonical
canonical_length place operand = ap is_canonical (sym (e.rolls-Length place operand)) ∙ para-roll-Expr Bool canonical_step (Expr-F.Length place operand)
