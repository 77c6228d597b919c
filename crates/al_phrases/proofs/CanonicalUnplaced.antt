-- An expression without its places is canonical where it was so with them.
use Rattle.std.proofs.Common.{◌≡◌, ℕ, Bool, true, false, List, [], ◌∷◌, map, refl, sym, ap, subst, ◌∙◌}
use Rattle.std.specs.Prelude.{◌&&◌, not, ◌==◌}
use Rattle.al_values.specs.declared.kinds.Kind.{Kind}
use Rattle.al_expr.specs.declared.tree.Operator.{Operator}
use Rattle.al_expr.specs.declared.tree.Prefix.{Prefix}
use Rattle.al_expr.specs.declared.tree.Expr.{Expr, out-Expr, roll-Expr}
use Rattle.al_expr.specs.declared.tree.Expr.TheOpen.{Expr-F}
use Rattle.al_expr.specs.declared.tree.Expr.TheFolds.{map-Expr, ind-Expr}
use Rattle.al_expr.specs.declared.tree.Expr.TheVariants as e
use Rattle.al_expr.specs.Unplaced.{unplaced, row_unplaced, links_unplaced, items_unplaced}
use Rattle.al_expr.proofs.UnplacedNodes as bare
use Rattle.al_phrases.specs.Rows.{Link, precedence, row_precedence}
use Rattle.al_phrases.specs.Canonical.{row_in, is_prefixed, is_cast, is_test, has_some, all_of, is_row, is_canonical, links_canonical, items_canonical}
use Rattle.al_phrases.proofs.CanonicalNodes as node

-- what `unplaced` leaves of an expression as it was
record KeepsForm (x : Expr) : Type 0 where
  pub canonical : is_canonical (unplaced x) ≡ is_canonical x
  pub row : row_in (out-Expr (unplaced x)) ≡ row_in (out-Expr x)
  pub prefixed : is_prefixed (out-Expr (unplaced x)) ≡ is_prefixed (out-Expr x)
  pub cast : is_cast (out-Expr (unplaced x)) ≡ is_cast (out-Expr x)
  pub test : is_test (out-Expr (unplaced x)) ≡ is_test (out-Expr x)

kept : (x y : Expr) (nx ny : Expr-F Expr) → unplaced x ≡ y → out-Expr x ≡ nx → out-Expr y ≡ ny → is_canonical y ≡ is_canonical x
    → row_in ny ≡ row_in nx → is_prefixed ny ≡ is_prefixed nx → is_cast ny ≡ is_cast nx → is_test ny ≡ is_test nx → KeepsForm x
kept x y nx ny is ox oy canonical row prefixed cast test = record {
  canonical = ap is_canonical is ∙ canonical;
  row = ap (λ z. row_in (out-Expr z)) is ∙ ap row_in oy ∙ row ∙ sym (ap row_in ox);
  prefixed = ap (λ z. is_prefixed (out-Expr z)) is ∙ ap is_prefixed oy ∙ prefixed ∙ sym (ap is_prefixed ox);
  cast = ap (λ z. is_cast (out-Expr z)) is ∙ ap is_cast oy ∙ cast ∙ sym (ap is_cast ox);
  test = ap (λ z. is_test (out-Expr z)) is ∙ ap is_test oy ∙ test ∙ sym (ap is_test ox);
}

abbrev Held : Type 0
Held = (x : Expr) × KeepsForm x

abbrev links_of : List (ℕ × Operator × Held) → List Link
links_of links = map (λ link. (link.0, link.1, link.2.0)) links

abbrev items_of : List Held → List Expr
items_of items = map (λ item. item.0) items

links_keep : (links : List (ℕ × Operator × Held)) → links_canonical (links_unplaced (links_of links)) ≡ links_canonical (links_of links)
unfolding links_canonical links_unplaced
links_keep [] = refl
links_keep (link ∷ links) = ap (λ b. b && links_canonical (links_unplaced (links_of links))) link.2.1.canonical ∙ ap (λ b. is_canonical link.2.0 && b) (links_keep links)

items_keep : (items : List Held) → items_canonical (items_unplaced (items_of items)) ≡ items_canonical (items_of items)
unfolding items_canonical items_unplaced
items_keep [] = refl
items_keep (item ∷ items) = ap (λ b. b && items_canonical (items_unplaced (items_of items))) item.1.canonical ∙ ap (λ b. is_canonical item.0 && b) (items_keep items)

precedence_kept : (links : List Link) → row_precedence (links_unplaced links) ≡ row_precedence links
unfolding links_unplaced
precedence_kept [] = refl
precedence_kept (link ∷ links) = refl

all_kept : (p : ℕ) (links : List Link) → all_of p (links_unplaced links) ≡ all_of p links
unfolding links_unplaced
all_kept p [] = refl
all_kept p (link ∷ links) = ap (λ b. (precedence link.1 == p) && b) (all_kept p links)

row_kept : (first : ℕ) (links : List Link) → is_row first (links_unplaced links) ≡ is_row first links
unfolding links_unplaced
row_kept first [] = refl
row_kept first (link ∷ links) = ap (λ b. b && not (first == precedence link.1)) (all_kept (precedence link.1) links)

some_kept : {A : Type 0} (row : List (ℕ × A)) → has_some (row_unplaced row) ≡ has_some row
some_kept [] = refl
some_kept (x ∷ xs) = refl

on_chain : (first : Held) (links : List (ℕ × Operator × Held)) → KeepsForm (e.Chain first.0 (links_of links))
on_chain first links =
    kept _ _ _ _ (bare.unplaced_chain first.0 (links_of links)) (e.outs-Chain first.0 (links_of links)) (e.outs-Chain (unplaced first.0) (links_unplaced (links_of links)))
    (node.canonical_chain (unplaced first.0) (links_unplaced (links_of links))
    ∙ ap (λ b. b && (links_canonical (links_unplaced (links_of links)) && is_row (row_in (out-Expr (unplaced first.0))) (links_unplaced (links_of links)))) first.1.canonical
    ∙ ap (λ b. is_canonical first.0 && (b && is_row (row_in (out-Expr (unplaced first.0))) (links_unplaced (links_of links)))) (links_keep links)
    ∙ ap (λ n. is_canonical first.0 && (links_canonical (links_of links) && is_row n (links_unplaced (links_of links)))) first.1.row
    ∙ ap (λ b. is_canonical first.0 && (links_canonical (links_of links) && b)) (row_kept (row_in (out-Expr first.0)) (links_of links))
    ∙ sym (node.canonical_chain first.0 (links_of links)))
    (precedence_kept (links_of links)) refl refl refl

on_prefixed : (operand : Held) (prefixes : List (ℕ × Prefix)) → KeepsForm (e.Prefixed operand.0 prefixes)
on_prefixed operand prefixes =
    kept _ _ _ _ (bare.unplaced_prefixed operand.0 prefixes) (e.outs-Prefixed operand.0 prefixes) (e.outs-Prefixed (unplaced operand.0) (row_unplaced prefixes))
    (node.canonical_prefixed (unplaced operand.0) (row_unplaced prefixes)
    ∙ ap (λ b. b && (has_some (row_unplaced prefixes) && not (is_prefixed (out-Expr (unplaced operand.0))))) operand.1.canonical
    ∙ ap (λ b. is_canonical operand.0 && (b && not (is_prefixed (out-Expr (unplaced operand.0))))) (some_kept prefixes)
    ∙ ap (λ b. is_canonical operand.0 && (has_some prefixes && not b)) operand.1.prefixed
    ∙ sym (node.canonical_prefixed operand.0 prefixes))
    refl refl refl refl

on_casts : (operand : Held) (casts : List (ℕ × Kind)) → KeepsForm (e.Casts operand.0 casts)
on_casts operand casts =
    kept _ _ _ _ (bare.unplaced_casts operand.0 casts) (e.outs-Casts operand.0 casts) (e.outs-Casts (unplaced operand.0) (row_unplaced casts))
    (node.canonical_casts (unplaced operand.0) (row_unplaced casts)
    ∙ ap (λ b. b && (has_some (row_unplaced casts) && not (is_cast (out-Expr (unplaced operand.0))))) operand.1.canonical
    ∙ ap (λ b. is_canonical operand.0 && (b && not (is_cast (out-Expr (unplaced operand.0))))) (some_kept casts)
    ∙ ap (λ b. is_canonical operand.0 && (has_some casts && not b)) operand.1.cast
    ∙ sym (node.canonical_casts operand.0 casts))
    refl refl refl refl

on_tests : (operand : Held) (tests : List (ℕ × Bool)) → KeepsForm (e.IsNull operand.0 tests)
on_tests operand tests =
    kept _ _ _ _ (bare.unplaced_is_null operand.0 tests) (e.outs-IsNull operand.0 tests) (e.outs-IsNull (unplaced operand.0) (row_unplaced tests))
    (node.canonical_tests (unplaced operand.0) (row_unplaced tests)
    ∙ ap (λ b. b && (has_some (row_unplaced tests) && not (is_test (out-Expr (unplaced operand.0))))) operand.1.canonical
    ∙ ap (λ b. is_canonical operand.0 && (b && not (is_test (out-Expr (unplaced operand.0))))) (some_kept tests)
    ∙ ap (λ b. is_canonical operand.0 && (has_some tests && not b)) operand.1.test
    ∙ sym (node.canonical_tests operand.0 tests))
    refl refl refl refl

on_between : (place : ℕ) (negated : Bool) (value low high : Held) → KeepsForm (e.Between place negated value.0 low.0 high.0)
on_between place negated value low high =
    kept _ _ _ _ (bare.unplaced_between place negated value.0 low.0 high.0) (e.outs-Between place negated value.0 low.0 high.0) (e.outs-Between 0 negated (unplaced value.0) (unplaced low.0) (unplaced high.0))
    (node.canonical_between 0 negated (unplaced value.0) (unplaced low.0) (unplaced high.0)
    ∙ ap (λ b. b && (is_canonical (unplaced low.0) && is_canonical (unplaced high.0))) value.1.canonical
    ∙ ap (λ b. is_canonical value.0 && (b && is_canonical (unplaced high.0))) low.1.canonical
    ∙ ap (λ b. is_canonical value.0 && (is_canonical low.0 && b)) high.1.canonical
    ∙ sym (node.canonical_between place negated value.0 low.0 high.0))
    refl refl refl refl

on_in : (place : ℕ) (negated : Bool) (value : Held) (items : List Held) → KeepsForm (e.In place negated value.0 (items_of items))
on_in place negated value items =
    kept _ _ _ _ (bare.unplaced_in place negated value.0 (items_of items)) (e.outs-In place negated value.0 (items_of items)) (e.outs-In 0 negated (unplaced value.0) (items_unplaced (items_of items)))
    (node.canonical_in 0 negated (unplaced value.0) (items_unplaced (items_of items))
    ∙ ap (λ b. b && items_canonical (items_unplaced (items_of items))) value.1.canonical
    ∙ ap (λ b. is_canonical value.0 && b) (items_keep items)
    ∙ sym (node.canonical_in place negated value.0 (items_of items)))
    refl refl refl refl

on_coalesce : (place : ℕ) (items : List Held) → KeepsForm (e.Coalesce place (items_of items))
on_coalesce place items =
    kept _ _ _ _ (bare.unplaced_coalesce place (items_of items)) (e.outs-Coalesce place (items_of items)) (e.outs-Coalesce 0 (items_unplaced (items_of items)))
    (node.canonical_coalesce 0 (items_unplaced (items_of items)) ∙ items_keep items ∙ sym (node.canonical_coalesce place (items_of items)))
    refl refl refl refl

on_node : (node_ : Expr-F Held) → KeepsForm (roll-Expr (map-Expr Held Expr (λ held. held.0) node_))
on_node (Expr-F.Literal place value) = subst KeepsForm (sym (e.rolls-Literal place value))
    (kept _ _ _ _ (bare.unplaced_literal place value) (e.outs-Literal place value) (e.outs-Literal 0 value) (node.canonical_literal 0 value ∙ sym (node.canonical_literal place value)) refl refl refl refl)
on_node (Expr-F.Date place text) = subst KeepsForm (sym (e.rolls-Date place text))
    (kept _ _ _ _ (bare.unplaced_date place text) (e.outs-Date place text) (e.outs-Date 0 text) (node.canonical_date 0 text ∙ sym (node.canonical_date place text)) refl refl refl refl)
on_node (Expr-F.Column place name) = subst KeepsForm (sym (e.rolls-Column place name))
    (kept _ _ _ _ (bare.unplaced_column place name) (e.outs-Column place name) (e.outs-Column 0 name) (node.canonical_column 0 name ∙ sym (node.canonical_column place name)) refl refl refl refl)
on_node (Expr-F.Chain first links) = subst KeepsForm (sym (e.rolls-Chain first.0 (links_of links))) (on_chain first links)
on_node (Expr-F.Prefixed operand prefixes) = subst KeepsForm (sym (e.rolls-Prefixed operand.0 prefixes)) (on_prefixed operand prefixes)
on_node (Expr-F.Casts operand casts) = subst KeepsForm (sym (e.rolls-Casts operand.0 casts)) (on_casts operand casts)
on_node (Expr-F.IsNull operand tests) = subst KeepsForm (sym (e.rolls-IsNull operand.0 tests)) (on_tests operand tests)
on_node (Expr-F.Between place negated value low high) = subst KeepsForm (sym (e.rolls-Between place negated value.0 low.0 high.0)) (on_between place negated value low high)
on_node (Expr-F.In place negated value items) = subst KeepsForm (sym (e.rolls-In place negated value.0 (items_of items))) (on_in place negated value items)
on_node (Expr-F.Coalesce place items) = subst KeepsForm (sym (e.rolls-Coalesce place (items_of items))) (on_coalesce place items)
on_node (Expr-F.Abs place operand) = subst KeepsForm (sym (e.rolls-Abs place operand.0))
    (kept _ _ _ _ (bare.unplaced_abs place operand.0) (e.outs-Abs place operand.0) (e.outs-Abs 0 (unplaced operand.0)) (node.canonical_abs 0 (unplaced operand.0) ∙ operand.1.canonical ∙ sym (node.canonical_abs place operand.0)) refl refl refl refl)
on_node (Expr-F.Length place operand) = subst KeepsForm (sym (e.rolls-Length place operand.0))
    (kept _ _ _ _ (bare.unplaced_length place operand.0) (e.outs-Length place operand.0) (e.outs-Length 0 (unplaced operand.0)) (node.canonical_length 0 (unplaced operand.0) ∙ operand.1.canonical ∙ sym (node.canonical_length place operand.0)) refl refl refl refl)

form_kept : (x : Expr) → KeepsForm x
form_kept = ind-Expr KeepsForm (λ held_node held is. subst (λ n. KeepsForm (roll-Expr n)) is (on_node held))

-- An expression without its places is canonical exactly where it was so with them.
pub unplaced_canonical : (x : Expr) → is_canonical (unplaced x) ≡ is_canonical x
unplaced_canonical x = (form_kept x).canonical
