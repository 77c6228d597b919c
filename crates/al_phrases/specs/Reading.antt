-- What is read of a repetition behind what was read so far, at a depth.
use Rattle.std.specs.Prelude.{ℕ, Bool, List, [], ◌∷◌}
use Rattle.al_grammar.specs.Rules.{Shape, Step, Rule, leaf_shape, both, next_item}
use Rattle.al_grammar.specs.Gives.{fold_from, many_from}
use Rattle.al_expr.specs.declared.tree.Expr.{Expr}
use Rattle.al_phrases.specs.declared.lexeme.Lexeme.{Lexeme}
use Rattle.al_phrases.specs.declared.levels.Opened.{Opened}
use Rattle.al_phrases.specs.declared.levels.Opened.TheVariants as opened
use Rattle.al_phrases.specs.Kinds as k
use Rattle.al_phrases.specs.Words.{kind_of, one_of, word}
use Rattle.al_phrases.specs.Rows.{Link, extended, cast_to, tested, in_turn}
use Rattle.al_phrases.specs.Expressions.{Inner, inside, is_free, link, cast_suffix, null_test, products, sums, signs_at, products_at, sums_at, nots_at, ands_at, sign_shape, product_shape, sum_shape, not_shape, and_shape, or_shape}

-- a level's reader where so many may still be opened
abbrev pub at_depth : {s : Shape} → (Bool → Inner → Rule Lexeme s Expr) → ℕ → List Lexeme → Step Lexeme Expr
at_depth level depth ts = (level (is_free depth) (inside depth)).reads ts

-- what stands in a level that was opened
abbrev pub opened_at : ℕ → Opened → List Lexeme → Step Lexeme Expr
opened_at depth opened.Whole ts = (inside depth).whole.reads ts
opened_at depth opened.Negated ts = (inside depth).negated.reads ts
opened_at depth opened.Signed ts = (inside depth).signed.reads ts

-- casts and tests
unfoldable pub casts_from : Expr → List Lexeme → Step Lexeme Expr
casts_from left ts = fold_from kind_of (in_turn cast_to) cast_suffix left ts

unfoldable pub tests_from : Expr → List Lexeme → Step Lexeme Expr
tests_from left ts = fold_from kind_of (in_turn tested) null_test left ts

-- operators with their right sides
unfoldable pub next_product : ℕ → Rule Lexeme (both (leaf_shape products) sign_shape) Link
next_product depth = link products (signs_at (is_free depth) (inside depth))

unfoldable pub products_from : ℕ → Expr → List Lexeme → Step Lexeme Expr
products_from depth left ts = fold_from kind_of (in_turn extended) (next_product depth) left ts

unfoldable pub next_sum : ℕ → Rule Lexeme (both (leaf_shape sums) product_shape) Link
next_sum depth = link sums (products_at (is_free depth) (inside depth))

unfoldable pub sums_from : ℕ → Expr → List Lexeme → Step Lexeme Expr
sums_from depth left ts = fold_from kind_of (in_turn extended) (next_sum depth) left ts

unfoldable pub next_concat : ℕ → Rule Lexeme (both (one_of k.joined) sum_shape) Link
next_concat depth = link (k.joined ∷ []) (sums_at (is_free depth) (inside depth))

unfoldable pub concats_from : ℕ → Expr → List Lexeme → Step Lexeme Expr
concats_from depth left ts = fold_from kind_of (in_turn extended) (next_concat depth) left ts

unfoldable pub next_and : ℕ → Rule Lexeme (both (one_of k.and_word) not_shape) Link
next_and depth = link (k.and_word ∷ []) (nots_at (is_free depth) (inside depth))

unfoldable pub ands_from : ℕ → Expr → List Lexeme → Step Lexeme Expr
ands_from depth left ts = fold_from kind_of (in_turn extended) (next_and depth) left ts

unfoldable pub next_or : ℕ → Rule Lexeme (both (one_of k.or_word) and_shape) Link
next_or depth = link (k.or_word ∷ []) (ands_at (is_free depth) (inside depth))

unfoldable pub ors_from : ℕ → Expr → List Lexeme → Step Lexeme Expr
ors_from depth left ts = fold_from kind_of (in_turn extended) (next_or depth) left ts

-- a list with commas between
unfoldable pub next_expr : ℕ → Rule Lexeme (both (one_of k.comma) or_shape) Expr
next_expr depth = next_item (word k.comma) (inside depth).whole

unfoldable pub items_from : ℕ → List Expr → List Lexeme → Step Lexeme (List Expr)
items_from depth so_far ts = many_from kind_of (next_expr depth) so_far ts
