-- Repetitions in an expression, as code reads them by a loop: one more, a fault, and the end.
use Rattle.std.proofs.Common.{◌≡◌, ℕ, Bool, true, false, List, [], ◌∷◌, ◌++◌, refl}
use Rattle.al_values.specs.declared.kinds.Kind.{Kind}
use Rattle.al_grammar.specs.Kinds.{starts}
use Rattle.al_grammar.specs.Rules.{Shape, Rule, read, fault, leaf_shape, both}
use Rattle.al_grammar.specs.Gives.{fold_from}
use Rattle.al_grammar.specs.Laws.{Lawful}
use Rattle.al_grammar.proofs.Rows.{fold_on, fold_off, fold_stop, lawful_next, many_on, many_off, many_stop}
use Rattle.al_expr.specs.declared.tree.Expr.{Expr}
use Rattle.al_phrases.specs.declared.lexeme.Lexeme.{Lexeme}
use Rattle.al_phrases.specs.Kinds as k
use Rattle.al_phrases.specs.Words.{kind_of, one_of, word}
use Rattle.al_phrases.specs.Rows.{Link, extended, cast_to, tested, in_turn}
use Rattle.al_phrases.specs.Expressions as x
use Rattle.al_phrases.specs.Reading as r
use Rattle.al_phrases.proofs.WordLaws.{lawful_word}
use Rattle.al_phrases.proofs.ExpressionLaws.{lawful_cast_suffix, lawful_null_test, lawful_link, lawful_signs_at, lawful_products_at, lawful_sums_at, lawful_nots_at, lawful_ands_at, lawful_inside}

-- ---- a repetition that is folded into what was made so far
module _ (A : Type 0) (s : Shape) (q : Rule Lexeme s A) (ql : Lawful kind_of q) (one : s.empty ≡ false) (more : Expr → A → Expr) where
  pub on : (left : Expr) (v : A) (ts mid : List Lexeme) → starts kind_of false s.first ts ≡ true → q.reads ts ≡ read v mid → fold_from kind_of (in_turn more) q left ts ≡ fold_from kind_of (in_turn more) q (more left v) mid
  on = fold_on Lexeme A Expr s kind_of q ql one (in_turn more) more (λ left. refl) (λ left v vs. refl)

  pub off : (left : Expr) (ts : List Lexeme) (n : ℕ) → starts kind_of false s.first ts ≡ true → q.reads ts ≡ fault n → fold_from kind_of (in_turn more) q left ts ≡ fault n
  off = fold_off Lexeme A Expr s kind_of q ql one (in_turn more) more (λ left. refl) (λ left v vs. refl)

  pub stop : (left : Expr) (ts : List Lexeme) → starts kind_of false s.first ts ≡ false → fold_from kind_of (in_turn more) q left ts ≡ read left ts
  stop = fold_stop Lexeme A Expr s kind_of q ql one (in_turn more) more (λ left. refl) (λ left v vs. refl)

-- ---- casts

pub casts_on : (left : Expr) (v : ℕ × Kind) (ts mid : List Lexeme) → starts kind_of false (k.cast_sign ∷ []) ts ≡ true → x.cast_suffix.reads ts ≡ read v mid → r.casts_from left ts ≡ r.casts_from (cast_to left v) mid
unfolding r.casts_from
casts_on = on (ℕ × Kind) x.cast_sign_shape x.cast_suffix lawful_cast_suffix refl cast_to

pub casts_off : (left : Expr) (ts : List Lexeme) (n : ℕ) → starts kind_of false (k.cast_sign ∷ []) ts ≡ true → x.cast_suffix.reads ts ≡ fault n → r.casts_from left ts ≡ fault n
unfolding r.casts_from
casts_off = off (ℕ × Kind) x.cast_sign_shape x.cast_suffix lawful_cast_suffix refl cast_to

pub casts_stop : (left : Expr) (ts : List Lexeme) → starts kind_of false (k.cast_sign ∷ []) ts ≡ false → r.casts_from left ts ≡ read left ts
unfolding r.casts_from
casts_stop = stop (ℕ × Kind) x.cast_sign_shape x.cast_suffix lawful_cast_suffix refl cast_to

-- ---- tests

pub tests_on : (left : Expr) (v : ℕ × Bool) (ts mid : List Lexeme) → starts kind_of false (k.is_word ∷ []) ts ≡ true → x.null_test.reads ts ≡ read v mid → r.tests_from left ts ≡ r.tests_from (tested left v) mid
unfolding r.tests_from
tests_on = on (ℕ × Bool) x.null_test_shape x.null_test lawful_null_test refl tested

pub tests_off : (left : Expr) (ts : List Lexeme) (n : ℕ) → starts kind_of false (k.is_word ∷ []) ts ≡ true → x.null_test.reads ts ≡ fault n → r.tests_from left ts ≡ fault n
unfolding r.tests_from
tests_off = off (ℕ × Bool) x.null_test_shape x.null_test lawful_null_test refl tested

pub tests_stop : (left : Expr) (ts : List Lexeme) → starts kind_of false (k.is_word ∷ []) ts ≡ false → r.tests_from left ts ≡ read left ts
unfolding r.tests_from
tests_stop = stop (ℕ × Bool) x.null_test_shape x.null_test lawful_null_test refl tested

-- ---- products

abbrev product_shape : Shape
product_shape = both (leaf_shape x.products) x.sign_shape

lawful_next_product : (depth : ℕ) → Lawful kind_of (r.next_product depth)
unfolding r.next_product
lawful_next_product depth = lawful_link x.sign_shape _ (lawful_signs_at (x.is_free depth) (x.inside depth) (lawful_inside depth)) x.products k.star refl

pub products_on : (depth : ℕ) (left : Expr) (v : Link) (ts mid : List Lexeme) → starts kind_of false x.products ts ≡ true → (r.next_product depth).reads ts ≡ read v mid → r.products_from depth left ts ≡ r.products_from depth (extended left v) mid
unfolding r.products_from
products_on depth = on Link product_shape (r.next_product depth) (lawful_next_product depth) refl extended

pub products_off : (depth : ℕ) (left : Expr) (ts : List Lexeme) (n : ℕ) → starts kind_of false x.products ts ≡ true → (r.next_product depth).reads ts ≡ fault n → r.products_from depth left ts ≡ fault n
unfolding r.products_from
products_off depth = off Link product_shape (r.next_product depth) (lawful_next_product depth) refl extended

pub products_stop : (depth : ℕ) (left : Expr) (ts : List Lexeme) → starts kind_of false x.products ts ≡ false → r.products_from depth left ts ≡ read left ts
unfolding r.products_from
products_stop depth = stop Link product_shape (r.next_product depth) (lawful_next_product depth) refl extended

-- ---- sums

abbrev sum_shape : Shape
sum_shape = both (leaf_shape x.sums) x.product_shape

lawful_next_sum : (depth : ℕ) → Lawful kind_of (r.next_sum depth)
unfolding r.next_sum
lawful_next_sum depth = lawful_link x.product_shape _ (lawful_products_at (x.is_free depth) (x.inside depth) (lawful_inside depth)) x.sums k.plus refl

pub sums_on : (depth : ℕ) (left : Expr) (v : Link) (ts mid : List Lexeme) → starts kind_of false x.sums ts ≡ true → (r.next_sum depth).reads ts ≡ read v mid → r.sums_from depth left ts ≡ r.sums_from depth (extended left v) mid
unfolding r.sums_from
sums_on depth = on Link sum_shape (r.next_sum depth) (lawful_next_sum depth) refl extended

pub sums_off : (depth : ℕ) (left : Expr) (ts : List Lexeme) (n : ℕ) → starts kind_of false x.sums ts ≡ true → (r.next_sum depth).reads ts ≡ fault n → r.sums_from depth left ts ≡ fault n
unfolding r.sums_from
sums_off depth = off Link sum_shape (r.next_sum depth) (lawful_next_sum depth) refl extended

pub sums_stop : (depth : ℕ) (left : Expr) (ts : List Lexeme) → starts kind_of false x.sums ts ≡ false → r.sums_from depth left ts ≡ read left ts
unfolding r.sums_from
sums_stop depth = stop Link sum_shape (r.next_sum depth) (lawful_next_sum depth) refl extended

-- ---- concats

abbrev concat_shape : Shape
concat_shape = both (leaf_shape (k.joined ∷ [])) x.sum_shape

lawful_next_concat : (depth : ℕ) → Lawful kind_of (r.next_concat depth)
unfolding r.next_concat
lawful_next_concat depth = lawful_link x.sum_shape _ (lawful_sums_at (x.is_free depth) (x.inside depth) (lawful_inside depth)) (k.joined ∷ []) k.joined refl

pub concats_on : (depth : ℕ) (left : Expr) (v : Link) (ts mid : List Lexeme) → starts kind_of false (k.joined ∷ []) ts ≡ true → (r.next_concat depth).reads ts ≡ read v mid → r.concats_from depth left ts ≡ r.concats_from depth (extended left v) mid
unfolding r.concats_from
concats_on depth = on Link concat_shape (r.next_concat depth) (lawful_next_concat depth) refl extended

pub concats_off : (depth : ℕ) (left : Expr) (ts : List Lexeme) (n : ℕ) → starts kind_of false (k.joined ∷ []) ts ≡ true → (r.next_concat depth).reads ts ≡ fault n → r.concats_from depth left ts ≡ fault n
unfolding r.concats_from
concats_off depth = off Link concat_shape (r.next_concat depth) (lawful_next_concat depth) refl extended

pub concats_stop : (depth : ℕ) (left : Expr) (ts : List Lexeme) → starts kind_of false (k.joined ∷ []) ts ≡ false → r.concats_from depth left ts ≡ read left ts
unfolding r.concats_from
concats_stop depth = stop Link concat_shape (r.next_concat depth) (lawful_next_concat depth) refl extended

-- ---- ands

abbrev and_shape : Shape
and_shape = both (leaf_shape (k.and_word ∷ [])) x.not_shape

lawful_next_and : (depth : ℕ) → Lawful kind_of (r.next_and depth)
unfolding r.next_and
lawful_next_and depth = lawful_link x.not_shape _ (lawful_nots_at (x.is_free depth) (x.inside depth) (lawful_inside depth)) (k.and_word ∷ []) k.and_word refl

pub ands_on : (depth : ℕ) (left : Expr) (v : Link) (ts mid : List Lexeme) → starts kind_of false (k.and_word ∷ []) ts ≡ true → (r.next_and depth).reads ts ≡ read v mid → r.ands_from depth left ts ≡ r.ands_from depth (extended left v) mid
unfolding r.ands_from
ands_on depth = on Link and_shape (r.next_and depth) (lawful_next_and depth) refl extended

pub ands_off : (depth : ℕ) (left : Expr) (ts : List Lexeme) (n : ℕ) → starts kind_of false (k.and_word ∷ []) ts ≡ true → (r.next_and depth).reads ts ≡ fault n → r.ands_from depth left ts ≡ fault n
unfolding r.ands_from
ands_off depth = off Link and_shape (r.next_and depth) (lawful_next_and depth) refl extended

pub ands_stop : (depth : ℕ) (left : Expr) (ts : List Lexeme) → starts kind_of false (k.and_word ∷ []) ts ≡ false → r.ands_from depth left ts ≡ read left ts
unfolding r.ands_from
ands_stop depth = stop Link and_shape (r.next_and depth) (lawful_next_and depth) refl extended

-- ---- ors

abbrev or_shape : Shape
or_shape = both (leaf_shape (k.or_word ∷ [])) x.and_shape

lawful_next_or : (depth : ℕ) → Lawful kind_of (r.next_or depth)
unfolding r.next_or
lawful_next_or depth = lawful_link x.and_shape _ (lawful_ands_at (x.is_free depth) (x.inside depth) (lawful_inside depth)) (k.or_word ∷ []) k.or_word refl

pub ors_on : (depth : ℕ) (left : Expr) (v : Link) (ts mid : List Lexeme) → starts kind_of false (k.or_word ∷ []) ts ≡ true → (r.next_or depth).reads ts ≡ read v mid → r.ors_from depth left ts ≡ r.ors_from depth (extended left v) mid
unfolding r.ors_from
ors_on depth = on Link or_shape (r.next_or depth) (lawful_next_or depth) refl extended

pub ors_off : (depth : ℕ) (left : Expr) (ts : List Lexeme) (n : ℕ) → starts kind_of false (k.or_word ∷ []) ts ≡ true → (r.next_or depth).reads ts ≡ fault n → r.ors_from depth left ts ≡ fault n
unfolding r.ors_from
ors_off depth = off Link or_shape (r.next_or depth) (lawful_next_or depth) refl extended

pub ors_stop : (depth : ℕ) (left : Expr) (ts : List Lexeme) → starts kind_of false (k.or_word ∷ []) ts ≡ false → r.ors_from depth left ts ≡ read left ts
unfolding r.ors_from
ors_stop depth = stop Link or_shape (r.next_or depth) (lawful_next_or depth) refl extended

-- ---- a list with commas between

abbrev item_shape : Shape
item_shape = both (one_of k.comma) x.or_shape

lawful_next_expr : (depth : ℕ) → Lawful kind_of (r.next_expr depth)
unfolding r.next_expr
lawful_next_expr depth = lawful_next Lexeme Expr (Unit {0}) (one_of k.comma) x.or_shape kind_of (word k.comma) (x.inside depth).whole (lawful_word k.comma refl) (lawful_inside depth).whole refl refl refl refl

pub items_on : (depth : ℕ) (xs : List Expr) (v : Expr) (ts mid : List Lexeme) → starts kind_of false (k.comma ∷ []) ts ≡ true → (r.next_expr depth).reads ts ≡ read v mid → r.items_from depth xs ts ≡ r.items_from depth (xs ++ v ∷ []) mid
unfolding r.items_from
items_on depth = many_on Lexeme Expr item_shape kind_of (r.next_expr depth) (lawful_next_expr depth) refl

pub items_off : (depth : ℕ) (xs : List Expr) (ts : List Lexeme) (n : ℕ) → starts kind_of false (k.comma ∷ []) ts ≡ true → (r.next_expr depth).reads ts ≡ fault n → r.items_from depth xs ts ≡ fault n
unfolding r.items_from
items_off depth = many_off Lexeme Expr item_shape kind_of (r.next_expr depth) (lawful_next_expr depth) refl

pub items_stop : (depth : ℕ) (xs : List Expr) (ts : List Lexeme) → starts kind_of false (k.comma ∷ []) ts ≡ false → r.items_from depth xs ts ≡ read xs ts
unfolding r.items_from
items_stop depth = many_stop Lexeme Expr item_shape kind_of (r.next_expr depth) (lawful_next_expr depth) refl
