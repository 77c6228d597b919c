-- Expressions are read lawfully, at each depth.
use Rattle.std.proofs.Common.{◌≡◌, ℕ, zero, suc, Bool, true, false, List, [], ◌∷◌, refl}
use Rattle.al_grammar.specs.Kinds.{among, apart, within}
use Rattle.al_grammar.specs.Rules.{Shape, Rule, leaf_shape, both, optional, many, at_most_once}
use Rattle.al_grammar.specs.Laws.{Lawful}
use Rattle.al_grammar.proofs.Leaf.{lawful_leaf}
use Rattle.al_grammar.proofs.Pair.{lawful_pair}
use Rattle.al_grammar.proofs.Choices.{lawful_or, lawful_optional}
use Rattle.al_grammar.proofs.Many.{lawful_many}
use Rattle.al_grammar.proofs.More.{lawful_widen}
use Rattle.al_expr.specs.declared.tree.Expr.{Expr}
use Rattle.al_expr.specs.declared.tree.Expr.TheVariants as e
use Rattle.al_expr.specs.declared.tree.Prefix.TheVariants as prefixes
use Rattle.al_phrases.specs.declared.lexeme.Lexeme.{Lexeme}
use Rattle.al_phrases.specs.declared.tail.Tail.TheVariants as tails
use Rattle.al_phrases.specs.Kinds as k
use Rattle.al_phrases.specs.Words.{kind_of, word, given, comma_shape, ◌▸◌, ◌◂◌}
use Rattle.al_phrases.specs.Types.{type_name}
use Rattle.al_phrases.specs.Rows.{extended, prefixed, cast_to, tested, in_turn}
use Rattle.al_phrases.specs.Expressions as x
use Rattle.al_phrases.proofs.WordLaws.{token, lawful_each, lawful_word, lawful_front, lawful_back, lawful_commas, lawful_given}
use Rattle.al_phrases.proofs.TypeLaws.{lawful_type}

-- ---- tokens

lawful_place : (kind : ℕ) → among kind (kind ∷ []) ≡ true → Lawful kind_of (x.place_of kind)
lawful_place kind h = lawful_each ℕ (kind ∷ []) (λ t. t.place) kind h

lawful_literal : Lawful kind_of x.literal
unfolding x.literal
lawful_literal = lawful_each Expr x.literals (λ t. x.literal_of t) k.null_word refl

lawful_column : Lawful kind_of x.column
unfolding x.column
lawful_column = lawful_leaf Lexeme Expr kind_of k.column_names (λ t. x.bare t.called (e.Column t.place t.text)) (token k.name) (e.Column 0 []) refl refl

lawful_dated : Lawful kind_of x.dated
unfolding x.dated x.date_leaf x.date_text
lawful_dated =
    lawful_pair _ _ _ _ _ _ kind_of _ _ x.dated_by
    (lawful_leaf Lexeme (ℕ × List ℕ) kind_of (k.date_word ∷ []) (λ t. x.bare t.called (t.place, t.text)) (token k.date_word) (0, []) refl refl)
    (lawful_optional _ _ _ kind_of _ (lawful_each (List ℕ) (k.text_token ∷ []) (λ t. t.text) k.text_token refl) refl)
    refl

lawful_paren : (free : Bool) → Lawful kind_of (x.paren free)
lawful_paren true = lawful_widen _ _ _ (leaf_shape x.parens) kind_of (word k.left_paren) (lawful_word k.left_paren refl) (λ h. h) refl refl
lawful_paren false = lawful_widen _ _ _ (leaf_shape x.parens) kind_of (word k.deep_paren) (lawful_word k.deep_paren refl) (λ h. h) refl refl

lawful_sign : (free : Bool) → Lawful kind_of (x.sign free)
lawful_sign true = lawful_widen _ _ _ (leaf_shape x.signs) kind_of _ (lawful_each _ (k.minus ∷ k.plus ∷ []) (λ t. (t.place, x.sign_named t.kind)) k.minus refl) (λ h. h) refl refl
lawful_sign false = lawful_widen _ _ _ (leaf_shape x.signs) kind_of _ (lawful_each _ (k.deep_sign ∷ []) (λ t. (t.place, prefixes.Minus)) k.deep_sign refl) (λ h. h) refl refl

lawful_not_sign : (free : Bool) → Lawful kind_of (x.not_sign free)
lawful_not_sign true = lawful_widen _ _ _ (leaf_shape x.nots) kind_of _ (lawful_each _ (k.not_word ∷ []) (λ t. (t.place, prefixes.Not)) k.not_word refl) (λ h. h) refl refl
lawful_not_sign false = lawful_widen _ _ _ (leaf_shape x.nots) kind_of _ (lawful_each _ (k.deep_not ∷ []) (λ t. (t.place, prefixes.Not)) k.deep_not refl) (λ h. h) refl refl

-- ---- what stands in parentheses

lawful_in_parens : (A : Type 0) (s : Shape) (free : Bool) (p : Rule Lexeme s A) → Lawful kind_of p → apart s.after (k.right_paren ∷ []) ≡ true → Lawful kind_of (x.in_parens free p)
lawful_in_parens A s free p pl ok = lawful_pair _ _ _ _ _ _ kind_of (x.paren free) (p ◂ k.right_paren) (λ u v. v) (lawful_paren free) (lawful_back A s p pl k.right_paren refl ok) refl

lawful_items : (inner : Rule Lexeme x.or_shape Expr) → Lawful kind_of inner → Lawful kind_of (x.items inner)
unfolding x.items
lawful_items inner il = lawful_commas Expr x.or_shape inner il refl refl refl

lawful_cast : (free : Bool) (inner : Rule Lexeme x.or_shape Expr) → Lawful kind_of inner → Lawful kind_of (x.cast_call free inner)
unfolding x.cast_call
lawful_cast free inner il =
    let kind = lawful_front _ _ type_name lawful_type k.as_word refl in
    let body = lawful_pair _ _ _ _ _ _ kind_of inner (k.as_word ▸ type_name) (λ a b. (a, b)) il kind refl in
    lawful_pair _ _ _ _ _ _ kind_of (x.place_of k.cast_word) _ x.cast_value (lawful_place k.cast_word refl) (lawful_in_parens _ x.cast_body_shape free _ body refl) refl

lawful_coalesce : (free : Bool) (inner : Rule Lexeme x.or_shape Expr) → Lawful kind_of inner → Lawful kind_of (x.coalesce_call free inner)
unfolding x.coalesce_call
lawful_coalesce free inner il =
    lawful_pair _ _ _ _ _ _ kind_of (x.place_of k.coalesce_call) _ (λ place items. e.Coalesce place items) (lawful_place k.coalesce_call refl)
    (lawful_in_parens _ (comma_shape x.or_shape) free _ (lawful_items inner il) refl) refl

lawful_function : (free : Bool) (inner : Rule Lexeme x.or_shape Expr) → Lawful kind_of inner → Lawful kind_of (x.function_call free inner)
unfolding x.function_call x.function_word
lawful_function free inner il =
    lawful_pair _ _ _ _ _ _ kind_of _ _ x.function_value (lawful_each _ x.functions (λ t. (t.place, t.kind)) k.abs_call refl)
    (lawful_in_parens _ x.or_shape free inner il refl) refl

lawful_atom : (free : Bool) (inner : Rule Lexeme x.or_shape Expr) → Lawful kind_of inner → Lawful kind_of (x.atom free inner)
unfolding x.atom
lawful_atom free inner il =
    let group = lawful_or _ _ _ _ kind_of _ _ (lawful_in_parens _ x.or_shape free inner il refl) lawful_column refl refl refl in
    let one = lawful_or _ _ _ _ kind_of _ _ (lawful_function free inner il) group refl refl refl in
    let two = lawful_or _ _ _ _ kind_of _ _ (lawful_coalesce free inner il) one refl refl refl in
    let three = lawful_or _ _ _ _ kind_of _ _ (lawful_cast free inner il) two refl refl refl in
    let four = lawful_or _ _ _ _ kind_of _ _ lawful_dated three refl refl refl in
    let five = lawful_or _ _ _ _ kind_of _ _ lawful_literal four refl refl refl in
    lawful_widen _ _ _ x.atom_shape kind_of _ five (λ h. h) refl refl

-- ---- levels

pub lawful_cast_suffix : Lawful kind_of x.cast_suffix
unfolding x.cast_suffix
lawful_cast_suffix = lawful_pair _ _ _ _ _ _ kind_of (x.place_of k.cast_sign) type_name (λ place kind. (place, kind)) (lawful_place k.cast_sign refl) lawful_type refl

lawful_post : (a : Rule Lexeme x.atom_shape Expr) → Lawful kind_of a → Lawful kind_of (x.post a)
unfolding x.post
lawful_post a al =
    let casts = lawful_many _ _ x.cast_sign_shape kind_of x.cast_suffix lawful_cast_suffix refl refl in
    lawful_widen _ _ _ x.post_shape kind_of _ (lawful_pair _ _ _ _ _ _ kind_of a (many kind_of x.cast_suffix) (in_turn cast_to) al casts refl) (λ h. h) refl refl

lawful_signed : (free : Bool) (inner : Rule Lexeme x.sign_shape Expr) (p : Rule Lexeme x.post_shape Expr) → Lawful kind_of inner → Lawful kind_of p → Lawful kind_of (x.signed free inner p)
lawful_signed free inner p il pl =
    let with_sign = lawful_pair _ _ _ _ _ _ kind_of (x.sign free) inner (λ prefix y. prefixed y prefix) (lawful_sign free) il refl in
    lawful_widen _ _ _ x.sign_shape kind_of _ (lawful_or _ _ _ _ kind_of _ p with_sign pl refl refl refl) (λ h. h) refl refl

module _ (s : Shape) (p : Rule Lexeme s Expr) (pl : Lawful kind_of p) (kinds : List ℕ) (one : ℕ) (there : among one kinds ≡ true) where
  pub lawful_link : Lawful kind_of (x.link kinds p)
  lawful_link = lawful_pair _ _ _ _ _ _ kind_of (x.operator kinds) p (λ o y. (o.0, o.1, y)) (lawful_each _ kinds (λ t. (t.place, x.operator_named t.kind)) one there) pl refl

  pub lawful_row : (w : Shape) → apart (both (leaf_shape kinds) s).after (both (leaf_shape kinds) s).first ≡ true → apart s.after (both (leaf_shape kinds) s).first ≡ true
      → (both s (at_most_once (both (leaf_shape kinds) s))).empty ≡ false → within (both s (at_most_once (both (leaf_shape kinds) s))).first w.first ≡ true
      → within (both s (at_most_once (both (leaf_shape kinds) s))).after w.after ≡ true → Lawful kind_of (x.row w kinds p)
  lawful_row w again onto some first after =
      let links = lawful_many _ _ (both (leaf_shape kinds) s) kind_of (x.link kinds p) lawful_link refl again in
      lawful_widen _ _ _ w kind_of _ (lawful_pair _ _ _ _ _ _ kind_of p (many kind_of (x.link kinds p)) (in_turn extended) pl links onto) (never some) first after
    where
      never : {b c : Bool} → b ≡ false → b ≡ true → c ≡ true
      never e h = absurd (cc (e, h))

module _ (free : Bool) (inner : Rule Lexeme x.or_shape Expr) (il : Lawful kind_of inner) (cat : Rule Lexeme x.concat_shape Expr) (cl : Lawful kind_of cat) where
  lawful_between : Lawful kind_of (x.between_tail cat)
  unfolding x.between_tail
  lawful_between =
      let ends = lawful_pair _ _ _ _ _ _ kind_of cat (k.and_word ▸ cat) (λ low high. (low, high)) cl (lawful_front _ _ cat cl k.and_word refl) refl in
      lawful_pair _ _ _ _ _ _ kind_of (x.place_of k.between_word) _ x.between_of (lawful_place k.between_word refl) ends refl

  lawful_in : Lawful kind_of (x.in_tail free inner)
  unfolding x.in_tail
  lawful_in =
      lawful_pair _ _ _ _ _ _ kind_of (x.place_of k.in_word) _ (λ place items. tails.In place false items) (lawful_place k.in_word refl)
      (lawful_in_parens _ (comma_shape x.or_shape) free _ (lawful_items inner il) refl) refl

  lawful_plain_tail : Lawful kind_of (x.plain_tail free inner cat)
  unfolding x.plain_tail
  lawful_plain_tail = lawful_widen _ _ _ x.plain_tail_shape kind_of _ (lawful_or _ _ _ _ kind_of _ _ lawful_between lawful_in refl refl refl) (λ h. h) refl refl

  lawful_tail : Lawful kind_of (x.tail free inner cat)
  unfolding x.tail
  lawful_tail =
      let other = lawful_pair _ _ _ _ _ _ kind_of (x.place_of k.not_word) _ x.negated_at (lawful_place k.not_word refl) lawful_plain_tail refl in
      lawful_widen _ _ _ x.tail_shape kind_of _ (lawful_or _ _ _ _ kind_of _ _ other lawful_plain_tail refl refl refl) (λ h. h) refl refl

  pub lawful_range : Lawful kind_of (x.range free inner cat)
  lawful_range =
      lawful_widen _ _ _ x.range_shape kind_of _
      (lawful_pair _ _ _ _ _ _ kind_of cat (optional kind_of (x.tail free inner cat)) x.with_tail cl (lawful_optional _ _ _ kind_of _ lawful_tail refl) refl)
      (λ h. h) refl refl

lawful_compared : (p : Rule Lexeme x.range_shape Expr) → Lawful kind_of p → Lawful kind_of (x.compared p)
lawful_compared p pl =
    let other = lawful_optional _ _ _ kind_of _ (lawful_link _ p pl x.comparisons_signs k.equal refl) refl in
    lawful_widen _ _ _ x.compare_shape kind_of _ (lawful_pair _ _ _ _ _ _ kind_of p (optional kind_of (x.link x.comparisons_signs p)) x.with_link pl other refl) (λ h. h) refl refl

pub lawful_null_test : Lawful kind_of x.null_test
unfolding x.null_test
lawful_null_test =
    lawful_pair _ _ _ _ _ _ kind_of (x.place_of k.is_word) _ (λ place negated. (place, negated)) (lawful_place k.is_word refl)
    (lawful_back _ _ (given k.not_word) (lawful_given k.not_word refl) k.null_word refl refl) refl

lawful_is_tested : (p : Rule Lexeme x.compare_shape Expr) → Lawful kind_of p → Lawful kind_of (x.is_tested p)
lawful_is_tested p pl =
    let tests = lawful_many _ _ x.null_test_shape kind_of x.null_test lawful_null_test refl refl in
    lawful_widen _ _ _ x.is_shape kind_of _ (lawful_pair _ _ _ _ _ _ kind_of p (many kind_of x.null_test) (in_turn tested) pl tests refl) (λ h. h) refl refl

lawful_negated : (free : Bool) (inner : Rule Lexeme x.not_shape Expr) (p : Rule Lexeme x.is_shape Expr) → Lawful kind_of inner → Lawful kind_of p → Lawful kind_of (x.negated free inner p)
lawful_negated free inner p il pl =
    let with_not = lawful_pair _ _ _ _ _ _ kind_of (x.not_sign free) inner (λ prefix y. prefixed y prefix) (lawful_not_sign free) il refl in
    lawful_widen _ _ _ x.not_shape kind_of _ (lawful_or _ _ _ _ kind_of _ p with_not pl refl refl refl) (λ h. h) refl refl

-- ---- all levels at a depth

-- what is inside is read lawfully
pub record InnerLaws (inner : x.Inner) : Type 0 where
  pub whole : Lawful kind_of inner.whole
  pub negated : Lawful kind_of inner.negated
  pub signed : Lawful kind_of inner.signed

module _ (free : Bool) (inner : x.Inner) (laws : InnerLaws inner) where
  pub lawful_signs_at : Lawful kind_of (x.signs_at free inner)
  unfolding x.signs_at
  lawful_signs_at = lawful_signed free inner.signed _ laws.signed (lawful_post _ (lawful_atom free inner.whole laws.whole))

  pub lawful_products_at : Lawful kind_of (x.products_at free inner)
  unfolding x.products_at
  lawful_products_at = lawful_row _ _ lawful_signs_at x.products k.star refl x.product_shape refl refl refl refl refl

  pub lawful_sums_at : Lawful kind_of (x.sums_at free inner)
  unfolding x.sums_at
  lawful_sums_at = lawful_row _ _ lawful_products_at x.sums k.plus refl x.sum_shape refl refl refl refl refl

  pub lawful_concats_at : Lawful kind_of (x.concats_at free inner)
  unfolding x.concats_at
  lawful_concats_at = lawful_row _ _ lawful_sums_at (k.joined ∷ []) k.joined refl x.concat_shape refl refl refl refl refl

  pub lawful_ranges_at : Lawful kind_of (x.ranges_at free inner)
  unfolding x.ranges_at
  lawful_ranges_at = lawful_range free inner.whole laws.whole _ lawful_concats_at

  pub lawful_comparisons_at : Lawful kind_of (x.comparisons_at free inner)
  unfolding x.comparisons_at
  lawful_comparisons_at = lawful_compared _ lawful_ranges_at

  pub lawful_tests_at : Lawful kind_of (x.tests_at free inner)
  unfolding x.tests_at
  lawful_tests_at = lawful_is_tested _ lawful_comparisons_at

  pub lawful_nots_at : Lawful kind_of (x.nots_at free inner)
  unfolding x.nots_at
  lawful_nots_at = lawful_negated free inner.negated _ laws.negated lawful_tests_at

  pub lawful_ands_at : Lawful kind_of (x.ands_at free inner)
  unfolding x.ands_at
  lawful_ands_at = lawful_row _ _ lawful_nots_at (k.and_word ∷ []) k.and_word refl x.and_shape refl refl refl refl refl

  pub lawful_ors_at : Lawful kind_of (x.ors_at free inner)
  unfolding x.ors_at
  lawful_ors_at = lawful_row _ _ lawful_ands_at (k.or_word ∷ []) k.or_word refl x.or_shape refl refl refl refl refl

pub lawful_inside : (depth : ℕ) → InnerLaws (x.inside depth)
lawful_inside zero = record {
  whole = lawful_widen _ _ _ x.or_shape kind_of x.column lawful_column (λ h. h) refl refl;
  negated = lawful_widen _ _ _ x.not_shape kind_of x.column lawful_column (λ h. h) refl refl;
  signed = lawful_widen _ _ _ x.sign_shape kind_of x.column lawful_column (λ h. h) refl refl;
}
lawful_inside (suc depth) = record {
  whole = lawful_ors_at (x.is_free depth) (x.inside depth) (lawful_inside depth);
  negated = lawful_nots_at (x.is_free depth) (x.inside depth) (lawful_inside depth);
  signed = lawful_signs_at (x.is_free depth) (x.inside depth) (lawful_inside depth);
}

-- Expressions at each depth.
pub lawful_expression : (depth : ℕ) → Lawful kind_of (x.expression depth)
unfolding x.expression
lawful_expression depth = lawful_ors_at (x.is_free depth) (x.inside depth) (lawful_inside depth)

pub lawful_concatenation : (depth : ℕ) → Lawful kind_of (x.concatenation depth)
unfolding x.concatenation
lawful_concatenation depth = lawful_concats_at (x.is_free depth) (x.inside depth) (lawful_inside depth)
