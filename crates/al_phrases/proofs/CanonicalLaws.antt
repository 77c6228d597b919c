-- Each expression that the grammar means is canonical.
use Rattle.std.proofs.Common.{◌≡◌, ℕ, zero, suc, Bool, true, false, List, [], ◌∷◌, refl, sym, subst, ◌∙◌, Option, Some, None, Result, Ok, Err, inl, inr}
use Rattle.std.specs.Prelude.{◌&&◌, IfOk, if◌then◌else◌, ◌==◌}
use denote.Ref.{Bor}
use Rattle.al_values.specs.declared.cant.Cant.{Cant}
use Rattle.al_values.specs.declared.scalar.Value.TheVariants as values
use Rattle.al_grammar.specs.Rules.{Shape, Rule, left_out, there, none, one_more, pair, or, optional, many, leaf, next_item}
use Rattle.al_grammar.specs.Gives.{GivesStep}
use Rattle.al_grammar.specs.Laws.{Lawful}
use Rattle.al_values.specs.declared.kinds.Kind.{Kind}
use Rattle.al_expr.specs.declared.tree.Prefix.{Prefix}
use Rattle.al_expr.specs.declared.tree.Expr.{Expr}
use Rattle.al_expr.specs.declared.tree.Expr.TheVariants as e
use Rattle.al_phrases.specs.declared.lexeme.Lexeme.{Lexeme}
use Rattle.al_phrases.specs.declared.tail.Tail.{Tail}
use Rattle.al_phrases.specs.declared.tail.Tail.TheVariants as tails
use Rattle.al_phrases.specs.Kinds as k
use Rattle.al_phrases.specs.Words.{kind_of, word, ◌▸◌, ◌◂◌}
use Rattle.al_phrases.specs.Types.{type_name}
use Rattle.al_phrases.specs.Rows.{Link, extended, prefixed, cast_to, tested, in_turn}
use Rattle.al_phrases.specs.Expressions as x
use Rattle.al_phrases.specs.Canonical.{is_canonical}
use Rattle.al_phrases.proofs.CanonicalNodes as node
use Rattle.al_phrases.proofs.CanonicalRows.{canonical_extended, canonical_prefix, canonical_cast, canonical_test, All_of, in_turn_keeps, items_all}
use Rattle.al_phrases.proofs.ExpressionLaws.{lawful_ors_at, lawful_concats_at, lawful_inside}

-- ---- what a rule makes

-- each value that a rule means is such
abbrev Makes : {A : Type 0} {s : Shape} → (A → Type 0) → Rule Lexeme s A → Type 0
Makes {A = A} P p = (text : List Lexeme) (v : A) → p.Is text v → P v

abbrev Is_whole : Expr → Type 0
Is_whole v = is_canonical v ≡ true

abbrev Any : {A : Type 0} → A → Type 0
Any v = Unit {0}

makes_any : (A : Type 0) (s : Shape) (p : Rule Lexeme s A) → Makes Any p
makes_any A s p text v is = tt

makes_leaf : (A : Type 0) (P : A → Type 0) (kinds : List ℕ) (of : Lexeme → Option A) → ((t : Lexeme) (v : A) → of t ≡ Some v → P v) → Makes P (leaf kind_of kinds of)
makes_leaf A P kinds of each text v is = each is.token v is.value_is

makes_pair : (A B C : Type 0) (s u : Shape) (P : A → Type 0) (Q : B → Type 0) (R : C → Type 0) (p : Rule Lexeme s A) (q : Rule Lexeme u B) (join : A → B → C)
    → Makes P p → Makes Q q → ((a : A) (b : B) → P a → Q b → R (join a b)) → Makes R (pair join p q)
makes_pair A B C s u P Q R p q join ps qs joins text v is =
    subst R (sym is.value_is) (joins is.first is.second (ps is.front is.first is.first_is) (qs is.back is.second is.second_is))

makes_or : (A : Type 0) (s u : Shape) (P : A → Type 0) (p : Rule Lexeme s A) (q : Rule Lexeme u A) → Makes P p → Makes P q → Makes P (or kind_of p q)
makes_or A s u P p q ps qs text v (inl is) = ps text v is
makes_or A s u P p q ps qs text v (inr is) = qs text v is

abbrev If_there : {A : Type 0} → (A → Type 0) → Option A → Type 0
If_there P None = Unit {0}
If_there P (Some v) = P v

makes_optional : (A : Type 0) (s : Shape) (P : A → Type 0) (p : Rule Lexeme s A) → Makes P p → Makes (If_there P) (optional kind_of p)
makes_optional A s P p ps text v left_out = tt
makes_optional A s P p ps text v (there at_text w is) = ps at_text w is

makes_many : (A : Type 0) (s : Shape) (P : A → Type 0) (p : Rule Lexeme s A) → Makes P p → Makes (All_of P) (many kind_of p)
makes_many A s P p ps text vs none = tt
makes_many A s P p ps text vs (one_more t front back w ws split is more) = (ps front w is, makes_many A s P p ps back ws more)

makes_front : (A : Type 0) (s : Shape) (P : A → Type 0) (kind : ℕ) (p : Rule Lexeme s A) → Makes P p → Makes P (kind ▸ p)
makes_front A s P kind p ps = makes_pair (Unit {0}) A A _ s Any P P (word kind) p (λ u v. v) (makes_any _ _ (word kind)) ps (λ u v a b. b)

makes_back : (A : Type 0) (s : Shape) (P : A → Type 0) (p : Rule Lexeme s A) (kind : ℕ) → Makes P p → Makes P (p ◂ kind)
makes_back A s P p kind ps = makes_pair A (Unit {0}) A s _ P Any P p (word kind) (λ v u. v) ps (makes_any _ _ (word kind)) (λ v u a b. a)

-- ---- atoms

makes_literal : Makes Is_whole x.literal
unfolding x.literal
makes_literal = makes_leaf Expr Is_whole x.literals (λ t. Some (x.literal_of t)) (λ t v is. one t v is) where
  of_value : (place : ℕ) (t : Lexeme) (b c d f : Bool) → Is_whole (if b then e.Literal place (values.Int t.number) else (if c then e.Literal place (values.Text t.text) else (if d then e.Literal place (values.Bool true) else (if f then e.Literal place (values.Bool false) else e.Literal place values.Null))))
  of_value place t true c d f = node.canonical_literal _ _
  of_value place t false true d f = node.canonical_literal _ _
  of_value place t false false true f = node.canonical_literal _ _
  of_value place t false false false true = node.canonical_literal _ _
  of_value place t false false false false = node.canonical_literal _ _

  one : (t : Lexeme) (v : Expr) → Some (x.literal_of t) ≡ Some v → Is_whole v
  one t v is = let same : x.literal_of t ≡ v = cc in subst Is_whole same (of_value t.place t (t.kind == k.integer_token) (t.kind == k.text_token) (t.kind == k.true_word) (t.kind == k.false_word))

bare_column : (b : Bool) (place : ℕ) (name : List ℕ) (v : Expr) → x.bare b (e.Column place name) ≡ Some v → Is_whole v
bare_column true place name v is = absurd cc
bare_column false place name v is = let same : e.Column place name ≡ v = cc in subst Is_whole same (node.canonical_column place name)

makes_column : Makes Is_whole x.column
unfolding x.column
makes_column = makes_leaf Expr Is_whole k.column_names (λ t. x.bare t.called (e.Column t.place t.text)) (λ t v is. bare_column t.called t.place t.text v is)

makes_dated : Makes Is_whole x.dated
unfolding x.dated
makes_dated = makes_pair (ℕ × List ℕ) (Option (List ℕ)) Expr _ _ Any Any Is_whole x.date_leaf x.date_text x.dated_by (makes_any _ _ x.date_leaf) (makes_any _ _ x.date_text) joins where
  joins : (a : ℕ × List ℕ) (b : Option (List ℕ)) → Any a → Any b → Is_whole (x.dated_by a b)
  joins a None p q = node.canonical_column a.0 a.1
  joins a (Some text) p q = node.canonical_date a.0 text

makes_in_parens : (A : Type 0) (s : Shape) (P : A → Type 0) (free : Bool) (p : Rule Lexeme s A) → Makes P p → Makes P (x.in_parens free p)
makes_in_parens A s P free p ps = makes_pair (Unit {0}) A A _ _ Any P P (x.paren free) (p ◂ k.right_paren) (λ u v. v) (makes_any _ _ (x.paren free)) (makes_back A s P p k.right_paren ps) (λ u v a b. b)

module _ (free : Bool) (inner : Rule Lexeme x.or_shape Expr) (inner_makes : Makes Is_whole inner) where
  makes_items : Makes (All_of Is_whole) (x.items inner)
  unfolding x.items
  makes_items =
      makes_pair Expr (List Expr) (List Expr) _ _ Is_whole (All_of Is_whole) (All_of Is_whole) inner (many kind_of (next_item (word k.comma) inner)) (λ y ys. y ∷ ys) inner_makes
      (makes_many Expr _ Is_whole (next_item (word k.comma) inner) (makes_pair (Unit {0}) Expr Expr _ _ Any Is_whole Is_whole (word k.comma) inner (λ o y. y) (makes_any _ _ (word k.comma)) inner_makes (λ u v a b. b)))
      (λ y ys a b. (a, b))

  makes_cast : Makes Is_whole (x.cast_call free inner)
  unfolding x.cast_call
  makes_cast =
      let body = pair (λ y kind. (y, kind)) inner (k.as_word ▸ type_name) in
      makes_pair ℕ (Expr × Kind) Expr _ _ Any (λ y. Is_whole y.0) Is_whole (x.place_of k.cast_word) (x.in_parens free body) x.cast_value (makes_any _ _ (x.place_of k.cast_word))
      (makes_in_parens (Expr × Kind) _ (λ y. Is_whole y.0) free body (makes_pair Expr Kind (Expr × Kind) _ _ Is_whole Any (λ y. Is_whole y.0) inner (k.as_word ▸ type_name) (λ y kind. (y, kind)) inner_makes (makes_any _ _ (k.as_word ▸ type_name)) (λ y kind a b. a)))
      (λ place y a b. canonical_cast y.0 b (place, y.1))

  makes_coalesce : Makes Is_whole (x.coalesce_call free inner)
  unfolding x.coalesce_call
  makes_coalesce =
      makes_pair ℕ (List Expr) Expr _ _ Any (All_of Is_whole) Is_whole (x.place_of k.coalesce_call) (x.in_parens free (x.items inner)) (λ place items. e.Coalesce place items) (makes_any _ _ (x.place_of k.coalesce_call))
      (makes_in_parens _ _ (All_of Is_whole) free (x.items inner) makes_items)
      (λ place items a b. node.canonical_coalesce place items ∙ items_all items b)

  makes_function : Makes Is_whole (x.function_call free inner)
  unfolding x.function_call
  makes_function =
      makes_pair (ℕ × ℕ) Expr Expr _ _ Any Is_whole Is_whole x.function_word (x.in_parens free inner) x.function_value (makes_any _ _ x.function_word) (makes_in_parens _ _ Is_whole free inner inner_makes) joins
    where
      by_word : (b : Bool) (place : ℕ) (y : Expr) → Is_whole y → Is_whole (if b then e.Abs place y else e.Length place y)
      by_word true place y is = node.canonical_abs place y ∙ is
      by_word false place y is = node.canonical_length place y ∙ is

      joins : (w : ℕ × ℕ) (y : Expr) → Any w → Is_whole y → Is_whole (x.function_value w y)
      joins w y a b = by_word (w.1 == k.abs_call) w.0 y b

  makes_atom : Makes Is_whole (x.atom free inner)
  unfolding x.atom
  makes_atom =
      let group = or kind_of (x.in_parens free inner) x.column in
      let one = or kind_of (x.function_call free inner) group in
      let two = or kind_of (x.coalesce_call free inner) one in
      let three = or kind_of (x.cast_call free inner) two in
      let four = or kind_of x.dated three in
      makes_or Expr _ _ Is_whole x.literal four makes_literal
      (makes_or Expr _ _ Is_whole x.dated three makes_dated
      (makes_or Expr _ _ Is_whole (x.cast_call free inner) two makes_cast
      (makes_or Expr _ _ Is_whole (x.coalesce_call free inner) one makes_coalesce
      (makes_or Expr _ _ Is_whole (x.function_call free inner) group makes_function
      (makes_or Expr _ _ Is_whole (x.in_parens free inner) x.column (makes_in_parens Expr _ Is_whole free inner inner_makes) makes_column)))))

-- ---- levels

makes_post : (a : Rule Lexeme x.atom_shape Expr) → Makes Is_whole a → Makes Is_whole (x.post a)
unfolding x.post
makes_post a am =
    makes_pair Expr _ Expr _ _ Is_whole (All_of Any) Is_whole a (many kind_of x.cast_suffix) (in_turn cast_to) am (makes_many _ _ Any x.cast_suffix (makes_any _ _ x.cast_suffix))
    (λ y ys a b. in_turn_keeps _ Expr Any Is_whole cast_to (λ y cast a b. canonical_cast y a cast) y ys a b)

makes_signed : (free : Bool) (inner : Rule Lexeme x.sign_shape Expr) (p : Rule Lexeme x.post_shape Expr) → Makes Is_whole inner → Makes Is_whole p → Makes Is_whole (x.signed free inner p)
makes_signed free inner p im pm =
    makes_or Expr _ _ Is_whole (pair (λ prefix y. prefixed y prefix) (x.sign free) inner) p
    (makes_pair (ℕ × Prefix) Expr Expr _ _ Any Is_whole Is_whole (x.sign free) inner (λ prefix y. prefixed y prefix) (makes_any _ _ (x.sign free)) im (λ prefix y a b. canonical_prefix y b prefix)) pm

makes_link : (s : Shape) (kinds : List ℕ) (p : Rule Lexeme s Expr) → Makes Is_whole p → Makes (λ l. Is_whole l.2) (x.link kinds p)
makes_link s kinds p pm = makes_pair _ Expr Link _ _ Any Is_whole (λ l. Is_whole l.2) (x.operator kinds) p (λ o y. (o.0, o.1, y)) (makes_any _ _ (x.operator kinds)) pm (λ o y a b. b)

makes_row : (s : Shape) (w : Shape) (kinds : List ℕ) (p : Rule Lexeme s Expr) → Makes Is_whole p → Makes Is_whole (x.row w kinds p)
makes_row s w kinds p pm =
    makes_pair Expr (List Link) Expr _ _ Is_whole (All_of (λ l. Is_whole l.2)) Is_whole p (many kind_of (x.link kinds p)) (in_turn extended) pm
    (makes_many Link _ (λ l. Is_whole l.2) (x.link kinds p) (makes_link s kinds p pm))
    (λ y ys a b. in_turn_keeps Link Expr (λ l. Is_whole l.2) Is_whole extended canonical_extended y ys a b)

abbrev Is_whole_tail : Tail → Type 0
Is_whole_tail (tails.Between place negated low high) = Is_whole low × Is_whole high
Is_whole_tail (tails.In place negated items) = All_of Is_whole items

module _ (free : Bool) (inner : Rule Lexeme x.or_shape Expr) (im : Makes Is_whole inner) (cat : Rule Lexeme x.concat_shape Expr) (cm : Makes Is_whole cat) where
  makes_between : Makes Is_whole_tail (x.between_tail cat)
  unfolding x.between_tail
  makes_between =
      makes_pair ℕ (Expr × Expr) Tail _ _ Any (λ ends. Is_whole ends.0 × Is_whole ends.1) Is_whole_tail (x.place_of k.between_word) (pair (λ low high. (low, high)) cat (k.and_word ▸ cat)) x.between_of (makes_any _ _ (x.place_of k.between_word))
      (makes_pair Expr Expr (Expr × Expr) _ _ Is_whole Is_whole (λ ends. Is_whole ends.0 × Is_whole ends.1) cat (k.and_word ▸ cat) (λ low high. (low, high)) cm (makes_front Expr _ Is_whole k.and_word cat cm) (λ low high a b. (a, b)))
      (λ place ends a b. b)

  makes_in : Makes Is_whole_tail (x.in_tail free inner)
  unfolding x.in_tail
  makes_in =
      makes_pair ℕ (List Expr) Tail _ _ Any (All_of Is_whole) Is_whole_tail (x.place_of k.in_word) (x.in_parens free (x.items inner)) (λ place items. tails.In place false items) (makes_any _ _ (x.place_of k.in_word))
      (makes_in_parens _ _ (All_of Is_whole) free (x.items inner) (makes_items free inner im)) (λ place items a b. b)

  makes_plain_tail : Makes Is_whole_tail (x.plain_tail free inner cat)
  unfolding x.plain_tail
  makes_plain_tail = makes_or Tail _ _ Is_whole_tail (x.between_tail cat) (x.in_tail free inner) makes_between makes_in

  makes_tail : Makes Is_whole_tail (x.tail free inner cat)
  unfolding x.tail
  makes_tail =
      makes_or Tail _ _ Is_whole_tail (pair x.negated_at (x.place_of k.not_word) (x.plain_tail free inner cat)) (x.plain_tail free inner cat)
      (makes_pair ℕ Tail Tail _ _ Any Is_whole_tail Is_whole_tail (x.place_of k.not_word) (x.plain_tail free inner cat) x.negated_at (makes_any _ _ (x.place_of k.not_word)) makes_plain_tail turned) makes_plain_tail
    where
      turned : (place : ℕ) (t : Tail) → Any place → Is_whole_tail t → Is_whole_tail (x.negated_at place t)
      turned place (tails.Between at_place negated low high) a b = b
      turned place (tails.In at_place negated items) a b = b

  makes_range : Makes Is_whole (x.range free inner cat)
  makes_range = makes_pair Expr (Option Tail) Expr _ _ Is_whole (If_there Is_whole_tail) Is_whole cat (optional kind_of (x.tail free inner cat)) x.with_tail cm (makes_optional Tail _ Is_whole_tail (x.tail free inner cat) makes_tail) joins where
    two : {a b : Bool} → a ≡ true → b ≡ true → (a && b) ≡ true
    two a b = rw (a, b) refl

    joins : (y : Expr) (t : Option Tail) → Is_whole y → If_there Is_whole_tail t → Is_whole (x.with_tail y t)
    joins y None a b = a
    joins y (Some (tails.Between place negated low high)) a b = node.canonical_between place negated y low high ∙ two a (two b.0 b.1)
    joins y (Some (tails.In place negated items)) a b = node.canonical_in place negated y items ∙ two a (items_all items b)

makes_compared : (p : Rule Lexeme x.range_shape Expr) → Makes Is_whole p → Makes Is_whole (x.compared p)
makes_compared p pm = makes_pair Expr (Option Link) Expr _ _ Is_whole (If_there (λ l. Is_whole l.2)) Is_whole p (optional kind_of (x.link x.comparisons_signs p)) x.with_link pm (makes_optional Link _ (λ l. Is_whole l.2) (x.link x.comparisons_signs p) (makes_link _ x.comparisons_signs p pm)) joins where
  joins : (y : Expr) (l : Option Link) → Is_whole y → If_there (λ (l : Link). Is_whole l.2) l → Is_whole (x.with_link y l)
  joins y None a b = a
  joins y (Some l) a b = canonical_extended y l a b

makes_is_tested : (p : Rule Lexeme x.compare_shape Expr) → Makes Is_whole p → Makes Is_whole (x.is_tested p)
makes_is_tested p pm =
    makes_pair Expr _ Expr _ _ Is_whole (All_of Any) Is_whole p (many kind_of x.null_test) (in_turn tested) pm (makes_many _ _ Any x.null_test (makes_any _ _ x.null_test))
    (λ y ys a b. in_turn_keeps _ Expr Any Is_whole tested (λ y test a b. canonical_test y a test) y ys a b)

makes_negated : (free : Bool) (inner : Rule Lexeme x.not_shape Expr) (p : Rule Lexeme x.is_shape Expr) → Makes Is_whole inner → Makes Is_whole p → Makes Is_whole (x.negated free inner p)
makes_negated free inner p im pm =
    makes_or Expr _ _ Is_whole (pair (λ prefix y. prefixed y prefix) (x.not_sign free) inner) p
    (makes_pair (ℕ × Prefix) Expr Expr _ _ Any Is_whole Is_whole (x.not_sign free) inner (λ prefix y. prefixed y prefix) (makes_any _ _ (x.not_sign free)) im (λ prefix y a b. canonical_prefix y b prefix)) pm

-- ---- all levels at a depth

record InnerMakes (inner : x.Inner) : Type 0 where
  pub whole : Makes Is_whole inner.whole
  pub negated : Makes Is_whole inner.negated
  pub signed : Makes Is_whole inner.signed

module _ (free : Bool) (inner : x.Inner) (im : InnerMakes inner) where
  makes_signs_at : Makes Is_whole (x.signs_at free inner)
  unfolding x.signs_at
  makes_signs_at = makes_signed free inner.signed (x.post (x.atom free inner.whole)) im.signed (makes_post (x.atom free inner.whole) (makes_atom free inner.whole im.whole))

  makes_products_at : Makes Is_whole (x.products_at free inner)
  unfolding x.products_at
  makes_products_at = makes_row _ x.product_shape x.products (x.signs_at free inner) makes_signs_at

  makes_sums_at : Makes Is_whole (x.sums_at free inner)
  unfolding x.sums_at
  makes_sums_at = makes_row _ x.sum_shape x.sums (x.products_at free inner) makes_products_at

  makes_concats_at : Makes Is_whole (x.concats_at free inner)
  unfolding x.concats_at
  makes_concats_at = makes_row _ x.concat_shape (k.joined ∷ []) (x.sums_at free inner) makes_sums_at

  makes_ranges_at : Makes Is_whole (x.ranges_at free inner)
  unfolding x.ranges_at
  makes_ranges_at = makes_range free inner.whole im.whole (x.concats_at free inner) makes_concats_at

  makes_comparisons_at : Makes Is_whole (x.comparisons_at free inner)
  unfolding x.comparisons_at
  makes_comparisons_at = makes_compared (x.ranges_at free inner) makes_ranges_at

  makes_tests_at : Makes Is_whole (x.tests_at free inner)
  unfolding x.tests_at
  makes_tests_at = makes_is_tested (x.comparisons_at free inner) makes_comparisons_at

  makes_nots_at : Makes Is_whole (x.nots_at free inner)
  unfolding x.nots_at
  makes_nots_at = makes_negated free inner.negated (x.tests_at free inner) im.negated makes_tests_at

  makes_ands_at : Makes Is_whole (x.ands_at free inner)
  unfolding x.ands_at
  makes_ands_at = makes_row _ x.and_shape (k.and_word ∷ []) (x.nots_at free inner) makes_nots_at

  makes_ors_at : Makes Is_whole (x.ors_at free inner)
  unfolding x.ors_at
  makes_ors_at = makes_row _ x.or_shape (k.or_word ∷ []) (x.ands_at free inner) makes_ands_at

inside_makes : (depth : ℕ) → InnerMakes (x.inside depth)
inside_makes zero = record { whole = makes_column; negated = makes_column; signed = makes_column }
inside_makes (suc depth) = record {
  whole = makes_ors_at (x.is_free depth) (x.inside depth) (inside_makes depth);
  negated = makes_nots_at (x.is_free depth) (x.inside depth) (inside_makes depth);
  signed = makes_signs_at (x.is_free depth) (x.inside depth) (inside_makes depth);
}

-- ---- what is read

abbrev Answer : Type 0
Answer = Result (Expr × Bor (List Lexeme)) (Cant ℕ)

canonical_if : (s : Shape) (p : Rule Lexeme s Expr) → Lawful kind_of p → Makes Is_whole p → (ts : List Lexeme) (answer : Answer) → GivesStep (λ y. y.0) (λ y. y.1.now) answer (p.reads ts) → IfOk answer (λ y. is_canonical y.0 ≡ true)
canonical_if s p pl makes ts (Ok y) gives = let took = pl.takes ts _ _ gives in makes took.used y.0 took.is
canonical_if s p pl makes ts (Err cause) gives = tt

pub expression_read : (depth : ℕ) (ts : List Lexeme) (answer : Answer) → GivesStep (λ y. y.0) (λ y. y.1.now) answer ((x.ors_at (x.is_free depth) (x.inside depth)).reads ts) → IfOk answer (λ y. is_canonical y.0 ≡ true)
expression_read depth = canonical_if _ _ (lawful_ors_at _ _ (lawful_inside depth)) (makes_ors_at _ _ (inside_makes depth))

pub concatenation_read : (depth : ℕ) (ts : List Lexeme) (answer : Answer) → GivesStep (λ y. y.0) (λ y. y.1.now) answer ((x.concats_at (x.is_free depth) (x.inside depth)).reads ts) → IfOk answer (λ y. is_canonical y.0 ≡ true)
concatenation_read depth = canonical_if _ _ (lawful_concats_at _ _ (lawful_inside depth)) (makes_concats_at _ _ (inside_makes depth))
