-- The grammar of expressions (4.2 and 4.1.6), over tokens. `depth` is how many levels may still be opened: by a parenthesis,
-- a NOT or a sign.
use Rattle.std.specs.Prelude.{ℕ, zero, suc, Bool, true, false, ◌==◌, if◌then◌else◌, List, [], ◌∷◌, ◌++◌, Option, Some, None}
use Rattle.al_grammar.specs.Rules.{Shape, Rule, leaf, leaf_shape, pair, both, optional, many, or, widen, at_most_once}
use Rattle.al_values.specs.declared.kinds.Kind.{Kind}
use Rattle.al_values.specs.declared.scalar.Value.TheVariants as values
use Rattle.al_expr.specs.declared.tree.Operator.{Operator}
use Rattle.al_expr.specs.declared.tree.Operator.TheVariants as operators
use Rattle.al_expr.specs.declared.tree.Comparison.TheVariants as comparisons
use Rattle.al_expr.specs.declared.tree.Arithmetic.TheVariants as arithmetics
use Rattle.al_expr.specs.declared.tree.Prefix.{Prefix}
use Rattle.al_expr.specs.declared.tree.Prefix.TheVariants as prefixes
use Rattle.al_expr.specs.declared.tree.Expr.{Expr}
use Rattle.al_expr.specs.declared.tree.Expr.TheVariants as e
use Rattle.al_phrases.specs.declared.lexeme.Lexeme.{Lexeme}
use Rattle.al_phrases.specs.declared.tail.Tail.{Tail}
use Rattle.al_phrases.specs.declared.tail.Tail.TheVariants as tails
use Rattle.al_phrases.specs.Kinds as k
use Rattle.al_phrases.specs.Words.{kind_of, one_of, word, given, comma_shape, comma_list, ◌▸◌, ◌◂◌}
use Rattle.al_phrases.specs.Types.{type_shape, type_name}
use Rattle.al_phrases.specs.Rows.{Link, extended, prefixed, cast_to, tested, in_turn}

-- ---- what each level begins with, and what may go on after it

abbrev pub literals : List ℕ
literals = k.integer_token ∷ k.text_token ∷ k.true_word ∷ k.false_word ∷ k.null_word ∷ []

abbrev pub functions : List ℕ
functions = k.abs_call ∷ k.length_call ∷ []

abbrev pub parens : List ℕ
parens = k.left_paren ∷ k.deep_paren ∷ []

abbrev pub signs : List ℕ
signs = k.minus ∷ k.plus ∷ k.deep_sign ∷ []

abbrev pub nots : List ℕ
nots = k.not_word ∷ k.deep_not ∷ []

abbrev pub products : List ℕ
products = k.star ∷ k.slash ∷ k.percent ∷ []

abbrev pub sums : List ℕ
sums = k.plus ∷ k.minus ∷ []

abbrev pub comparisons_signs : List ℕ
comparisons_signs = k.equal ∷ k.not_equal ∷ k.less ∷ k.less_or_equal ∷ k.greater ∷ k.greater_or_equal ∷ []

abbrev pub tails_first : List ℕ
tails_first = k.not_word ∷ k.between_word ∷ k.in_word ∷ []

abbrev pub atom_first : List ℕ
atom_first = literals ++ (k.date_word ∷ k.cast_word ∷ k.coalesce_call ∷ []) ++ functions ++ parens ++ k.column_names

abbrev pub sign_first : List ℕ
sign_first = signs ++ atom_first

abbrev pub not_first : List ℕ
not_first = nots ++ sign_first

abbrev pub post_after : List ℕ
post_after = k.cast_sign ∷ k.left_paren ∷ k.text_token ∷ []

abbrev pub product_after : List ℕ
product_after = products ++ post_after

abbrev pub sum_after : List ℕ
sum_after = sums ++ product_after

abbrev pub concat_after : List ℕ
concat_after = k.joined ∷ sum_after

abbrev pub range_after : List ℕ
range_after = tails_first ++ concat_after

abbrev pub compare_after : List ℕ
compare_after = comparisons_signs ++ range_after

abbrev pub is_after : List ℕ
is_after = k.is_word ∷ compare_after

abbrev pub and_after : List ℕ
and_after = k.and_word ∷ is_after

abbrev pub or_after : List ℕ
or_after = k.or_word ∷ and_after

abbrev pub level : List ℕ → List ℕ → Shape
level first after = record { empty = false; first = first; after = after }

abbrev pub atom_shape : Shape
atom_shape = level atom_first (k.text_token ∷ [])

abbrev pub post_shape : Shape
post_shape = level atom_first post_after

abbrev pub sign_shape : Shape
sign_shape = level sign_first post_after

abbrev pub product_shape : Shape
product_shape = level sign_first product_after

abbrev pub sum_shape : Shape
sum_shape = level sign_first sum_after

abbrev pub concat_shape : Shape
concat_shape = level sign_first concat_after

abbrev pub range_shape : Shape
range_shape = level sign_first range_after

abbrev pub compare_shape : Shape
compare_shape = level sign_first compare_after

abbrev pub is_shape : Shape
is_shape = level sign_first is_after

abbrev pub not_shape : Shape
not_shape = level not_first is_after

abbrev pub and_shape : Shape
and_shape = level not_first and_after

abbrev pub or_shape : Shape
or_shape = level not_first or_after

-- ---- tokens

abbrev pub place_of : (kind : ℕ) → Rule Lexeme (one_of kind) ℕ
place_of kind = leaf kind_of (kind ∷ []) (λ t. Some t.place)

abbrev pub operator_named : ℕ → Operator
operator_named n =
    if n == k.or_word then operators.Or else
    (if n == k.and_word then operators.And else
    (if n == k.equal then operators.Compare comparisons.Equal else
    (if n == k.not_equal then operators.Compare comparisons.NotEqual else
    (if n == k.less then operators.Compare comparisons.Less else
    (if n == k.less_or_equal then operators.Compare comparisons.LessOrEqual else
    (if n == k.greater then operators.Compare comparisons.Greater else
    (if n == k.greater_or_equal then operators.Compare comparisons.GreaterOrEqual else
    (if n == k.joined then operators.Concat else
    (if n == k.plus then operators.Calculate arithmetics.Add else
    (if n == k.minus then operators.Calculate arithmetics.Subtract else
    (if n == k.star then operators.Calculate arithmetics.Multiply else
    (if n == k.slash then operators.Calculate arithmetics.Divide else operators.Calculate arithmetics.Remainder))))))))))))

abbrev pub operator : (kinds : List ℕ) → Rule Lexeme (leaf_shape kinds) (ℕ × Operator)
operator kinds = leaf kind_of kinds (λ t. Some (t.place, operator_named t.kind))

abbrev pub literal_of : Lexeme → Expr
literal_of t =
    if t.kind == k.integer_token then e.Literal t.place (values.Int t.number) else
    (if t.kind == k.text_token then e.Literal t.place (values.Text t.text) else
    (if t.kind == k.true_word then e.Literal t.place (values.Bool true) else
    (if t.kind == k.false_word then e.Literal t.place (values.Bool false) else e.Literal t.place values.Null)))

unfoldable pub literal : Rule Lexeme (leaf_shape literals) Expr
literal = leaf kind_of literals (λ t. Some (literal_of t))

-- a name of a column, which doesn't stand directly before a parenthesis
abbrev pub bare : {A : Type 0} → Bool → A → Option A
bare true x = None
bare false x = Some x

unfoldable pub column : Rule Lexeme (leaf_shape k.column_names) Expr
column = leaf kind_of k.column_names (λ t. bare t.called (e.Column t.place t.text))

-- DATE string, or a column of this name
abbrev pub dated_by : ℕ × List ℕ → Option (List ℕ) → Expr
dated_by name None = e.Column name.0 name.1
dated_by name (Some text) = e.Date name.0 text

abbrev pub dated_shape : Shape
dated_shape = both (one_of k.date_word) (at_most_once (one_of k.text_token))

unfoldable pub date_leaf : Rule Lexeme (one_of k.date_word) (ℕ × List ℕ)
date_leaf = leaf kind_of (k.date_word ∷ []) (λ t. bare t.called (t.place, t.text))

unfoldable pub date_text : Rule Lexeme (at_most_once (one_of k.text_token)) (Option (List ℕ))
date_text = optional kind_of (leaf kind_of (k.text_token ∷ []) (λ t. Some t.text))

unfoldable pub dated : Rule Lexeme dated_shape Expr
dated = pair dated_by date_leaf date_text

-- ---- levels that free one

-- a parenthesis, where one may still be opened
abbrev pub paren : Bool → Rule Lexeme (leaf_shape parens) (Unit {0})
paren true = widen (leaf_shape parens) (word k.left_paren)
paren false = widen (leaf_shape parens) (word k.deep_paren)

abbrev pub sign_named : ℕ → Prefix
sign_named n = if n == k.plus then prefixes.Plus else prefixes.Minus

abbrev pub sign : Bool → Rule Lexeme (leaf_shape signs) (ℕ × Prefix)
sign true = widen (leaf_shape signs) (leaf kind_of (k.minus ∷ k.plus ∷ []) (λ t. Some (t.place, sign_named t.kind)))
sign false = widen (leaf_shape signs) (leaf kind_of (k.deep_sign ∷ []) (λ t. Some (t.place, prefixes.Minus)))

abbrev pub not_sign : Bool → Rule Lexeme (leaf_shape nots) (ℕ × Prefix)
not_sign true = widen (leaf_shape nots) (leaf kind_of (k.not_word ∷ []) (λ t. Some (t.place, prefixes.Not)))
not_sign false = widen (leaf_shape nots) (leaf kind_of (k.deep_not ∷ []) (λ t. Some (t.place, prefixes.Not)))

-- What stands in a level that was opened: an expression, an operand of NOT, and one of a sign.
pub record Inner : Type 1 where
  pub whole : Rule Lexeme or_shape Expr
  pub negated : Rule Lexeme not_shape Expr
  pub signed : Rule Lexeme sign_shape Expr

-- "(" expr ")"
abbrev pub in_parens : {A : Type 0} {s : Shape} → Bool → Rule Lexeme s A → Rule Lexeme (both (leaf_shape parens) (both s (one_of k.right_paren))) A
in_parens free p = pair (λ u v. v) (paren free) (p ◂ k.right_paren)

-- CAST "(" expr AS kind ")"
abbrev pub cast_value : ℕ → Expr × Kind → Expr
cast_value place x = cast_to x.0 (place, x.1)

abbrev pub cast_body_shape : Shape
cast_body_shape = both or_shape (both (one_of k.as_word) type_shape)

unfoldable pub cast_call : Bool → Rule Lexeme or_shape Expr → Rule Lexeme (both (one_of k.cast_word) (both (leaf_shape parens) (both cast_body_shape (one_of k.right_paren)))) Expr
cast_call free inner = pair cast_value (place_of k.cast_word) (in_parens free (pair (λ x kind. (x, kind)) inner (k.as_word ▸ type_name)))

-- expr { "," expr }
unfoldable pub items : Rule Lexeme or_shape Expr → Rule Lexeme (comma_shape or_shape) (List Expr)
items inner = comma_list inner

-- coalesce "(" expr { "," expr } ")"
unfoldable pub coalesce_call : Bool → Rule Lexeme or_shape Expr → Rule Lexeme (both (one_of k.coalesce_call) (both (leaf_shape parens) (both (comma_shape or_shape) (one_of k.right_paren)))) Expr
coalesce_call free inner = pair (λ place items. e.Coalesce place items) (place_of k.coalesce_call) (in_parens free (items inner))

-- ( abs | length ) "(" expr ")"
abbrev pub function_value : ℕ × ℕ → Expr → Expr
function_value word x = if word.1 == k.abs_call then e.Abs word.0 x else e.Length word.0 x

unfoldable pub function_word : Rule Lexeme (leaf_shape functions) (ℕ × ℕ)
function_word = leaf kind_of functions (λ t. Some (t.place, t.kind))

unfoldable pub function_call : Bool → Rule Lexeme or_shape Expr → Rule Lexeme (both (leaf_shape functions) (both (leaf_shape parens) (both or_shape (one_of k.right_paren)))) Expr
function_call free inner = pair function_value function_word (in_parens free inner)

-- atom := integer | string | TRUE | FALSE | NULL | DATE string | name | CAST "(" expr AS kind ")"
--       | ( coalesce | abs | length ) "(" expr { "," expr } ")" | "(" expr ")"
unfoldable pub atom : Bool → Rule Lexeme or_shape Expr → Rule Lexeme atom_shape Expr
atom free inner =
    widen atom_shape
    (or kind_of literal
    (or kind_of dated
    (or kind_of (cast_call free inner)
    (or kind_of (coalesce_call free inner)
    (or kind_of (function_call free inner)
    (or kind_of (in_parens free inner) column))))))

-- post := atom { "::" kind }
abbrev pub cast_sign_shape : Shape
cast_sign_shape = both (one_of k.cast_sign) type_shape

unfoldable pub cast_suffix : Rule Lexeme cast_sign_shape (ℕ × Kind)
cast_suffix = pair (λ place kind. (place, kind)) (place_of k.cast_sign) type_name

unfoldable pub post : Rule Lexeme atom_shape Expr → Rule Lexeme post_shape Expr
post a = widen post_shape (pair (in_turn cast_to) a (many kind_of cast_suffix))

-- neg := ( - | + ) neg | post
abbrev pub signed : Bool → Rule Lexeme sign_shape Expr → Rule Lexeme post_shape Expr → Rule Lexeme sign_shape Expr
signed free inner p = widen sign_shape (or kind_of (pair (λ prefix x. prefixed x prefix) (sign free) inner) p)

-- operands with operators of one precedence between
abbrev pub link : {s : Shape} → (kinds : List ℕ) → Rule Lexeme s Expr → Rule Lexeme (both (leaf_shape kinds) s) Link
link kinds p = pair (λ o x. (o.0, o.1, x)) (operator kinds) p

abbrev pub row : {s : Shape} → (w : Shape) → (kinds : List ℕ) → Rule Lexeme s Expr → Rule Lexeme w Expr
row w kinds p = widen w (pair (in_turn extended) p (many kind_of (link kinds p)))

-- rng := cat [ [ NOT ] BETWEEN cat AND cat | [ NOT ] IN "(" expr { "," expr } ")" ]
abbrev pub between_of : ℕ → Expr × Expr → Tail
between_of place ends = tails.Between place false ends.0 ends.1

unfoldable pub between_tail : Rule Lexeme concat_shape Expr → Rule Lexeme (both (one_of k.between_word) (both concat_shape (both (one_of k.and_word) concat_shape))) Tail
between_tail cat = pair between_of (place_of k.between_word) (pair (λ low high. (low, high)) cat (k.and_word ▸ cat))

unfoldable pub in_tail : Bool → Rule Lexeme or_shape Expr → Rule Lexeme (both (one_of k.in_word) (both (leaf_shape parens) (both (comma_shape or_shape) (one_of k.right_paren)))) Tail
in_tail free inner = pair (λ place items. tails.In place false items) (place_of k.in_word) (in_parens free (items inner))

abbrev pub plain_tail_shape : Shape
plain_tail_shape = level (k.between_word ∷ k.in_word ∷ []) concat_after

unfoldable pub plain_tail : Bool → Rule Lexeme or_shape Expr → Rule Lexeme concat_shape Expr → Rule Lexeme plain_tail_shape Tail
plain_tail free inner cat = widen plain_tail_shape (or kind_of (between_tail cat) (in_tail free inner))

abbrev pub negated_at : ℕ → Tail → Tail
negated_at place (tails.Between at negated low high) = tails.Between place true low high
negated_at place (tails.In at negated items) = tails.In place true items

abbrev pub tail_shape : Shape
tail_shape = level tails_first concat_after

unfoldable pub tail : Bool → Rule Lexeme or_shape Expr → Rule Lexeme concat_shape Expr → Rule Lexeme tail_shape Tail
tail free inner cat = widen tail_shape (or kind_of (pair negated_at (place_of k.not_word) (plain_tail free inner cat)) (plain_tail free inner cat))

abbrev pub with_tail : Expr → Option Tail → Expr
with_tail x None = x
with_tail x (Some (tails.Between place negated low high)) = e.Between place negated x low high
with_tail x (Some (tails.In place negated items)) = e.In place negated x items

abbrev pub range : Bool → Rule Lexeme or_shape Expr → Rule Lexeme concat_shape Expr → Rule Lexeme range_shape Expr
range free inner cat = widen range_shape (pair with_tail cat (optional kind_of (tail free inner cat)))

-- cmp := rng [ ( = | <> | != | < | <= | > | >= ) rng ]
abbrev pub with_link : Expr → Option Link → Expr
with_link x None = x
with_link x (Some l) = extended x l

abbrev pub compared : Rule Lexeme range_shape Expr → Rule Lexeme compare_shape Expr
compared p = widen compare_shape (pair with_link p (optional kind_of (link comparisons_signs p)))

-- is := cmp { IS [ NOT ] NULL }
abbrev pub null_test_shape : Shape
null_test_shape = both (one_of k.is_word) (both (at_most_once (one_of k.not_word)) (one_of k.null_word))

unfoldable pub null_test : Rule Lexeme null_test_shape (ℕ × Bool)
null_test = pair (λ place negated. (place, negated)) (place_of k.is_word) (given k.not_word ◂ k.null_word)

abbrev pub is_tested : Rule Lexeme compare_shape Expr → Rule Lexeme is_shape Expr
is_tested p = widen is_shape (pair (in_turn tested) p (many kind_of null_test))

-- not := NOT not | is
abbrev pub negated : Bool → Rule Lexeme not_shape Expr → Rule Lexeme is_shape Expr → Rule Lexeme not_shape Expr
negated free inner p = widen not_shape (or kind_of (pair (λ prefix x. prefixed x prefix) (not_sign free) inner) p)

-- ---- all levels at a depth, over what is inside

unfoldable pub signs_at : Bool → Inner → Rule Lexeme sign_shape Expr
signs_at free inner = signed free inner.signed (post (atom free inner.whole))

unfoldable pub products_at : Bool → Inner → Rule Lexeme product_shape Expr
products_at free inner = row product_shape products (signs_at free inner)

unfoldable pub sums_at : Bool → Inner → Rule Lexeme sum_shape Expr
sums_at free inner = row sum_shape sums (products_at free inner)

unfoldable pub concats_at : Bool → Inner → Rule Lexeme concat_shape Expr
concats_at free inner = row concat_shape (k.joined ∷ []) (sums_at free inner)

unfoldable pub ranges_at : Bool → Inner → Rule Lexeme range_shape Expr
ranges_at free inner = range free inner.whole (concats_at free inner)

unfoldable pub comparisons_at : Bool → Inner → Rule Lexeme compare_shape Expr
comparisons_at free inner = compared (ranges_at free inner)

unfoldable pub tests_at : Bool → Inner → Rule Lexeme is_shape Expr
tests_at free inner = is_tested (comparisons_at free inner)

unfoldable pub nots_at : Bool → Inner → Rule Lexeme not_shape Expr
nots_at free inner = negated free inner.negated (tests_at free inner)

unfoldable pub ands_at : Bool → Inner → Rule Lexeme and_shape Expr
ands_at free inner = row and_shape (k.and_word ∷ []) (nots_at free inner)

unfoldable pub ors_at : Bool → Inner → Rule Lexeme or_shape Expr
ors_at free inner = row or_shape (k.or_word ∷ []) (ands_at free inner)

-- what nothing can open stands in for what would be inside
abbrev pub flat : Inner
flat = record { whole = widen or_shape column; negated = widen not_shape column; signed = widen sign_shape column }

abbrev pub is_free : ℕ → Bool
is_free zero = false
is_free (suc depth) = true

abbrev pub around : Bool → Inner → Inner
around free inner = record { whole = ors_at free inner; negated = nots_at free inner; signed = signs_at free inner }

abbrev pub inside : ℕ → Inner
inside zero = flat
inside (suc depth) = around (is_free depth) (inside depth)

-- expr := and { OR and }, and := not { AND not }, and cat, which has neither comparisons nor NOT, AND and OR
unfoldable pub expression : ℕ → Rule Lexeme or_shape Expr
expression depth = ors_at (is_free depth) (inside depth)

unfoldable pub concatenation : ℕ → Rule Lexeme concat_shape Expr
concatenation depth = concats_at (is_free depth) (inside depth)
