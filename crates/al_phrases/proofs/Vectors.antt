-- Small expressions, by computation: how operators bind, and where a level too many is opened.
use Rattle.std.proofs.Common.{◌≡◌, ℕ, pos, true, false, [], ◌∷◌, refl}
use Rattle.al_grammar.specs.Rules.{read, fault}
use Rattle.al_values.specs.declared.kinds.Kind.TheVariants as kinds
use Rattle.al_expr.specs.declared.tree.Operator.TheVariants as operators
use Rattle.al_expr.specs.declared.tree.Comparison.TheVariants as comparisons
use Rattle.al_expr.specs.declared.tree.Arithmetic.TheVariants as arithmetics
use Rattle.al_expr.specs.declared.tree.Expr.{the_lemmas}
use Rattle.al_expr.specs.declared.tree.Expr.TheVariants as e
use Rattle.al_phrases.specs.declared.lexeme.Lexeme.{Lexeme}
use Rattle.al_phrases.specs.Kinds as k
use Rattle.al_phrases.specs.Types.{size, sized, varying, varying_text, one_word_kind, type_name}
use Rattle.al_phrases.specs.Rows.{extended, prefixed, cast_to, tested}
use Rattle.al_phrases.specs.Expressions.{literal, column, date_leaf, date_text, dated, items, cast_call, coalesce_call, function_word, function_call, atom, cast_suffix, post, between_tail, in_tail, plain_tail, tail, null_test, signs_at, products_at, sums_at, concats_at, ranges_at, comparisons_at, tests_at, nots_at, ands_at, ors_at, expression}

abbrev at : ℕ → ℕ → Lexeme
at kind place = record { kind = kind; called = false; place = place; text = []; number = pos 1 }

-- `a , b`: the comma is left
one : (expression 1).reads (at k.name 0 ∷ at k.comma 2 ∷ at k.name 4 ∷ []) ≡ read (e.Column 0 []) (at k.comma 2 ∷ at k.name 4 ∷ [])
unfolding expression ors_at ands_at nots_at tests_at comparisons_at ranges_at concats_at sums_at products_at signs_at post atom cast_call items coalesce_call function_word function_call tail plain_tail between_tail in_tail literal column date_leaf date_text dated cast_suffix null_test type_name varying_text varying sized size one_word_kind extended prefixed cast_to tested
one = refl

-- `NOT NOT a` with one level to open: the second NOT is too much
deep : (expression 1).reads (at k.not_word 0 ∷ at k.not_word 4 ∷ at k.name 8 ∷ []) ≡ fault 2
unfolding expression ors_at ands_at nots_at tests_at comparisons_at ranges_at concats_at sums_at products_at signs_at post atom cast_call items coalesce_call function_word function_call tail plain_tail between_tail in_tail literal column date_leaf date_text dated cast_suffix null_test type_name varying_text varying sized size one_word_kind extended prefixed cast_to tested
deep = refl

-- `a + b * c`
bound : (expression 1).reads (at k.name 0 ∷ at k.plus 2 ∷ at k.name 4 ∷ at k.star 6 ∷ at k.name 8 ∷ [])
    ≡ read (e.Chain (e.Column 0 []) ((2, operators.Calculate arithmetics.Add, e.Chain (e.Column 4 []) ((6, operators.Calculate arithmetics.Multiply, e.Column 8 []) ∷ [])) ∷ [])) []
unfolding expression ors_at ands_at nots_at tests_at comparisons_at ranges_at concats_at sums_at products_at signs_at post atom cast_call items coalesce_call function_word function_call tail plain_tail between_tail in_tail literal column date_leaf date_text dated cast_suffix null_test type_name varying_text varying sized size one_word_kind extended prefixed cast_to tested
bound = simp the_lemmas

-- `(a + b) + c` is the row `a + b + c`
one_row : (expression 1).reads (at k.left_paren 0 ∷ at k.name 1 ∷ at k.plus 3 ∷ at k.name 5 ∷ at k.right_paren 6 ∷ at k.plus 8 ∷ at k.name 10 ∷ []) ≡ read (e.Chain (e.Column 1 []) ((3, operators.Calculate arithmetics.Add, e.Column 5 []) ∷ (8, operators.Calculate arithmetics.Add, e.Column 10 []) ∷ [])) []
unfolding expression ors_at ands_at nots_at tests_at comparisons_at ranges_at concats_at sums_at products_at signs_at post atom cast_call items coalesce_call function_word function_call tail plain_tail between_tail in_tail literal column date_leaf date_text dated cast_suffix null_test type_name varying_text varying sized size one_word_kind extended prefixed cast_to tested
one_row = simp the_lemmas

-- `a - (b - c)` is another tree
right_kept : (expression 1).reads (at k.name 0 ∷ at k.minus 2 ∷ at k.left_paren 4 ∷ at k.name 5 ∷ at k.minus 7 ∷ at k.name 9 ∷ at k.right_paren 10 ∷ []) ≡ read (e.Chain (e.Column 0 []) ((2, operators.Calculate arithmetics.Subtract, e.Chain (e.Column 5 []) ((7, operators.Calculate arithmetics.Subtract, e.Column 9 []) ∷ [])) ∷ [])) []
unfolding expression ors_at ands_at nots_at tests_at comparisons_at ranges_at concats_at sums_at products_at signs_at post atom cast_call items coalesce_call function_word function_call tail plain_tail between_tail in_tail literal column date_leaf date_text dated cast_suffix null_test type_name varying_text varying sized size one_word_kind extended prefixed cast_to tested
right_kept = simp the_lemmas

-- `a OR b AND c`: AND binds first
and_first : (expression 0).reads (at k.name 0 ∷ at k.or_word 2 ∷ at k.name 5 ∷ at k.and_word 7 ∷ at k.name 11 ∷ []) ≡ read (e.Chain (e.Column 0 []) ((2, operators.Or, e.Chain (e.Column 5 []) ((7, operators.And, e.Column 11 []) ∷ [])) ∷ [])) []
unfolding expression ors_at ands_at nots_at tests_at comparisons_at ranges_at concats_at sums_at products_at signs_at post atom cast_call items coalesce_call function_word function_call tail plain_tail between_tail in_tail literal column date_leaf date_text dated cast_suffix null_test type_name varying_text varying sized size one_word_kind extended prefixed cast_to tested
and_first = simp the_lemmas

-- `a NOT IN (b)`: the node stands at the NOT
not_in : (expression 1).reads (at k.name 0 ∷ at k.not_word 2 ∷ at k.in_word 6 ∷ at k.left_paren 9 ∷ at k.name 10 ∷ at k.right_paren 11 ∷ []) ≡ read (e.In 2 true (e.Column 0 []) (e.Column 10 [] ∷ [])) []
unfolding expression ors_at ands_at nots_at tests_at comparisons_at ranges_at concats_at sums_at products_at signs_at post atom cast_call items coalesce_call function_word function_call tail plain_tail between_tail in_tail literal column date_leaf date_text dated cast_suffix null_test type_name varying_text varying sized size one_word_kind extended prefixed cast_to tested
not_in = refl

-- `CAST (a AS int2)::text` are two casts in a row
casts : (expression 1).reads (at k.cast_word 0 ∷ at k.left_paren 5 ∷ at k.name 6 ∷ at k.as_word 8 ∷ at k.int2_word 11 ∷ at k.right_paren 15 ∷ at k.cast_sign 16 ∷ at k.text_word 18 ∷ []) ≡ read (e.Casts (e.Column 6 []) ((0, kinds.Smallint) ∷ (16, kinds.Text) ∷ [])) []
unfolding expression ors_at ands_at nots_at tests_at comparisons_at ranges_at concats_at sums_at products_at signs_at post atom cast_call items coalesce_call function_word function_call tail plain_tail between_tail in_tail literal column date_leaf date_text dated cast_suffix null_test type_name varying_text varying sized size one_word_kind extended prefixed cast_to tested
casts = simp the_lemmas

-- `(a)` where none may be opened: the parenthesis is too much
no_level : (expression 0).reads (at k.left_paren 0 ∷ at k.name 1 ∷ at k.right_paren 2 ∷ []) ≡ fault 3
unfolding expression ors_at ands_at nots_at tests_at comparisons_at ranges_at concats_at sums_at products_at signs_at post atom cast_call items coalesce_call function_word function_call tail plain_tail between_tail in_tail literal column date_leaf date_text dated cast_suffix null_test type_name varying_text varying sized size one_word_kind extended prefixed cast_to tested
no_level = refl

-- `(a`: the tokens end too early
early : (expression 1).reads (at k.left_paren 0 ∷ at k.name 1 ∷ []) ≡ fault 0
unfolding expression ors_at ands_at nots_at tests_at comparisons_at ranges_at concats_at sums_at products_at signs_at post atom cast_call items coalesce_call function_word function_call tail plain_tail between_tail in_tail literal column date_leaf date_text dated cast_suffix null_test type_name varying_text varying sized size one_word_kind extended prefixed cast_to tested
early = refl

-- `a = b = c`: the second sign is left
chained : (expression 0).reads (at k.name 0 ∷ at k.equal 2 ∷ at k.name 4 ∷ at k.equal 6 ∷ at k.name 8 ∷ []) ≡ read (e.Chain (e.Column 0 []) ((2, operators.Compare comparisons.Equal, e.Column 4 []) ∷ [])) (at k.equal 6 ∷ at k.name 8 ∷ [])
unfolding expression ors_at ands_at nots_at tests_at comparisons_at ranges_at concats_at sums_at products_at signs_at post atom cast_call items coalesce_call function_word function_call tail plain_tail between_tail in_tail literal column date_leaf date_text dated cast_suffix null_test type_name varying_text varying sized size one_word_kind extended prefixed cast_to tested
chained = simp the_lemmas

-- a name directly before a parenthesis is none of a column
called : (expression 1).reads (record { kind = k.name; called = true; place = 0; text = []; number = pos 1 } ∷ at k.left_paren 1 ∷ at k.right_paren 2 ∷ []) ≡ fault 3
unfolding expression ors_at ands_at nots_at tests_at comparisons_at ranges_at concats_at sums_at products_at signs_at post atom cast_call items coalesce_call function_word function_call tail plain_tail between_tail in_tail literal column date_leaf date_text dated cast_suffix null_test type_name varying_text varying sized size one_word_kind extended prefixed cast_to tested
called = refl
