-- SELECT is read lawfully.
use Rattle.std.specs.Prelude.{◌||◌, ◌==◌}
use Rattle.std.proofs.Common.{◌≡◌, ℕ, Bool, true, false, List, [], ◌∷◌, ◌++◌, None, refl}
use Rattle.al_grammar.specs.Kinds.{starts}
use Rattle.al_grammar.specs.Rules.{read, fault, leaf_shape, optional}
use Rattle.al_grammar.specs.Laws.{Lawful}
use Rattle.al_grammar.proofs.Pair.{lawful_pair}
use Rattle.al_grammar.proofs.Choices.{lawful_or, lawful_optional, lawful_mapped}
use Rattle.al_grammar.proofs.More.{lawful_widen}
use Rattle.al_grammar.proofs.Rows.{lawful_next, many_on, many_off, many_stop}
use Rattle.al_phrases.specs.declared.lexeme.Lexeme.{Lexeme}
use Rattle.al_phrases.specs.Kinds as k
use Rattle.al_phrases.specs.Words.{kind_of, one_of, word, name}
use Rattle.al_phrases.proofs.WordLaws.{token, lawful_each, lawful_word, lawful_front, lawful_back, lawful_commas, lawful_name}
use Rattle.std.proofs.Common.{subst, sym, ◌∙◌, append-nil}
use Rattle.al_values.specs.declared.scalar.Value.TheVariants as values
use Rattle.al_expr.specs.declared.tree.Expr.TheVariants as e
use Rattle.al_modes.specs.declared.row_mode.RowMode.TheVariants as row_modes
use Rattle.al_statements.specs.declared.tables.Target.{Target}
use Rattle.al_statements.specs.declared.query.Output.{Output}
use Rattle.al_statements.specs.declared.query.Aggregate.{Aggregate}
use Rattle.al_statements.specs.declared.query.SortKey.{SortKey}
use Rattle.al_statements.specs.declared.query.Function.TheVariants as functions
use Rattle.al_statements.specs.declared.query.SelectList.TheVariants as lists
use Rattle.al_statements.specs.declared.query.Query.{Query}
use Rattle.al_statements.specs.declared.query.Query.TheVariants as queries
use Rattle.al_phrases.specs.Types.{size, sized, varying, varying_text, one_word_kind, type_name}
use Rattle.al_phrases.specs.Rows.{extended, prefixed, cast_to, tested}
use Rattle.al_phrases.specs.Expressions.{literal, column, date_leaf, date_text, dated, items, cast_call, coalesce_call, function_word, function_call, atom, cast_suffix, post, between_tail, in_tail, plain_tail, tail, null_test, signs_at, products_at, sums_at, concats_at, ranges_at, comparisons_at, tests_at, nots_at, ands_at, ors_at, expression}
use Rattle.al_phrases.proofs.ExpressionLaws.{lawful_expression}
use Rattle.al_altersql.specs.Alter.{target}
use Rattle.al_altersql.proofs.AlterLaws.{lawful_target}
use Rattle.al_sql.specs.Phrases.{barring, or_none, comma_next, condition}
use Rattle.al_sql.specs.Queries as q
use Rattle.al_sql.proofs.BarringLaw.{lawful_barring}
use Rattle.al_sql.proofs.PhraseLaws.{lawful_condition}

-- ---- lists

lawful_alias : Lawful kind_of q.alias
unfolding q.alias
lawful_alias = lawful_optional _ _ _ kind_of _ (lawful_front _ _ name (lawful_name) k.as_word refl) refl

lawful_output : (depth : ℕ) → Lawful kind_of (q.output depth)
unfolding q.output
lawful_output depth = lawful_pair _ _ _ _ _ _ kind_of (expression depth) q.alias q.output_of (lawful_expression depth) lawful_alias refl

lawful_output_list : (depth : ℕ) → Lawful kind_of (q.output_list depth)
unfolding q.output_list
lawful_output_list depth = lawful_commas Output q.output_shape (q.output depth) (lawful_output depth) refl refl refl

lawful_next_output : (depth : ℕ) → Lawful kind_of (q.next_output depth)
unfolding q.next_output
lawful_next_output depth = lawful_next Lexeme Output (Unit {0}) (one_of k.comma) q.output_shape kind_of (word k.comma) (q.output depth) (lawful_word k.comma refl) (lawful_output depth) refl refl refl refl

pub outputs_on : (depth : ℕ) (xs : List Output) (v : Output) (ts mid : List Lexeme) → starts kind_of false (k.comma ∷ []) ts ≡ true → (q.next_output depth).reads ts ≡ read v mid → q.outputs_from depth xs ts ≡ q.outputs_from depth (xs ++ v ∷ []) mid
unfolding q.outputs_from
outputs_on depth = many_on Lexeme Output (comma_next q.output_shape) kind_of (q.next_output depth) (lawful_next_output depth) refl

pub outputs_off : (depth : ℕ) (xs : List Output) (ts : List Lexeme) (n : ℕ) → starts kind_of false (k.comma ∷ []) ts ≡ true → (q.next_output depth).reads ts ≡ fault n → q.outputs_from depth xs ts ≡ fault n
unfolding q.outputs_from
outputs_off depth = many_off Lexeme Output (comma_next q.output_shape) kind_of (q.next_output depth) (lawful_next_output depth) refl

pub outputs_stop : (depth : ℕ) (xs : List Output) (ts : List Lexeme) → starts kind_of false (k.comma ∷ []) ts ≡ false → q.outputs_from depth xs ts ≡ read xs ts
unfolding q.outputs_from
outputs_stop depth = many_stop Lexeme Output (comma_next q.output_shape) kind_of (q.next_output depth) (lawful_next_output depth) refl

lawful_count_word : Lawful kind_of q.count_word
unfolding q.count_word
lawful_count_word = lawful_each ℕ q.counts (λ (x : Lexeme). x.place) k.count_call refl

lawful_count : Lawful kind_of q.count
unfolding q.count
lawful_count =
    let star = lawful_front _ _ _ (lawful_front _ _ _ (lawful_word k.right_paren refl) k.star refl) k.left_paren refl in
    lawful_pair _ _ _ _ _ _ kind_of q.count_word _ (λ place u. (place, functions.Count)) lawful_count_word star refl

lawful_extreme_word : Lawful kind_of q.extreme_word
unfolding q.extreme_word
lawful_extreme_word = lawful_each _ q.extremes (λ (x : Lexeme). (x.place, x.kind == k.max_word || x.kind == k.max_call)) k.min_call refl

lawful_extreme : (depth : ℕ) → Lawful kind_of (q.extreme depth)
unfolding q.extreme
lawful_extreme depth =
    let value = lawful_front _ _ _ (lawful_back _ _ (expression depth) (lawful_expression depth) k.right_paren refl refl) k.left_paren refl in
    lawful_pair _ _ _ _ _ _ kind_of q.extreme_word _ q.extreme_of lawful_extreme_word value refl

lawful_function : (depth : ℕ) → Lawful kind_of (q.function depth)
unfolding q.function
lawful_function depth = lawful_or _ _ _ _ kind_of q.count (q.extreme depth) lawful_count (lawful_extreme depth) refl refl refl

lawful_aggregate : (depth : ℕ) → Lawful kind_of (q.aggregate depth)
unfolding q.aggregate
lawful_aggregate depth = lawful_pair _ _ _ _ _ _ kind_of (q.function depth) q.alias q.aggregate_of (lawful_function depth) lawful_alias refl

lawful_aggregate_list : (depth : ℕ) → Lawful kind_of (q.aggregate_list depth)
unfolding q.aggregate_list
lawful_aggregate_list depth = lawful_commas Aggregate q.aggregate_shape (q.aggregate depth) (lawful_aggregate depth) refl refl refl

lawful_next_aggregate : (depth : ℕ) → Lawful kind_of (q.next_aggregate depth)
unfolding q.next_aggregate
lawful_next_aggregate depth = lawful_next Lexeme Aggregate (Unit {0}) (one_of k.comma) q.aggregate_shape kind_of (word k.comma) (q.aggregate depth) (lawful_word k.comma refl) (lawful_aggregate depth) refl refl refl refl

pub aggregates_on : (depth : ℕ) (xs : List Aggregate) (v : Aggregate) (ts mid : List Lexeme) → starts kind_of false (k.comma ∷ []) ts ≡ true → (q.next_aggregate depth).reads ts ≡ read v mid → q.aggregates_from depth xs ts ≡ q.aggregates_from depth (xs ++ v ∷ []) mid
unfolding q.aggregates_from
aggregates_on depth = many_on Lexeme Aggregate (comma_next q.aggregate_shape) kind_of (q.next_aggregate depth) (lawful_next_aggregate depth) refl

pub aggregates_off : (depth : ℕ) (xs : List Aggregate) (ts : List Lexeme) (n : ℕ) → starts kind_of false (k.comma ∷ []) ts ≡ true → (q.next_aggregate depth).reads ts ≡ fault n → q.aggregates_from depth xs ts ≡ fault n
unfolding q.aggregates_from
aggregates_off depth = many_off Lexeme Aggregate (comma_next q.aggregate_shape) kind_of (q.next_aggregate depth) (lawful_next_aggregate depth) refl

pub aggregates_stop : (depth : ℕ) (xs : List Aggregate) (ts : List Lexeme) → starts kind_of false (k.comma ∷ []) ts ≡ false → q.aggregates_from depth xs ts ≡ read xs ts
unfolding q.aggregates_from
aggregates_stop depth = many_stop Lexeme Aggregate (comma_next q.aggregate_shape) kind_of (q.next_aggregate depth) (lawful_next_aggregate depth) refl

-- ---- ORDER BY and FOR

lawful_direction : Lawful kind_of q.direction
unfolding q.direction
lawful_direction =
    let word = lawful_each Bool q.directions (λ (x : Lexeme). x.kind == k.desc_word) k.desc_word refl in
    lawful_mapped _ _ _ _ kind_of q.is_descending _ (lawful_optional _ _ _ kind_of _ word refl)

lawful_key : Lawful kind_of q.key
unfolding q.key
lawful_key = lawful_pair _ _ _ _ _ _ kind_of name q.direction q.key_of lawful_name lawful_direction refl

lawful_key_list : Lawful kind_of q.key_list
unfolding q.key_list
lawful_key_list = lawful_commas SortKey q.key_shape q.key lawful_key refl refl refl

lawful_next_key : Lawful kind_of q.next_key
unfolding q.next_key
lawful_next_key = lawful_next Lexeme SortKey (Unit {0}) (one_of k.comma) q.key_shape kind_of (word k.comma) q.key (lawful_word k.comma refl) lawful_key refl refl refl refl

pub keys_on : (xs : List SortKey) (v : SortKey) (ts mid : List Lexeme) → starts kind_of false (k.comma ∷ []) ts ≡ true → q.next_key.reads ts ≡ read v mid → q.keys_from xs ts ≡ q.keys_from (xs ++ v ∷ []) mid
unfolding q.keys_from
keys_on = many_on Lexeme SortKey (comma_next q.key_shape) kind_of q.next_key lawful_next_key refl

pub keys_off : (xs : List SortKey) (ts : List Lexeme) (n : ℕ) → starts kind_of false (k.comma ∷ []) ts ≡ true → q.next_key.reads ts ≡ fault n → q.keys_from xs ts ≡ fault n
unfolding q.keys_from
keys_off = many_off Lexeme SortKey (comma_next q.key_shape) kind_of q.next_key lawful_next_key refl

pub keys_stop : (xs : List SortKey) (ts : List Lexeme) → starts kind_of false (k.comma ∷ []) ts ≡ false → q.keys_from xs ts ≡ read xs ts
unfolding q.keys_from
keys_stop = many_stop Lexeme SortKey (comma_next q.key_shape) kind_of q.next_key lawful_next_key refl

lawful_order : Lawful kind_of q.order
unfolding q.order
lawful_order = lawful_mapped _ _ _ _ kind_of or_none _ (lawful_optional _ _ _ kind_of _ (lawful_front _ _ _ (lawful_front _ _ q.key_list (lawful_key_list) k.by_word refl) k.order_word refl) refl)

lawful_row_mode : Lawful kind_of q.row_mode
unfolding q.row_mode
lawful_row_mode =
    let key = lawful_mapped _ _ _ _ kind_of (λ (u : Unit {0}). row_modes.KeyShare) _ (lawful_front _ _ _ (lawful_word k.share_word refl) k.key_word refl) in
    let share = lawful_mapped _ _ _ _ kind_of (λ (u : Unit {0}). row_modes.Share) _ (lawful_word k.share_word refl) in
    let one = lawful_or _ _ _ _ kind_of _ _ share key refl refl refl in
    let no_key = lawful_mapped _ _ _ _ kind_of (λ (u : Unit {0}). row_modes.NoKeyUpdate) _ (lawful_front _ _ _ (lawful_front _ _ _ (lawful_word k.update_word refl) k.key_word refl) k.no_word refl) in
    let two = lawful_or _ _ _ _ kind_of _ _ no_key one refl refl refl in
    let update = lawful_mapped _ _ _ _ kind_of (λ (u : Unit {0}). row_modes.Update) _ (lawful_word k.update_word refl) in
    lawful_widen _ _ _ q.row_mode_shape kind_of _ (lawful_or _ _ _ _ kind_of _ _ update two refl refl refl) (λ h. h) refl refl

lawful_for_mark : (may_stand : Bool) → Lawful kind_of (q.for_mark may_stand)
lawful_for_mark true = lawful_widen _ _ _ (leaf_shape q.for_first) kind_of (word k.for_word) (lawful_word k.for_word refl) (λ h. h) refl refl
lawful_for_mark false = lawful_widen _ _ _ (leaf_shape q.for_first) kind_of (word k.late_for) (lawful_word k.late_for refl) (λ h. h) refl refl

lawful_row_lock : (may_stand : Bool) → Lawful kind_of (q.row_lock may_stand)
unfolding q.row_lock
lawful_row_lock may_stand =
    let words = lawful_pair _ _ _ _ _ _ kind_of (q.for_mark may_stand) q.row_mode (λ u mode. mode) (lawful_for_mark may_stand) lawful_row_mode refl in
    lawful_optional _ _ _ kind_of _ words refl

-- ---- FROM and the statement

lawful_sorted : (may_lock : Bool) → Lawful kind_of (q.sorted may_lock)
unfolding q.sorted
lawful_sorted may_lock = lawful_pair _ _ _ _ _ _ kind_of q.order (q.row_lock may_lock) (λ keys lock. (keys, lock)) lawful_order (lawful_row_lock may_lock) refl

lawful_from : (depth : ℕ) → (may_lock : Bool) → Lawful kind_of (q.from depth may_lock)
unfolding q.from
lawful_from depth may_lock =
    let behind = lawful_pair _ _ _ _ _ _ kind_of (condition depth) (q.sorted may_lock) (λ which behind. (which, behind)) (lawful_condition depth) (lawful_sorted may_lock) refl in
    let all = lawful_pair _ _ _ _ _ _ kind_of target _ q.rest_of lawful_target behind refl in
    lawful_front _ _ _ (all) k.from_word refl

lawful_all_columns : (depth : ℕ) → Lawful kind_of (q.all_columns depth)
unfolding q.all_columns
lawful_all_columns depth = lawful_mapped _ _ _ _ kind_of (q.with_rest lists.All) _ (lawful_front _ _ (q.from depth true) (lawful_from depth true) k.star refl)

lawful_all_rows : (depth : ℕ) → Lawful kind_of (q.all_rows depth)
unfolding q.all_rows
lawful_all_rows depth = lawful_pair _ _ _ _ _ _ kind_of (q.aggregate_list depth) (q.from depth false) (λ aggregates rest. q.with_rest (lists.Aggregates aggregates) rest) (lawful_aggregate_list depth) (lawful_from depth false) refl

lawful_each_row : (depth : ℕ) → Lawful kind_of (q.each_row depth)
unfolding q.each_row
lawful_each_row depth =
    let table = lawful_optional _ _ _ kind_of (q.from depth true) (lawful_from depth true) refl in
    lawful_pair _ _ _ _ _ _ kind_of (q.output_list depth) (optional kind_of (q.from depth true)) q.from_or_row (lawful_output_list depth) table refl

-- `SELECT NULL`, whose list begins with no aggregate's word
abbrev null : Lexeme
null = token k.null_word

null_value : (depth : ℕ) → (expression depth).reads (null ∷ []) ≡ read (e.Literal 0 values.Null) []
unfolding expression ors_at ands_at nots_at tests_at comparisons_at ranges_at concats_at sums_at products_at signs_at post atom cast_call items coalesce_call function_word function_call tail plain_tail between_tail in_tail literal column date_leaf date_text dated cast_suffix null_test type_name varying_text varying sized size one_word_kind extended prefixed cast_to tested
null_value depth = refl

abbrev null_row : Query
null_row = queries.Row (q.output_of (e.Literal 0 values.Null) None ∷ [])

null_read : (depth : ℕ) → (q.each_row depth).reads (null ∷ []) ≡ read null_row []
unfolding q.each_row q.output_list q.output q.alias
null_read depth = rw (null_value depth) refl

null_is : (depth : ℕ) → (q.each_row depth).Is (null ∷ []) null_row
null_is depth =
    let t = (lawful_each_row depth).takes (null ∷ []) [] null_row (null_read depth) in
    subst (λ (l : List Lexeme). (q.each_row depth).Is l null_row) (sym (t.split ∙ append-nil t.used)) t.is

lawful_other_row : (depth : ℕ) → Lawful kind_of (barring q.aggregate_calls q.each_row_shape (q.each_row depth))
lawful_other_row depth = lawful_barring Query q.rows_shape q.each_row_shape (q.each_row depth) (lawful_each_row depth) q.aggregate_calls refl (null ∷ []) null_row (null_is depth) refl refl refl

-- `SELECT count(*) FROM` a table, whose list begins with an aggregate's call
abbrev called : List Lexeme
called = token k.count_call ∷ token k.left_paren ∷ token k.star ∷ token k.right_paren ∷ token k.from_word ∷ token k.name ∷ []

abbrev counted : Query
counted =
    let table : Target = record { only = false; name = [] } in
    q.with_rest (lists.Aggregates (q.aggregate_of (0, functions.Count) None ∷ [])) (q.rest_of table (None, ([], None)))

called_read : (depth : ℕ) → (q.all_rows depth).reads called ≡ read counted []
unfolding q.all_rows q.aggregate_list q.aggregate q.function q.count q.count_word q.alias q.from q.sorted q.order q.row_lock condition target name
called_read depth = refl

called_is : (depth : ℕ) → (q.all_rows depth).Is called counted
called_is depth =
    let t = (lawful_all_rows depth).takes called [] counted (called_read depth) in
    subst (λ (l : List Lexeme). (q.all_rows depth).Is l counted) (sym (t.split ∙ append-nil t.used)) t.is

lawful_called_rows : (depth : ℕ) → Lawful kind_of (barring q.aggregate_names q.called_rows_shape (q.all_rows depth))
lawful_called_rows depth = lawful_barring Query q.all_rows_shape q.called_rows_shape (q.all_rows depth) (lawful_all_rows depth) q.aggregate_names refl called counted (called_is depth) refl refl refl

lawful_selected : (depth : ℕ) → Lawful kind_of (q.selected depth)
unfolding q.selected
lawful_selected depth =
    let one = lawful_or _ _ _ _ kind_of _ _ (lawful_called_rows depth) (lawful_other_row depth) refl refl refl in
    lawful_widen _ _ _ q.selected_shape kind_of _ (lawful_or _ _ _ _ kind_of (q.all_columns depth) _ (lawful_all_columns depth) one refl refl refl) (λ h. h) refl refl

pub lawful_select : (depth : ℕ) → Lawful kind_of (q.select depth)
unfolding q.select
lawful_select depth = lawful_front _ _ (q.selected depth) (lawful_selected depth) k.select_word refl
