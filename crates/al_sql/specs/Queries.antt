-- SELECT (the manual, SELECT), over tokens. Its list decides by its first token what may follow it.
use Rattle.std.specs.Prelude.{ℕ, Bool, true, false, ◌||◌, ◌==◌, List, [], ◌∷◌, ◌++◌, Option, Some, None}
use Rattle.al_grammar.specs.Rules.{Shape, Step, Rule, leaf, leaf_shape, pair, both, optional, at_most_once, mapped, or, either, widen}
use Rattle.al_grammar.specs.Gives.{many_from}
use Rattle.al_modes.specs.declared.row_mode.RowMode.{RowMode}
use Rattle.al_modes.specs.declared.row_mode.RowMode.TheVariants as row_modes
use Rattle.al_expr.specs.declared.tree.Expr.{Expr}
use Rattle.al_statements.specs.declared.tables.Target.{Target}
use Rattle.al_statements.specs.declared.query.Output.{Output}
use Rattle.al_statements.specs.declared.query.Function.{Function}
use Rattle.al_statements.specs.declared.query.Function.TheVariants as functions
use Rattle.al_statements.specs.declared.query.Aggregate.{Aggregate}
use Rattle.al_statements.specs.declared.query.SelectList.{SelectList}
use Rattle.al_statements.specs.declared.query.SelectList.TheVariants as lists
use Rattle.al_statements.specs.declared.query.SortKey.{SortKey}
use Rattle.al_statements.specs.declared.query.Query.{Query}
use Rattle.al_statements.specs.declared.query.Query.TheVariants as queries
use Rattle.al_phrases.specs.declared.lexeme.Lexeme.{Lexeme}
use Rattle.al_phrases.specs.Kinds as k
use Rattle.al_phrases.specs.Words.{kind_of, one_of, word, name_shape, name, comma_shape, comma_list, ◌▸◌, ◌◂◌}
use Rattle.al_phrases.specs.Expressions.{or_shape, expression}
use Rattle.al_altersql.specs.Alter.{target_shape, target}
use Rattle.al_sql.specs.declared.following.Rest.{Rest}
use Rattle.al_sql.specs.Phrases.{or_none, comma_next, next_of, condition_shape, condition, barring, without}

-- ---- lists

-- [ AS name ]
abbrev pub alias_shape : Shape
alias_shape = both (one_of k.as_word) name_shape

unfoldable pub alias : Rule Lexeme (at_most_once alias_shape) (Option (List ℕ))
alias = optional kind_of (k.as_word ▸ name)

-- out := expr [ AS name ]
abbrev pub output_of : Expr → Option (List ℕ) → Output
output_of x called = record { expr = x; name = called }

abbrev pub output_shape : Shape
output_shape = both or_shape (at_most_once alias_shape)

unfoldable pub output : ℕ → Rule Lexeme output_shape Output
output depth = pair output_of (expression depth) alias

unfoldable pub output_list : ℕ → Rule Lexeme (comma_shape output_shape) (List Output)
output_list depth = comma_list (output depth)

unfoldable pub next_output : ℕ → Rule Lexeme (comma_next output_shape) Output
next_output depth = next_of (output depth)

unfoldable pub outputs_from : ℕ → List Output → List Lexeme → Step Lexeme (List Output)
outputs_from depth so_far ts = many_from kind_of (next_output depth) so_far ts

-- count "(" "*" ")", with the word's place
abbrev pub counts : List ℕ
counts = k.count_word ∷ k.count_call ∷ []

unfoldable pub count_word : Rule Lexeme (leaf_shape counts) ℕ
count_word = leaf kind_of counts (λ t. Some t.place)

abbrev pub count_shape : Shape
count_shape = both (leaf_shape counts) (both (one_of k.left_paren) (both (one_of k.star) (one_of k.right_paren)))

unfoldable pub count : Rule Lexeme count_shape (ℕ × Function)
count = pair (λ place u. (place, functions.Count)) count_word (k.left_paren ▸ (k.star ▸ word k.right_paren))

-- ( min | max ) "(" expr ")": the parentheses open no level
abbrev pub extremes : List ℕ
extremes = k.min_word ∷ k.max_word ∷ k.min_call ∷ k.max_call ∷ []

abbrev pub extreme_of : ℕ × Bool → Expr → ℕ × Function
extreme_of (place, true) x = (place, functions.Max x)
extreme_of (place, false) x = (place, functions.Min x)

-- the word with its place, and whether it is max
unfoldable pub extreme_word : Rule Lexeme (leaf_shape extremes) (ℕ × Bool)
extreme_word = leaf kind_of extremes (λ t. Some (t.place, t.kind == k.max_word || t.kind == k.max_call))

abbrev pub extreme_shape : Shape
extreme_shape = both (leaf_shape extremes) (both (one_of k.left_paren) (both or_shape (one_of k.right_paren)))

unfoldable pub extreme : ℕ → Rule Lexeme extreme_shape (ℕ × Function)
extreme depth = pair extreme_of extreme_word (k.left_paren ▸ (expression depth ◂ k.right_paren))

-- agg := ( count "(" "*" ")" | ( min | max ) "(" expr ")" ) [ AS name ]
abbrev pub aggregate_of : ℕ × Function → Option (List ℕ) → Aggregate
aggregate_of what called = record { place = what.0; function = what.1; name = called }

abbrev pub aggregate_shape : Shape
aggregate_shape = both (either count_shape extreme_shape) (at_most_once alias_shape)

unfoldable pub function : ℕ → Rule Lexeme (either count_shape extreme_shape) (ℕ × Function)
function depth = or kind_of count (extreme depth)

unfoldable pub aggregate : ℕ → Rule Lexeme aggregate_shape Aggregate
aggregate depth = pair aggregate_of (function depth) alias

unfoldable pub aggregate_list : ℕ → Rule Lexeme (comma_shape aggregate_shape) (List Aggregate)
aggregate_list depth = comma_list (aggregate depth)

unfoldable pub next_aggregate : ℕ → Rule Lexeme (comma_next aggregate_shape) Aggregate
next_aggregate depth = next_of (aggregate depth)

unfoldable pub aggregates_from : ℕ → List Aggregate → List Lexeme → Step Lexeme (List Aggregate)
aggregates_from depth so_far ts = many_from kind_of (next_aggregate depth) so_far ts

-- ---- ORDER BY

-- key := name [ ASC | DESC ]
abbrev pub directions : List ℕ
directions = k.asc_word ∷ k.desc_word ∷ []

abbrev pub is_descending : Option Bool → Bool
is_descending None = false
is_descending (Some descending) = descending

unfoldable pub direction : Rule Lexeme (at_most_once (leaf_shape directions)) Bool
direction = mapped is_descending (optional kind_of (leaf kind_of directions (λ t. Some (t.kind == k.desc_word))))

abbrev pub key_of : List ℕ → Bool → SortKey
key_of column descending = record { column = column; descending = descending }

abbrev pub key_shape : Shape
key_shape = both name_shape (at_most_once (leaf_shape directions))

unfoldable pub key : Rule Lexeme key_shape SortKey
key = pair key_of name direction

unfoldable pub key_list : Rule Lexeme (comma_shape key_shape) (List SortKey)
key_list = comma_list key

unfoldable pub next_key : Rule Lexeme (comma_next key_shape) SortKey
next_key = next_of key

unfoldable pub keys_from : List SortKey → List Lexeme → Step Lexeme (List SortKey)
keys_from so_far ts = many_from kind_of next_key so_far ts

-- [ ORDER BY key { "," key } ]
abbrev pub order_shape : Shape
order_shape = both (one_of k.order_word) (both (one_of k.by_word) (comma_shape key_shape))

unfoldable pub order : Rule Lexeme (at_most_once order_shape) (List SortKey)
order = mapped or_none (optional kind_of (k.order_word ▸ (k.by_word ▸ key_list)))

-- ---- FOR

-- UPDATE | NO KEY UPDATE | SHARE | KEY SHARE
abbrev pub row_mode_shape : Shape
row_mode_shape = record {
  empty = false;
  first = k.update_word ∷ k.no_word ∷ k.share_word ∷ k.key_word ∷ [];
  after = [];
}

unfoldable pub row_mode : Rule Lexeme row_mode_shape RowMode
row_mode =
    widen row_mode_shape
    (or kind_of (mapped (λ u. row_modes.Update) (word k.update_word))
    (or kind_of (mapped (λ u. row_modes.NoKeyUpdate) (k.no_word ▸ (k.key_word ▸ word k.update_word)))
    (or kind_of (mapped (λ u. row_modes.Share) (word k.share_word)) (mapped (λ u. row_modes.KeyShare) (k.key_word ▸ word k.share_word)))))

-- FOR, where it may stand: not behind aggregates
abbrev pub for_first : List ℕ
for_first = k.for_word ∷ k.late_for ∷ []

abbrev pub for_mark : Bool → Rule Lexeme (leaf_shape for_first) (Unit {0})
for_mark true = widen (leaf_shape for_first) (word k.for_word)
for_mark false = widen (leaf_shape for_first) (word k.late_for)

-- [ FOR ( UPDATE | NO KEY UPDATE | SHARE | KEY SHARE ) ]
abbrev pub row_lock_shape : Shape
row_lock_shape = both (leaf_shape for_first) row_mode_shape

unfoldable pub row_lock : Bool → Rule Lexeme (at_most_once row_lock_shape) (Option RowMode)
row_lock may_stand = optional kind_of (pair (λ u mode. mode) (for_mark may_stand) row_mode)

-- ---- FROM and the statement

-- FROM target [ WHERE expr ] [ ORDER BY key { "," key } ] [ FOR ( UPDATE | NO KEY UPDATE | SHARE | KEY SHARE ) ]
abbrev pub rest_of : Target → Option Expr × (List SortKey × Option RowMode) → Rest
rest_of table what = record { target = table; condition = what.0; order = what.1.0; lock = what.1.1 }

abbrev pub sorted_shape : Shape
sorted_shape = both (at_most_once order_shape) (at_most_once row_lock_shape)

unfoldable pub sorted : Bool → Rule Lexeme sorted_shape (List SortKey × Option RowMode)
sorted may_lock = pair (λ keys lock. (keys, lock)) order (row_lock may_lock)

abbrev pub from_shape : Shape
from_shape = both (one_of k.from_word) (both target_shape (both (at_most_once condition_shape) sorted_shape))

unfoldable pub from : ℕ → Bool → Rule Lexeme from_shape Rest
from depth may_lock = k.from_word ▸ pair rest_of target (pair (λ which behind. (which, behind)) (condition depth) (sorted may_lock))

abbrev pub with_rest : SelectList → Rest → Query
with_rest list rest = queries.Table (record { list = list; target = rest.target; condition = rest.condition; order = rest.order; lock = rest.lock })

abbrev pub from_or_row : List Output → Option Rest → Query
from_or_row outputs None = queries.Row outputs
from_or_row outputs (Some rest) = with_rest (lists.Outputs outputs) rest

-- "*" FROM ..
unfoldable pub all_columns : ℕ → Rule Lexeme (both (one_of k.star) from_shape) Query
all_columns depth = mapped (with_rest lists.All) (k.star ▸ from depth true)

abbrev pub all_rows_shape : Shape
all_rows_shape = both (comma_shape aggregate_shape) from_shape

-- agg { "," agg } FROM .., without FOR
unfoldable pub all_rows : ℕ → Rule Lexeme all_rows_shape Query
all_rows depth = pair (λ aggregates rest. with_rest (lists.Aggregates aggregates) rest) (aggregate_list depth) (from depth false)

-- A list that begins with one of these words directly before a parenthesis is one of aggregates; elsewhere at its beginning
-- the word is a name.
abbrev pub aggregate_calls : List ℕ
aggregate_calls = k.count_call ∷ k.min_call ∷ k.max_call ∷ []

abbrev pub aggregate_names : List ℕ
aggregate_names = k.count_word ∷ k.min_word ∷ k.max_word ∷ []

abbrev pub called_rows_shape : Shape
called_rows_shape = record { empty = false; first = without aggregate_names all_rows_shape.first; after = all_rows_shape.after }

abbrev pub rows_shape : Shape
rows_shape = both (comma_shape output_shape) (at_most_once from_shape)

abbrev pub each_row_shape : Shape
each_row_shape = record { empty = false; first = without aggregate_calls rows_shape.first; after = rows_shape.after }

-- out { "," out } [ FROM .. ]
unfoldable pub each_row : ℕ → Rule Lexeme rows_shape Query
each_row depth = pair from_or_row (output_list depth) (optional kind_of (from depth true))

-- one of these three, by its first token
abbrev pub selected_shape : Shape
selected_shape = record {
  empty = false;
  first = (k.star ∷ called_rows_shape.first) ++ each_row_shape.first;
  after = from_shape.after ++ each_row_shape.after;
}

unfoldable pub selected : ℕ → Rule Lexeme selected_shape Query
selected depth =
    let aggregates = barring aggregate_names called_rows_shape (all_rows depth) in
    let outputs = barring aggregate_calls each_row_shape (each_row depth) in
    widen selected_shape (or kind_of (all_columns depth) (or kind_of aggregates outputs))

-- SELECT list [ FROM target [ WHERE expr ] [ ORDER BY key { "," key } ] [ FOR ( UPDATE | NO KEY UPDATE | SHARE | KEY SHARE ) ] ]
abbrev pub select_shape : Shape
select_shape = both (one_of k.select_word) selected_shape

unfoldable pub select : ℕ → Rule Lexeme select_shape Query
select depth = k.select_word ▸ selected depth
