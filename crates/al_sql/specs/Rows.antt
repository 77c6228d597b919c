-- INSERT, UPDATE and DELETE (the manual, the pages of these statements), over tokens.
use Rattle.std.specs.Prelude.{ℕ, ℤ, List, Option}
use Rattle.al_grammar.specs.Rules.{Shape, Step, Rule, pair, both, optional, at_most_once, mapped, or, either}
use Rattle.al_grammar.specs.Gives.{many_from}
use Rattle.al_expr.specs.declared.tree.Expr.{Expr}
use Rattle.al_statements.specs.declared.tables.Target.{Target}
use Rattle.al_statements.specs.declared.rows.Slot.{Slot}
use Rattle.al_statements.specs.declared.rows.Slot.TheVariants as slots
use Rattle.al_statements.specs.declared.rows.Series.{Series}
use Rattle.al_statements.specs.declared.rows.InsertRows.{InsertRows}
use Rattle.al_statements.specs.declared.rows.InsertRows.TheVariants as insert_rows
use Rattle.al_statements.specs.declared.rows.Insert.{Insert}
use Rattle.al_statements.specs.declared.rows.Assignment.{Assignment}
use Rattle.al_statements.specs.declared.rows.Update.{Update}
use Rattle.al_statements.specs.declared.rows.Delete.{Delete}
use Rattle.al_phrases.specs.declared.lexeme.Lexeme.{Lexeme}
use Rattle.al_phrases.specs.Kinds as k
use Rattle.al_phrases.specs.Words.{kind_of, one_of, word, name_shape, name, comma_shape, comma_list, ◌▸◌, ◌◂◌}
use Rattle.al_phrases.specs.Expressions.{or_shape, expression}
use Rattle.al_phrases.specs.Columns.{names_shape, names_in_parens}
use Rattle.al_altersql.specs.Alter.{noise_shape, noise, target_shape, target, sint_shape, sint}
use Rattle.al_sql.specs.Phrases.{comma_next, next_of, condition_shape, condition}

-- slot := expr | DEFAULT
abbrev pub slot_shape : Shape
slot_shape = either (one_of k.default_word) or_shape

unfoldable pub slot : ℕ → Rule Lexeme slot_shape Slot
slot depth = or kind_of (mapped (λ u. slots.Default) (word k.default_word)) (mapped slots.Value (expression depth))

-- ---- INSERT

-- slot { "," slot }
unfoldable pub slot_list : ℕ → Rule Lexeme (comma_shape slot_shape) (List Slot)
slot_list depth = comma_list (slot depth)

unfoldable pub next_slot : ℕ → Rule Lexeme (comma_next slot_shape) Slot
next_slot depth = next_of (slot depth)

unfoldable pub slots_from : ℕ → List Slot → List Lexeme → Step Lexeme (List Slot)
slots_from depth so_far ts = many_from kind_of (next_slot depth) so_far ts

-- tuple := "(" slot { "," slot } ")": the parentheses open no level
abbrev pub tuple_shape : Shape
tuple_shape = both (one_of k.left_paren) (both (comma_shape slot_shape) (one_of k.right_paren))

unfoldable pub tuple : ℕ → Rule Lexeme tuple_shape (List Slot)
tuple depth = k.left_paren ▸ (slot_list depth ◂ k.right_paren)

-- tuple { "," tuple }
unfoldable pub tuple_list : ℕ → Rule Lexeme (comma_shape tuple_shape) (List (List Slot))
tuple_list depth = comma_list (tuple depth)

unfoldable pub next_tuple : ℕ → Rule Lexeme (comma_next tuple_shape) (List Slot)
next_tuple depth = next_of (tuple depth)

unfoldable pub tuples_from : ℕ → List (List Slot) → List Lexeme → Step Lexeme (List (List Slot))
tuples_from depth so_far ts = many_from kind_of (next_tuple depth) so_far ts

-- expr { "," expr }
unfoldable pub value_list : ℕ → Rule Lexeme (comma_shape or_shape) (List Expr)
value_list depth = comma_list (expression depth)

unfoldable pub next_value : ℕ → Rule Lexeme (comma_next or_shape) Expr
next_value depth = next_of (expression depth)

unfoldable pub values_from : ℕ → List Expr → List Lexeme → Step Lexeme (List Expr)
values_from depth so_far ts = many_from kind_of (next_value depth) so_far ts

-- generate_series "(" sint "," sint ")" (9.25)
abbrev pub span_shape : Shape
span_shape = both (one_of k.generate_series_word) (both (one_of k.left_paren) (both sint_shape (both (one_of k.comma) (both sint_shape (one_of k.right_paren)))))

unfoldable pub number_span : Rule Lexeme span_shape (ℤ × ℤ)
number_span = k.generate_series_word ▸ (k.left_paren ▸ pair (λ first last. (first, last)) sint (k.comma ▸ (sint ◂ k.right_paren)))

-- series := SELECT expr { "," expr } FROM generate_series "(" sint "," sint ")" [ AS ] name
abbrev pub series_of : List Expr → (ℤ × ℤ) × List ℕ → Series
series_of outputs numbers = record { outputs = outputs; first = numbers.0.0; last = numbers.0.1; name = numbers.1 }

abbrev pub from_span_shape : Shape
from_span_shape = both (one_of k.from_word) (both span_shape (noise_shape k.as_word name_shape))

unfoldable pub from_span : Rule Lexeme from_span_shape ((ℤ × ℤ) × List ℕ)
from_span = k.from_word ▸ pair (λ numbers called. (numbers, called)) number_span (noise k.as_word name)

abbrev pub series_shape : Shape
series_shape = both (one_of k.select_word) (both (comma_shape or_shape) from_span_shape)

unfoldable pub series : ℕ → Rule Lexeme series_shape Series
series depth = k.select_word ▸ pair series_of (value_list depth) from_span

-- VALUES tuple { "," tuple } | series
abbrev pub new_rows_shape : Shape
new_rows_shape = either (both (one_of k.values_word) (comma_shape tuple_shape)) series_shape

unfoldable pub new_rows : ℕ → Rule Lexeme new_rows_shape InsertRows
new_rows depth = or kind_of (mapped insert_rows.Values (k.values_word ▸ tuple_list depth)) (mapped insert_rows.Series (series depth))

-- INSERT INTO name [ "(" names ")" ] ( VALUES tuple { "," tuple } | series )
abbrev pub insert_of : List ℕ → Option (List (List ℕ)) × InsertRows → Insert
insert_of table what = record { table = table; columns = what.0; rows = what.1 }

abbrev pub insert_shape : Shape
insert_shape = both (one_of k.insert_word) (both (one_of k.into_word) (both name_shape (both (at_most_once names_shape) new_rows_shape)))

unfoldable pub insert : ℕ → Rule Lexeme insert_shape Insert
insert depth = k.insert_word ▸ (k.into_word ▸ pair insert_of name (pair (λ columns rows. (columns, rows)) (optional kind_of names_in_parens) (new_rows depth)))

-- ---- UPDATE

-- name "=" slot
abbrev pub assignment_of : List ℕ → Slot → Assignment
assignment_of column what = record { column = column; slot = what }

abbrev pub assignment_shape : Shape
assignment_shape = both name_shape (both (one_of k.equal) slot_shape)

unfoldable pub assignment : ℕ → Rule Lexeme assignment_shape Assignment
assignment depth = pair assignment_of name (k.equal ▸ slot depth)

unfoldable pub assignment_list : ℕ → Rule Lexeme (comma_shape assignment_shape) (List Assignment)
assignment_list depth = comma_list (assignment depth)

unfoldable pub next_assignment : ℕ → Rule Lexeme (comma_next assignment_shape) Assignment
next_assignment depth = next_of (assignment depth)

unfoldable pub assignments_from : ℕ → List Assignment → List Lexeme → Step Lexeme (List Assignment)
assignments_from depth so_far ts = many_from kind_of (next_assignment depth) so_far ts

-- UPDATE target SET name "=" slot { "," name "=" slot } [ WHERE expr ]
abbrev pub update_of : Target → List Assignment × Option Expr → Update
update_of table what = record { target = table; assignments = what.0; condition = what.1 }

abbrev pub update_shape : Shape
update_shape = both (one_of k.update_word) (both target_shape (both (one_of k.set_word) (both (comma_shape assignment_shape) (at_most_once condition_shape))))

unfoldable pub update : ℕ → Rule Lexeme update_shape Update
update depth = k.update_word ▸ pair update_of target (k.set_word ▸ pair (λ changes which. (changes, which)) (assignment_list depth) (condition depth))

-- ---- DELETE

-- DELETE FROM target [ WHERE expr ]
abbrev pub delete_of : Target → Option Expr → Delete
delete_of table which = record { target = table; condition = which }

abbrev pub delete_shape : Shape
delete_shape = both (one_of k.delete_word) (both (one_of k.from_word) (both target_shape (at_most_once condition_shape)))

unfoldable pub delete : ℕ → Rule Lexeme delete_shape Delete
delete depth = k.delete_word ▸ (k.from_word ▸ pair delete_of target (condition depth))
