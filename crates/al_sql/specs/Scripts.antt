-- Statements, and scripts of them, over tokens.
use Rattle.std.specs.Prelude.{ℕ, false, List, [], ◌∷◌, ◌++◌, Option, Some, None}
use Rattle.al_grammar.specs.Rules.{Shape, Step, Rule, pair, both, optional, many, at_most_once, mapped, or, widen}
use Rattle.al_grammar.specs.Gives.{fold_from}
use Rattle.al_statements.specs.declared.script.Statement.{Statement}
use Rattle.al_statements.specs.declared.script.Statement.TheVariants as statements
use Rattle.al_phrases.specs.declared.lexeme.Lexeme.{Lexeme}
use Rattle.al_phrases.specs.Kinds as k
use Rattle.al_phrases.specs.Words.{kind_of, one_of, ◌▸◌}
use Rattle.al_phrases.specs.Rows.{in_turn}
use Rattle.al_altersql.specs.Alter.{levels, alter_table_shape, alter_table}
use Rattle.al_sql.specs.Transactions as transactions
use Rattle.al_sql.specs.Tables as tables
use Rattle.al_sql.specs.Rows as rows
use Rattle.al_sql.specs.Queries as queries

-- statements on transactions
abbrev pub on_transactions_shape : Shape
on_transactions_shape = record {
  empty = false;
  first = (k.begin_word ∷ k.start_word ∷ transactions.end_words) ++ k.set_word ∷ [];
  after = transactions.begin_shape.after ++ transactions.finish_shape.after;
}

unfoldable pub on_transactions : Rule Lexeme on_transactions_shape Statement
on_transactions =
    widen on_transactions_shape
    (or kind_of transactions.begin (or kind_of transactions.start (or kind_of transactions.finish transactions.set)))

-- statements on tables
abbrev pub on_tables_shape : Shape
on_tables_shape = record {
  empty = false;
  first = k.lock_word ∷ k.create_word ∷ k.drop_word ∷ k.alter_word ∷ [];
  after = tables.lock_shape.after ++ tables.create_shape.after ++ tables.drop_shape.after ++ alter_table_shape.after;
}

unfoldable pub on_tables : ℕ → Rule Lexeme on_tables_shape Statement
on_tables depth =
    widen on_tables_shape
    (or kind_of (mapped statements.LockTable tables.lock)
    (or kind_of (mapped statements.CreateTable (tables.create depth))
    (or kind_of (mapped statements.DropTable tables.drop_table) (mapped statements.AlterTable alter_table))))

-- statements on rows
abbrev pub on_rows_shape : Shape
on_rows_shape = record {
  empty = false;
  first = k.insert_word ∷ k.update_word ∷ k.delete_word ∷ k.select_word ∷ [];
  after = rows.insert_shape.after ++ rows.update_shape.after ++ rows.delete_shape.after ++ queries.select_shape.after;
}

unfoldable pub on_rows : ℕ → Rule Lexeme on_rows_shape Statement
on_rows depth =
    widen on_rows_shape
    (or kind_of (mapped statements.Insert (rows.insert depth))
    (or kind_of (mapped statements.Update (rows.update depth))
    (or kind_of (mapped statements.Delete (rows.delete depth)) (mapped statements.Select (queries.select depth)))))

abbrev pub statement_shape : Shape
statement_shape = record {
  empty = false;
  first = on_transactions_shape.first ++ on_tables_shape.first ++ on_rows_shape.first;
  after = on_transactions_shape.after ++ on_tables_shape.after ++ on_rows_shape.after;
}

unfoldable pub statement : ℕ → Rule Lexeme statement_shape Statement
statement depth = widen statement_shape (or kind_of on_transactions (or kind_of (on_tables depth) (on_rows depth)))

-- a statement that may be left out, behind those before it
abbrev pub with_statement : List Statement → Option Statement → List Statement
with_statement before None = before
with_statement before (Some s) = before ++ s ∷ []

abbrev pub maybe_shape : Shape
maybe_shape = at_most_once statement_shape

unfoldable pub maybe : ℕ → Rule Lexeme maybe_shape (Option Statement)
maybe depth = optional kind_of (statement depth)

unfoldable pub next_statement : ℕ → Rule Lexeme (both (one_of k.semicolon) maybe_shape) (Option Statement)
next_statement depth = k.semicolon ▸ maybe depth

-- what is read of a script behind the statements so far
unfoldable pub statements_from : ℕ → List Statement → List Lexeme → Step Lexeme (List Statement)
statements_from depth so_far ts = fold_from kind_of (in_turn with_statement) (next_statement depth) so_far ts

-- script := [ statement ] { ";" [ statement ] }
abbrev pub script_shape : Shape
script_shape = both maybe_shape (at_most_once (both (one_of k.semicolon) maybe_shape))

abbrev pub in_order : Option Statement → List (Option Statement) → List Statement
in_order first others = in_turn with_statement (with_statement [] first) others

unfoldable pub script_at : ℕ → Rule Lexeme script_shape (List Statement)
script_at depth = pair in_order (maybe depth) (many kind_of (next_statement depth))

unfoldable pub script : Rule Lexeme script_shape (List Statement)
script = script_at levels
