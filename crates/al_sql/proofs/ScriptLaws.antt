-- Statements and scripts are read lawfully.
use Rattle.std.proofs.Common.{◌≡◌, ℕ, true, false, List, [], ◌∷◌, Option, refl}
use Rattle.al_grammar.specs.Kinds.{starts}
use Rattle.al_grammar.specs.Rules.{Shape, read, fault, both, many}
use Rattle.al_grammar.specs.Laws.{Lawful}
use Rattle.al_grammar.proofs.Pair.{lawful_pair}
use Rattle.al_grammar.proofs.Choices.{lawful_or, lawful_optional, lawful_mapped}
use Rattle.al_grammar.proofs.Many.{lawful_many}
use Rattle.al_grammar.proofs.More.{lawful_widen}
use Rattle.al_grammar.proofs.Rows.{fold_on, fold_off, fold_stop}
use Rattle.al_phrases.specs.declared.lexeme.Lexeme.{Lexeme}
use Rattle.al_phrases.specs.Kinds as k
use Rattle.al_phrases.specs.Words.{kind_of, one_of}
use Rattle.al_phrases.proofs.WordLaws.{lawful_front}
use Rattle.al_statements.specs.declared.script.Statement.{Statement}
use Rattle.al_statements.specs.declared.script.Statement.TheVariants as statements
use Rattle.al_phrases.specs.Rows.{in_turn}
use Rattle.al_altersql.specs.Alter.{levels, alter_table}
use Rattle.al_altersql.proofs.AlterLaws.{lawful_alter_table}
use Rattle.al_sql.specs.Transactions as t
use Rattle.al_sql.specs.Tables as d
use Rattle.al_sql.specs.Rows as r
use Rattle.al_sql.specs.Queries as q
use Rattle.al_sql.specs.Scripts as s
use Rattle.al_sql.proofs.TransactionLaws.{lawful_begin, lawful_start, lawful_finish, lawful_set}
use Rattle.al_sql.proofs.TableLaws.{lawful_lock, lawful_create, lawful_drop_table}
use Rattle.al_sql.proofs.RowLaws.{lawful_insert, lawful_update, lawful_delete}
use Rattle.al_sql.proofs.QueryLaws.{lawful_select}

lawful_on_transactions : Lawful kind_of s.on_transactions
unfolding s.on_transactions
lawful_on_transactions =
    let one = lawful_or _ _ _ _ kind_of t.finish t.set lawful_finish lawful_set refl refl refl in
    let two = lawful_or _ _ _ _ kind_of t.start _ lawful_start one refl refl refl in
    lawful_widen _ _ _ s.on_transactions_shape kind_of _ (lawful_or _ _ _ _ kind_of t.begin _ lawful_begin two refl refl refl) (λ h. h) refl refl

lawful_on_tables : (depth : ℕ) → Lawful kind_of (s.on_tables depth)
unfolding s.on_tables
lawful_on_tables depth =
    let alter = lawful_mapped _ _ _ _ kind_of statements.AlterTable alter_table (lawful_alter_table) in
    let drop = lawful_mapped _ _ _ _ kind_of statements.DropTable d.drop_table (lawful_drop_table) in
    let one = lawful_or _ _ _ _ kind_of _ _ drop alter refl refl refl in
    let create = lawful_mapped _ _ _ _ kind_of statements.CreateTable (d.create depth) (lawful_create depth) in
    let two = lawful_or _ _ _ _ kind_of _ _ create one refl refl refl in
    let lock = lawful_mapped _ _ _ _ kind_of statements.LockTable d.lock (lawful_lock) in
    lawful_widen _ _ _ s.on_tables_shape kind_of _ (lawful_or _ _ _ _ kind_of _ _ lock two refl refl refl) (λ h. h) refl refl

lawful_on_rows : (depth : ℕ) → Lawful kind_of (s.on_rows depth)
unfolding s.on_rows
lawful_on_rows depth =
    let select = lawful_mapped _ _ _ _ kind_of statements.Select (q.select depth) (lawful_select depth) in
    let delete = lawful_mapped _ _ _ _ kind_of statements.Delete (r.delete depth) (lawful_delete depth) in
    let one = lawful_or _ _ _ _ kind_of _ _ delete select refl refl refl in
    let update = lawful_mapped _ _ _ _ kind_of statements.Update (r.update depth) (lawful_update depth) in
    let two = lawful_or _ _ _ _ kind_of _ _ update one refl refl refl in
    let insert = lawful_mapped _ _ _ _ kind_of statements.Insert (r.insert depth) (lawful_insert depth) in
    lawful_widen _ _ _ s.on_rows_shape kind_of _ (lawful_or _ _ _ _ kind_of _ _ insert two refl refl refl) (λ h. h) refl refl

lawful_statement : (depth : ℕ) → Lawful kind_of (s.statement depth)
unfolding s.statement
lawful_statement depth =
    let one = lawful_or _ _ _ _ kind_of (s.on_tables depth) (s.on_rows depth) (lawful_on_tables depth) (lawful_on_rows depth) refl refl refl in
    lawful_widen _ _ _ s.statement_shape kind_of _ (lawful_or _ _ _ _ kind_of s.on_transactions _ lawful_on_transactions one refl refl refl) (λ h. h) refl refl

lawful_maybe : (depth : ℕ) → Lawful kind_of (s.maybe depth)
unfolding s.maybe
lawful_maybe depth = lawful_optional _ _ _ kind_of (s.statement depth) (lawful_statement depth) refl

lawful_next_statement : (depth : ℕ) → Lawful kind_of (s.next_statement depth)
unfolding s.next_statement
lawful_next_statement depth = lawful_front _ _ (s.maybe depth) (lawful_maybe depth) k.semicolon refl

abbrev next_shape : Shape
next_shape = both (one_of k.semicolon) s.maybe_shape

lawful_script_at : (depth : ℕ) → Lawful kind_of (s.script_at depth)
unfolding s.script_at
lawful_script_at depth =
    let others = lawful_many Lexeme (Option Statement) next_shape kind_of (s.next_statement depth) (lawful_next_statement depth) refl refl in
    lawful_pair _ _ _ _ _ _ kind_of (s.maybe depth) (many kind_of (s.next_statement depth)) s.in_order (lawful_maybe depth) others refl

pub lawful_script : Lawful kind_of s.script
unfolding s.script
lawful_script = lawful_script_at levels

-- ---- statements, as code reads them by a loop

pub statements_on : (depth : ℕ) (xs : List Statement) (v : Option Statement) (ts mid : List Lexeme) → starts kind_of false (k.semicolon ∷ []) ts ≡ true → (s.next_statement depth).reads ts ≡ read v mid → s.statements_from depth xs ts ≡ s.statements_from depth (s.with_statement xs v) mid
unfolding s.statements_from
statements_on depth = fold_on Lexeme (Option Statement) (List Statement) next_shape kind_of (s.next_statement depth) (lawful_next_statement depth) refl (in_turn s.with_statement) s.with_statement (λ x. refl) (λ x v vs. refl)

pub statements_off : (depth : ℕ) (xs : List Statement) (ts : List Lexeme) (n : ℕ) → starts kind_of false (k.semicolon ∷ []) ts ≡ true → (s.next_statement depth).reads ts ≡ fault n → s.statements_from depth xs ts ≡ fault n
unfolding s.statements_from
statements_off depth = fold_off Lexeme (Option Statement) (List Statement) next_shape kind_of (s.next_statement depth) (lawful_next_statement depth) refl (in_turn s.with_statement) s.with_statement (λ x. refl) (λ x v vs. refl)

pub statements_stop : (depth : ℕ) (xs : List Statement) (ts : List Lexeme) → starts kind_of false (k.semicolon ∷ []) ts ≡ false → s.statements_from depth xs ts ≡ read xs ts
unfolding s.statements_from
statements_stop depth = fold_stop Lexeme (Option Statement) (List Statement) next_shape kind_of (s.next_statement depth) (lawful_next_statement depth) refl (in_turn s.with_statement) s.with_statement (λ x. refl) (λ x v vs. refl)
