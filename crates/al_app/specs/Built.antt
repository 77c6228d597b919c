-- Which statements are built, and what each says (BEGIN, COMMIT, ROLLBACK, CREATE TABLE, INSERT, SELECT, ALTER TABLE in Part VI):
-- BEGIN without a level, COMMIT, ROLLBACK; CREATE TABLE of integer columns; INSERT of one row of values; SELECT * of a table; ALTER
-- TABLE that adds an integer column, with a default or without.
use Rattle.std.specs.Prelude.{ℕ, List, [], ◌∷◌, ◌++◌, Bool, true, false, not, ◌&&◌, if◌then◌else◌, Option, Some, None, is_some, option_map, option_and_then, Result, Ok, Err}
use Rattle.al_values.specs.declared.kinds.Kind.{Kind}
use Rattle.al_values.specs.declared.kinds.Kind.TheVariants as kinds
use Rattle.al_values.specs.declared.scalar.Value.{Value}
use Rattle.al_values.specs.declared.scalar.Value.TheVariants as values
use Rattle.al_expr.specs.declared.fault.EvalFault.{EvalFault}
use Rattle.al_expr.specs.declared.kinds.TypeFault.{TypeFault}
use Rattle.al_expr.specs.declared.kinds.Typed.{Typed}
use Rattle.al_expr.specs.declared.tree.Expr.{Expr}
use Rattle.al_expr.specs.Roots.{root_of, stored_of, is_assignable}
use Rattle.al_expr.specs.Typing.{kind_is}
use Rattle.al_statements.specs.declared.alter.Alter.{Alter}
use Rattle.al_statements.specs.declared.alter.Change.{Change}
use Rattle.al_statements.specs.declared.alter.Change.TheVariants as changes
use Rattle.al_statements.specs.declared.alter.Sub.{Sub}
use Rattle.al_statements.specs.declared.alter.Sub.TheVariants as subs
use Rattle.al_statements.specs.declared.column.ColumnDefinition.{ColumnDefinition}
use Rattle.al_statements.specs.declared.query.Query.{Query}
use Rattle.al_statements.specs.declared.query.Query.TheVariants as queries
use Rattle.al_statements.specs.declared.query.SelectList.{SelectList}
use Rattle.al_statements.specs.declared.query.SelectList.TheVariants as select_lists
use Rattle.al_statements.specs.declared.query.TableQuery.{TableQuery}
use Rattle.al_statements.specs.declared.rows.Insert.{Insert}
use Rattle.al_statements.specs.declared.rows.InsertRows.{InsertRows}
use Rattle.al_statements.specs.declared.rows.InsertRows.TheVariants as insert_rows
use Rattle.al_statements.specs.declared.rows.Slot.{Slot}
use Rattle.al_statements.specs.declared.rows.Slot.TheVariants as slots
use Rattle.al_statements.specs.declared.script.Statement.{Statement as Tree}
use Rattle.al_statements.specs.declared.script.Statement.TheVariants as trees
use Rattle.al_statements.specs.declared.tables.CreateTable.{CreateTable}
use Rattle.al_statements.specs.declared.tables.Element.{Element}
use Rattle.al_statements.specs.declared.tables.Element.TheVariants as elements
use Rattle.al_history.specs.declared.statement.Statement.{Statement}
use Rattle.al_history.specs.declared.statement.Statement.TheVariants as statements

-- what each of a list is built as, behind what came before; None where one isn't built
abbrev pub all_from : {A B : Type 0} → (A → Option B) → List B → List A → Option (List B)
all_from build before [] = Some before
all_from build before (x ∷ xs) = option_and_then (λ y. all_from build (before ++ y ∷ []) xs) (build x)

-- ---- values

-- a value, where the expression has a kind that an integer column may store, and no fault
abbrev pub stored_value : Result Typed TypeFault → Result Value EvalFault → Option Value
stored_value (Ok typed) (Ok value) = if is_assignable typed kinds.Integer then Some value else None
stored_value kind value = None

-- the value of an expression that names no column, as an integer column stores it (10.4)
abbrev pub value_of : Expr → Option Value
value_of expr = stored_value (kind_is expr []) (stored_of kinds.Integer (root_of expr [] []))

abbrev pub slot_value : Slot → Option Value
slot_value (slots.Value expr) = value_of expr
slot_value slots.Default = None

-- ---- columns

abbrev pub is_empty : {A : Type 0} → List A → Bool
is_empty [] = true
is_empty (x ∷ xs) = false

abbrev pub is_integer : Kind → Bool
is_integer kinds.Integer = true
is_integer kind = false

-- an integer column without constraints
abbrev pub is_plain : ColumnDefinition → Bool
is_plain column = is_integer column.kind && (not column.not_null && is_empty column.constraints)

-- and without a default
abbrev pub column_name : Element → Option (List ℕ)
column_name (elements.Column column) = if is_plain column && not (is_some column.default) then Some column.name else None
column_name (elements.Constraint constraint) = None

-- the value after DEFAULT; Null where it isn't written
abbrev pub default_of : Option Expr → Option Value
default_of None = Some values.Null
default_of (Some expr) = value_of expr

-- ---- statements

abbrev pub created : CreateTable → Option Statement
created create =
    if is_empty create.parents then option_map (statements.CreateTable create.name) (all_from column_name [] create.elements) else None

abbrev pub row_of : InsertRows → Option (List Value)
row_of (insert_rows.Values (tuple ∷ [])) = all_from slot_value [] tuple
row_of rows = None

abbrev pub inserted : Insert → Option Statement
inserted insert = if is_some insert.columns then None else option_map (statements.Insert insert.table) (row_of insert.rows)

abbrev pub gives_all : SelectList → Bool
gives_all select_lists.All = true
gives_all list = false

-- all columns of all rows of a table, and no more
abbrev pub is_whole : TableQuery → Bool
is_whole query =
    (gives_all query.list && not query.target.only)
    && (not (is_some query.condition) && (is_empty query.order && not (is_some query.lock)))

abbrev pub selected : Query → Option Statement
selected (queries.Table query) = if is_whole query then Some (statements.Select query.target.name) else None
selected (queries.Row outputs) = None

abbrev pub added : List ℕ → ColumnDefinition → Option Statement
added table column =
    if is_plain column
    then option_map (λ value. statements.AddColumn table (record { name = column.name; default = value })) (default_of column.default)
    else None

abbrev pub changed : List ℕ → Change → Option Statement
changed table (changes.Subs (subs.AddColumn column ∷ [])) = added table column
changed table change = None

abbrev pub altered : Alter → Option Statement
altered alter = if alter.target.only then None else changed alter.target.name alter.change

abbrev pub built : Tree → Option Statement
built (trees.Begin None) = Some statements.Begin
built trees.Commit = Some statements.Commit
built trees.Rollback = Some statements.Rollback
built (trees.CreateTable create) = created create
built (trees.Insert insert) = inserted insert
built (trees.Select query) = selected query
built (trees.AlterTable alter) = altered alter
built tree = None
