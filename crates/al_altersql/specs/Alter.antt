-- ALTER TABLE (the manual, ALTER TABLE), over tokens. `depth` is how many levels an expression in it may open.
use Rattle.std.specs.Prelude.{ℕ, ℤ, pos, negsuc, neg_ℤ, Bool, true, false, ◌&&◌, nat_le, List, [], ◌∷◌, ◌++◌, Option, Some, None}
use Rattle.al_grammar.specs.Rules.{Shape, Step, Rule, leaf, leaf_shape, pair, then_rule, both, optional, at_most_once, mapped, or, either, widen, next_item}
use Rattle.al_grammar.specs.Gives.{many_from}
use Rattle.al_expr.specs.declared.tree.Expr.{Expr}
use Rattle.al_statements.specs.declared.column.Rule.{Rule as Demand}
use Rattle.al_statements.specs.declared.column.Rule.TheVariants as demands
use Rattle.al_statements.specs.declared.tables.Target.{Target}
use Rattle.al_statements.specs.declared.alter.Sub.{Sub}
use Rattle.al_statements.specs.declared.alter.Sub.TheVariants as subs
use Rattle.al_statements.specs.declared.alter.Rename.{Rename}
use Rattle.al_statements.specs.declared.alter.Rename.TheVariants as renames
use Rattle.al_statements.specs.declared.alter.Change.{Change}
use Rattle.al_statements.specs.declared.alter.Change.TheVariants as changes
use Rattle.al_statements.specs.declared.alter.Alter.{Alter}
use Rattle.al_phrases.specs.declared.lexeme.Lexeme.{Lexeme}
use Rattle.al_phrases.specs.Kinds as k
use Rattle.al_phrases.specs.Words.{kind_of, one_of, word, given, is_there, name_shape, name, comma_shape, comma_list, ◌▸◌, ◌◂◌}
use Rattle.al_phrases.specs.Types.{type_shape, type_name}
use Rattle.al_phrases.specs.Expressions.{or_shape, concat_shape, expression, concatenation}
use Rattle.al_phrases.specs.Columns.{named_shape, demand_shape, table_constraint, bare_shape, clause_shape, column_definition}
use Rattle.al_altersql.specs.declared.action.Action.{Action}
use Rattle.al_altersql.specs.declared.action.Action.TheVariants as actions

-- how many levels an expression of a statement may open
abbrev pub levels : ℕ
levels = 200

-- ---- what other statements share

-- a word that may be left out and means nothing, and what follows
abbrev pub noise_shape : ℕ → Shape → Shape
noise_shape k s = both (at_most_once (one_of k)) s

abbrev pub noise : {A : Type 0} {s : Shape} → (k : ℕ) → Rule Lexeme s A → Rule Lexeme (noise_shape k s) A
noise k p = pair (λ there v. v) (given k) p

-- target := [ ONLY ] name
abbrev pub target_of : Bool → List ℕ → Target
target_of only called = record { only = only; name = called }

abbrev pub target_shape : Shape
target_shape = noise_shape k.only_word name_shape

unfoldable pub target : Rule Lexeme target_shape Target
target = pair target_of (given k.only_word) name

-- an integer, which has no sign of its own
abbrev pub unsigned : ℤ → Option ℤ
unsigned (pos n) = Some (pos n)
unsigned (negsuc n) = None

unfoldable pub whole_number : Rule Lexeme (one_of k.integer_token) ℤ
whole_number = leaf kind_of (k.integer_token ∷ []) (λ t. unsigned t.number)

-- sint := [ "-" ] integer
abbrev pub signed : Bool → ℤ → ℤ
signed true number = neg_ℤ number
signed false number = number

abbrev pub sint_shape : Shape
sint_shape = noise_shape k.minus (one_of k.integer_token)

unfoldable pub sint : Rule Lexeme sint_shape ℤ
sint = pair signed (given k.minus) whole_number

-- ---- ADD

-- stands in for the NOT of NOT VALID where it can't stand; no text has it
abbrev pub late_not : ℕ
late_not = 28

-- NOT VALID stands behind CHECK and FOREIGN KEY alone
abbrev pub takes_not_valid : Demand → Bool
takes_not_valid (demands.Check condition alone) = true
takes_not_valid (demands.ForeignKey columns table keys) = true
takes_not_valid (demands.Unique columns) = false
takes_not_valid (demands.PrimaryKey columns) = false

abbrev pub not_valid_first : List ℕ
not_valid_first = k.not_word ∷ late_not ∷ []

abbrev pub not_mark : Bool → Rule Lexeme (leaf_shape not_valid_first) (Unit {0})
not_mark true = widen (leaf_shape not_valid_first) (word k.not_word)
not_mark false = widen (leaf_shape not_valid_first) (word late_not)

-- [ NOT VALID ]
abbrev pub not_valid_shape : Shape
not_valid_shape = both (leaf_shape not_valid_first) (one_of k.valid_word)

unfoldable pub not_valid : Bool → Rule Lexeme (at_most_once not_valid_shape) Bool
not_valid may_stand = mapped is_there (optional kind_of (pair (λ u v. v) (not_mark may_stand) (word k.valid_word)))

-- [ COLUMN ] coldef
abbrev pub new_column_shape : Shape
new_column_shape = noise_shape k.column_word (both bare_shape (at_most_once clause_shape))

unfoldable pub new_column : ℕ → Rule Lexeme new_column_shape Sub
new_column depth = mapped subs.AddColumn (noise k.column_word (column_definition depth))

-- [ CONSTRAINT name ] rule [ NOT VALID ]
abbrev pub new_constraint_shape : Shape
new_constraint_shape = both (both (at_most_once named_shape) demand_shape) (at_most_once not_valid_shape)

unfoldable pub new_constraint : ℕ → Rule Lexeme new_constraint_shape Sub
new_constraint depth = then_rule subs.AddConstraint (table_constraint depth) (λ constraint. not_valid (takes_not_valid constraint.rule))

-- ADD [ COLUMN ] coldef | ADD [ CONSTRAINT name ] rule [ NOT VALID ]
abbrev pub add_shape : Shape
add_shape = both (one_of k.add_word) (either new_constraint_shape new_column_shape)

unfoldable pub add : ℕ → Rule Lexeme add_shape Sub
add depth = k.add_word ▸ or kind_of (new_constraint depth) (new_column depth)

-- ---- DROP

-- name [ RESTRICT ]
abbrev pub dropped_shape : Shape
dropped_shape = both name_shape (at_most_once (one_of k.restrict_word))

unfoldable pub dropped : Rule Lexeme dropped_shape (List ℕ)
dropped = pair (λ called restrict. called) name (given k.restrict_word)

-- DROP CONSTRAINT name [ RESTRICT ] | DROP [ COLUMN ] name [ RESTRICT ]
abbrev pub remove_shape : Shape
remove_shape = both (one_of k.drop_word) (either (both (one_of k.constraint_word) dropped_shape) (noise_shape k.column_word dropped_shape))

unfoldable pub remove : Rule Lexeme remove_shape Sub
remove = k.drop_word ▸ or kind_of (mapped subs.DropConstraint (k.constraint_word ▸ dropped)) (mapped subs.DropColumn (noise k.column_word dropped))

-- ---- ALTER of a column

-- TYPE kind [ USING expr ]
abbrev pub using_shape : Shape
using_shape = both (one_of k.using_word) or_shape

unfoldable pub using_clause : ℕ → Rule Lexeme using_shape Expr
using_clause depth = k.using_word ▸ expression depth

abbrev pub type_change_shape : Shape
type_change_shape = both (one_of k.type_word) (both type_shape (at_most_once using_shape))

unfoldable pub type_change : ℕ → Rule Lexeme type_change_shape Action
type_change depth = k.type_word ▸ pair actions.Type type_name (optional kind_of (using_clause depth))

-- NOT NULL
abbrev pub not_null_shape : Shape
not_null_shape = both (one_of k.not_word) (one_of k.null_word)

unfoldable pub not_null : Rule Lexeme not_null_shape (Unit {0})
not_null = k.not_word ▸ word k.null_word

-- SET DATA TYPE kind [ USING expr ] | SET DEFAULT cat | SET NOT NULL | SET STATISTICS sint
abbrev pub set_shape : Shape
set_shape = record {
  empty = false;
  first = k.set_word ∷ [];
  after = type_change_shape.after ++ concat_shape.after;
}

unfoldable pub set_action : ℕ → Rule Lexeme set_shape Action
set_action depth =
    widen set_shape
    (k.set_word ▸ or kind_of (k.data_word ▸ type_change depth)
    (or kind_of (mapped actions.SetDefault (k.default_word ▸ concatenation depth))
    (or kind_of (mapped (λ u. actions.SetNotNull) not_null) (mapped actions.SetStatistics (k.statistics_word ▸ sint)))))

-- DROP DEFAULT | DROP NOT NULL
abbrev pub unset_shape : Shape
unset_shape = both (one_of k.drop_word) (either (one_of k.default_word) not_null_shape)

unfoldable pub unset_action : Rule Lexeme unset_shape Action
unset_action = k.drop_word ▸ or kind_of (mapped (λ u. actions.DropDefault) (word k.default_word)) (mapped (λ u. actions.DropNotNull) not_null)

-- what may be done to a column
abbrev pub action_shape : Shape
action_shape = record {
  empty = false;
  first = k.type_word ∷ k.set_word ∷ k.drop_word ∷ [];
  after = set_shape.after;
}

unfoldable pub action : ℕ → Rule Lexeme action_shape Action
action depth = widen action_shape (or kind_of (type_change depth) (or kind_of (set_action depth) unset_action))

abbrev pub on_column : List ℕ → Action → Sub
on_column column (actions.Type kind value) = subs.AlterType column kind value
on_column column (actions.SetDefault value) = subs.SetDefault column value
on_column column actions.DropDefault = subs.DropDefault column
on_column column actions.SetNotNull = subs.SetNotNull column
on_column column actions.DropNotNull = subs.DropNotNull column
on_column column (actions.SetStatistics number) = subs.SetStatistics column number

-- ALTER [ COLUMN ] name and what is done to it
abbrev pub alter_shape : Shape
alter_shape = both (one_of k.alter_word) (noise_shape k.column_word (both name_shape action_shape))

unfoldable pub alter_column : ℕ → Rule Lexeme alter_shape Sub
alter_column depth = k.alter_word ▸ noise k.column_word (pair on_column name (action depth))

-- ---- the other subcommands

-- VALIDATE CONSTRAINT name
abbrev pub validate_shape : Shape
validate_shape = both (one_of k.validate_word) (both (one_of k.constraint_word) name_shape)

unfoldable pub validate : Rule Lexeme validate_shape Sub
validate = mapped subs.Validate (k.validate_word ▸ (k.constraint_word ▸ name))

-- a fillfactor is from 10 to 100
abbrev pub percent_in : Bool → ℕ → Option ℕ
percent_in true n = Some n
percent_in false n = None

abbrev pub percent_of : ℤ → Option ℕ
percent_of (pos n) = percent_in (nat_le 10 n && nat_le n 100) n
percent_of (negsuc n) = None

unfoldable pub percent : Rule Lexeme (one_of k.integer_token) ℕ
percent = leaf kind_of (k.integer_token ∷ []) (λ t. percent_of t.number)

-- SET "(" fillfactor "=" integer ")"
abbrev pub fillfactor_shape : Shape
fillfactor_shape = both (one_of k.set_word) (both (one_of k.left_paren) (both (one_of k.fillfactor_word) (both (one_of k.equal) (both (one_of k.integer_token) (one_of k.right_paren)))))

unfoldable pub fillfactor : Rule Lexeme fillfactor_shape Sub
fillfactor = mapped subs.SetFillfactor (k.set_word ▸ (k.left_paren ▸ (k.fillfactor_word ▸ (k.equal ▸ (percent ◂ k.right_paren)))))

-- INHERIT name | NO INHERIT name
abbrev pub inherit_shape : Shape
inherit_shape = both (one_of k.inherit_word) name_shape

unfoldable pub inherit : Rule Lexeme inherit_shape (List ℕ)
inherit = k.inherit_word ▸ name

abbrev pub sub_shape : Shape
sub_shape = record {
  empty = false;
  first = k.add_word ∷ k.drop_word ∷ k.alter_word ∷ k.validate_word ∷ k.set_word ∷ k.inherit_word ∷ k.no_word ∷ [];
  after = add_shape.after ++ remove_shape.after ++ alter_shape.after;
}

unfoldable pub sub : ℕ → Rule Lexeme sub_shape Sub
sub depth =
    widen sub_shape
    (or kind_of (add depth)
    (or kind_of remove
    (or kind_of (alter_column depth)
    (or kind_of validate
    (or kind_of fillfactor
    (or kind_of (mapped subs.Inherit inherit) (mapped subs.NoInherit (k.no_word ▸ inherit))))))))

-- sub { "," sub }
unfoldable pub sub_list : ℕ → Rule Lexeme (comma_shape sub_shape) (List Sub)
sub_list depth = comma_list (sub depth)

-- a comma and a subcommand, and what is read of a list behind the subcommands so far
unfoldable pub next_sub : ℕ → Rule Lexeme (both (one_of k.comma) sub_shape) Sub
next_sub depth = next_item (word k.comma) (sub depth)

unfoldable pub subs_from : ℕ → List Sub → List Lexeme → Step Lexeme (List Sub)
subs_from depth so_far ts = many_from kind_of (next_sub depth) so_far ts

-- ---- RENAME

-- TO name
abbrev pub new_name_shape : Shape
new_name_shape = both (one_of k.to_word) name_shape

unfoldable pub new_name : Rule Lexeme new_name_shape (List ℕ)
new_name = k.to_word ▸ name

-- name TO name
abbrev pub names_change_shape : Shape
names_change_shape = both name_shape new_name_shape

unfoldable pub names_change : Rule Lexeme names_change_shape (List ℕ × List ℕ)
names_change = pair (λ before behind. (before, behind)) name new_name

-- rename := RENAME ( TO name | CONSTRAINT name TO name | [ COLUMN ] name TO name )
abbrev pub rename_shape : Shape
rename_shape = both (one_of k.rename_word) (either new_name_shape (either (both (one_of k.constraint_word) names_change_shape) (noise_shape k.column_word names_change_shape)))

unfoldable pub rename : Rule Lexeme rename_shape Rename
rename =
    k.rename_word ▸ or kind_of (mapped renames.Table new_name)
    (or kind_of (mapped (λ n. renames.Constraint n.0 n.1) (k.constraint_word ▸ names_change)) (mapped (λ n. renames.Column n.0 n.1) (noise k.column_word names_change)))

-- ---- the statement

-- sub { "," sub } | rename
abbrev pub change_shape : Shape
change_shape = either rename_shape (comma_shape sub_shape)

unfoldable pub change : ℕ → Rule Lexeme change_shape Change
change depth = or kind_of (mapped changes.Rename rename) (mapped changes.Subs (sub_list depth))

abbrev pub alter_of : Target → Change → Alter
alter_of table what = record { target = table; change = what }

-- ALTER TABLE target ( sub { "," sub } | rename )
abbrev pub alter_table_shape : Shape
alter_table_shape = both (one_of k.alter_word) (both (one_of k.table_word) (both target_shape change_shape))

unfoldable pub alter_table : Rule Lexeme alter_table_shape Alter
alter_table = k.alter_word ▸ (k.table_word ▸ pair alter_of target (change levels))
