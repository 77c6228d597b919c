-- LOCK TABLE, CREATE TABLE and DROP TABLE (the manual, the pages of these statements), over tokens.
use Rattle.std.specs.Prelude.{ℕ, Bool, true, false, List, [], ◌∷◌, Option, Some, None}
use Rattle.al_grammar.specs.Kinds.{among}
use Rattle.al_grammar.specs.Rules.{Shape, Step, Rule, leaf, leaf_shape, pair, then_rule, both, optional, at_most_once, mapped, or, either, widen}
use Rattle.al_grammar.specs.Gives.{many_from}
use Rattle.al_modes.specs.declared.mode.Mode.{Mode}
use Rattle.al_modes.specs.declared.mode.Mode.TheVariants as modes
use Rattle.al_statements.specs.declared.tables.Target.{Target}
use Rattle.al_statements.specs.declared.tables.LockTable.{LockTable}
use Rattle.al_statements.specs.declared.tables.Element.{Element}
use Rattle.al_statements.specs.declared.tables.Element.TheVariants as elements
use Rattle.al_statements.specs.declared.tables.CreateTable.{CreateTable}
use Rattle.al_statements.specs.declared.tables.DropTable.{DropTable}
use Rattle.al_phrases.specs.declared.lexeme.Lexeme.{Lexeme}
use Rattle.al_phrases.specs.Kinds as k
use Rattle.al_phrases.specs.Words.{kind_of, one_of, word, given, name_shape, name, name_list, comma_shape, comma_list, ◌▸◌, ◌◂◌}
use Rattle.al_phrases.specs.Columns.{named_shape, demand_shape, table_constraint, bare_shape, clause_shape, column_definition, names_shape, names_in_parens}
use Rattle.al_altersql.specs.Alter.{noise_shape, noise, target_shape, target}
use Rattle.al_sql.specs.declared.following.Following.{Following}
use Rattle.al_sql.specs.declared.following.Following.TheVariants as followings
use Rattle.al_sql.specs.Phrases.{or_none, comma_next, next_of}

-- ---- LOCK

-- ACCESS ( SHARE | EXCLUSIVE ), and ROW ( SHARE | EXCLUSIVE )
abbrev pub strength : Mode → Mode → Rule Lexeme (either (one_of k.share_word) (one_of k.exclusive_word)) Mode
strength share exclusive = or kind_of (mapped (λ u. share) (word k.share_word)) (mapped (λ u. exclusive) (word k.exclusive_word))

-- SHARE [ UPDATE EXCLUSIVE | ROW EXCLUSIVE ]
abbrev pub beside_share_shape : Shape
beside_share_shape = either (both (one_of k.update_word) (one_of k.exclusive_word)) (both (one_of k.row_word) (one_of k.exclusive_word))

unfoldable pub beside_share : Rule Lexeme beside_share_shape Mode
beside_share = or kind_of (mapped (λ u. modes.ShareUpdateExclusive) (k.update_word ▸ word k.exclusive_word)) (mapped (λ u. modes.ShareRowExclusive) (k.row_word ▸ word k.exclusive_word))

abbrev pub or_else : Mode → Option Mode → Mode
or_else mode None = mode
or_else mode (Some other) = other

unfoldable pub share_mode : Rule Lexeme (both (one_of k.share_word) (at_most_once beside_share_shape)) Mode
share_mode = k.share_word ▸ mapped (or_else modes.Share) (optional kind_of beside_share)

-- mode := ACCESS SHARE | ROW SHARE | ROW EXCLUSIVE | SHARE UPDATE EXCLUSIVE | SHARE | SHARE ROW EXCLUSIVE | EXCLUSIVE | ACCESS EXCLUSIVE
abbrev pub mode_shape : Shape
mode_shape = record {
  empty = false;
  first = k.access_word ∷ k.row_word ∷ k.share_word ∷ k.exclusive_word ∷ [];
  after = k.update_word ∷ k.row_word ∷ [];
}

unfoldable pub mode : Rule Lexeme mode_shape Mode
mode =
    widen mode_shape
    (or kind_of (k.access_word ▸ strength modes.AccessShare modes.AccessExclusive)
    (or kind_of (k.row_word ▸ strength modes.RowShare modes.RowExclusive)
    (or kind_of share_mode (mapped (λ u. modes.Exclusive) (word k.exclusive_word)))))

-- [ IN mode MODE ]
abbrev pub in_mode_shape : Shape
in_mode_shape = both (one_of k.in_word) (both mode_shape (one_of k.mode_word))

unfoldable pub in_mode : Rule Lexeme (at_most_once in_mode_shape) Mode
in_mode = mapped (or_else modes.AccessExclusive) (optional kind_of (k.in_word ▸ (mode ◂ k.mode_word)))

-- target { "," target }
unfoldable pub target_list : Rule Lexeme (comma_shape target_shape) (List Target)
target_list = comma_list target

unfoldable pub next_target : Rule Lexeme (comma_next target_shape) Target
next_target = next_of target

unfoldable pub targets_from : List Target → List Lexeme → Step Lexeme (List Target)
targets_from so_far ts = many_from kind_of next_target so_far ts

-- LOCK [ TABLE ] target { "," target } [ IN mode MODE ] [ NOWAIT ]
abbrev pub manner_shape : Shape
manner_shape = both (at_most_once in_mode_shape) (at_most_once (one_of k.nowait_word))

abbrev pub lock_of : List Target → Mode × Bool → LockTable
lock_of targets manner = record { targets = targets; mode = manner.0; nowait = manner.1 }

abbrev pub lock_shape : Shape
lock_shape = both (one_of k.lock_word) (noise_shape k.table_word (both (comma_shape target_shape) manner_shape))

unfoldable pub lock : Rule Lexeme lock_shape LockTable
lock = k.lock_word ▸ noise k.table_word (pair lock_of target_list (pair (λ mode nowait. (mode, nowait)) in_mode (given k.nowait_word)))

-- ---- CREATE TABLE

-- item := coldef | [ CONSTRAINT name ] rule
abbrev pub element_shape : Shape
element_shape = either (both (at_most_once named_shape) demand_shape) (both bare_shape (at_most_once clause_shape))

unfoldable pub element : ℕ → Rule Lexeme element_shape Element
element depth = or kind_of (mapped elements.Constraint (table_constraint depth)) (mapped elements.Column (column_definition depth))

-- item { "," item }
unfoldable pub element_list : ℕ → Rule Lexeme (comma_shape element_shape) (List Element)
element_list depth = comma_list (element depth)

unfoldable pub next_element : ℕ → Rule Lexeme (comma_next element_shape) Element
next_element depth = next_of (element depth)

unfoldable pub elements_from : ℕ → List Element → List Lexeme → Step Lexeme (List Element)
elements_from depth so_far ts = many_from kind_of (next_element depth) so_far ts

-- "(" [ item { "," item } ] ")"
abbrev pub elements_shape : Shape
elements_shape = both (one_of k.left_paren) (either (one_of k.right_paren) (both (comma_shape element_shape) (one_of k.right_paren)))

abbrev pub no_elements : Unit {0} → List Element
no_elements u = []

unfoldable pub elements_in_parens : ℕ → Rule Lexeme elements_shape (List Element)
elements_in_parens depth = k.left_paren ▸ or kind_of (mapped no_elements (word k.right_paren)) (element_list depth ◂ k.right_paren)

-- [ INHERITS "(" names ")" ]
abbrev pub inherits_shape : Shape
inherits_shape = both (one_of k.inherits_word) names_shape

unfoldable pub inherits : Rule Lexeme (at_most_once inherits_shape) (List (List ℕ))
inherits = mapped or_none (optional kind_of (k.inherits_word ▸ names_in_parens))

-- CREATE TABLE name "(" [ item { "," item } ] ")" [ INHERITS "(" names ")" ]
abbrev pub create_of : List ℕ → List Element × List (List ℕ) → CreateTable
create_of called what = record { name = called; elements = what.0; parents = what.1 }

abbrev pub create_shape : Shape
create_shape = both (one_of k.create_word) (both (one_of k.table_word) (both name_shape (both elements_shape (at_most_once inherits_shape))))

unfoldable pub create : ℕ → Rule Lexeme create_shape CreateTable
create depth = k.create_word ▸ (k.table_word ▸ pair create_of name (pair (λ items parents. (items, parents)) (elements_in_parens depth) inherits))

-- ---- DROP TABLE

-- stands in for EXISTS behind another name than IF; no text has it
abbrev pub late_exists : ℕ
late_exists = 29

abbrev pub exists_first : List ℕ
exists_first = k.exists_word ∷ late_exists ∷ []

abbrev pub exists_mark : Bool → Rule Lexeme (leaf_shape exists_first) (Unit {0})
exists_mark true = widen (leaf_shape exists_first) (word k.exists_word)
exists_mark false = widen (leaf_shape exists_first) (word late_exists)

-- a name, and whether it is the word IF
unfoldable pub first_name : Rule Lexeme name_shape (Bool × List ℕ)
first_name = leaf kind_of k.names (λ t. Some (among t.kind (k.if_word ∷ []), t.text))

-- what follows it: EXISTS names, where it is IF, or the other names
abbrev pub following_shape : Shape
following_shape = either (both (leaf_shape exists_first) (comma_shape name_shape)) (both (one_of k.comma) (comma_shape name_shape))

unfoldable pub following : Bool → Rule Lexeme following_shape Following
following is_if = or kind_of (pair (λ u names. followings.Exists names) (exists_mark is_if) name_list) (mapped followings.Names (k.comma ▸ name_list))

abbrev pub dropped_of : Bool × List ℕ → Option Following → DropTable
dropped_of first None = record { if_exists = false; names = first.1 ∷ [] }
dropped_of first (Some (followings.Names names)) = record { if_exists = false; names = first.1 ∷ names }
dropped_of first (Some (followings.Exists names)) = record { if_exists = true; names = names }

abbrev pub dropped_shape : Shape
dropped_shape = both name_shape (at_most_once following_shape)

unfoldable pub dropped : Rule Lexeme dropped_shape DropTable
dropped = then_rule dropped_of first_name (λ first. optional kind_of (following first.0))

-- DROP TABLE [ IF EXISTS ] names [ RESTRICT ]
abbrev pub drop_shape : Shape
drop_shape = both (one_of k.drop_word) (both (one_of k.table_word) (both dropped_shape (at_most_once (one_of k.restrict_word))))

unfoldable pub drop_table : Rule Lexeme drop_shape DropTable
drop_table = k.drop_word ▸ (k.table_word ▸ pair (λ what restrict. what) dropped (given k.restrict_word))
