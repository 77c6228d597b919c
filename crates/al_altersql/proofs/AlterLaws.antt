-- ALTER TABLE is read lawfully.
use Rattle.std.proofs.Common.{◌≡◌, ℕ, pos, Bool, true, false, List, [], ◌∷◌, ◌++◌, refl}
use Rattle.al_grammar.specs.Kinds.{among, apart, starts}
use Rattle.al_grammar.specs.Rules.{Shape, Rule, read, fault, leaf_shape, both, optional}
use Rattle.al_grammar.specs.Laws.{Lawful}
use Rattle.al_grammar.proofs.Leaf.{lawful_leaf}
use Rattle.al_grammar.proofs.Pair.{lawful_pair, lawful_then}
use Rattle.al_grammar.proofs.Choices.{lawful_or, lawful_optional, lawful_mapped}
use Rattle.al_grammar.proofs.More.{lawful_widen}
use Rattle.al_grammar.proofs.Rows.{lawful_next, many_on, many_off, many_stop}
use Rattle.al_statements.specs.declared.column.Constraint.{Constraint}
use Rattle.al_statements.specs.declared.alter.Sub.{Sub}
use Rattle.al_statements.specs.declared.alter.Sub.TheVariants as subs
use Rattle.al_statements.specs.declared.alter.Rename.TheVariants as renames
use Rattle.al_statements.specs.declared.alter.Change.TheVariants as changes
use Rattle.al_phrases.specs.declared.lexeme.Lexeme.{Lexeme}
use Rattle.al_phrases.specs.Kinds as k
use Rattle.al_phrases.specs.Words.{kind_of, one_of, word, given, is_there, name}
use Rattle.al_phrases.specs.Types.{type_name}
use Rattle.al_phrases.specs.Expressions.{expression, concatenation}
use Rattle.al_phrases.specs.Columns.{table_constraint, column_definition}
use Rattle.al_phrases.proofs.WordLaws.{token, lawful_word, lawful_front, lawful_back, lawful_commas, lawful_given, lawful_name}
use Rattle.al_phrases.proofs.TypeLaws.{lawful_type}
use Rattle.al_phrases.proofs.ExpressionLaws.{lawful_expression, lawful_concatenation}
use Rattle.al_phrases.proofs.ColumnLaws.{lawful_table_constraint, lawful_column_definition}
use Rattle.al_altersql.specs.declared.action.Action.TheVariants as actions
use Rattle.al_altersql.specs.Alter as a

-- ---- what other statements share

pub lawful_noise : (A : Type 0) (s : Shape) (p : Rule Lexeme s A) → Lawful kind_of p → (k : ℕ) → among k (k ∷ []) ≡ true → apart (k ∷ []) s.first ≡ true → Lawful kind_of (a.noise k p)
lawful_noise A s p pl k h ok = lawful_pair _ _ _ _ _ _ kind_of (given k) p (λ there v. v) (lawful_given k h) pl ok

pub lawful_target : Lawful kind_of a.target
unfolding a.target
lawful_target = lawful_pair _ _ _ _ _ _ kind_of (given k.only_word) name a.target_of (lawful_given k.only_word refl) lawful_name refl

lawful_whole_number : Lawful kind_of a.whole_number
unfolding a.whole_number
lawful_whole_number = lawful_leaf _ _ kind_of (k.integer_token ∷ []) (λ t. a.unsigned t.number) (token k.integer_token) (pos 1) refl refl

pub lawful_sint : Lawful kind_of a.sint
unfolding a.sint
lawful_sint = lawful_pair _ _ _ _ _ _ kind_of (given k.minus) a.whole_number a.signed (lawful_given k.minus refl) lawful_whole_number refl

-- ---- ADD

lawful_not_mark : (may_stand : Bool) → Lawful kind_of (a.not_mark may_stand)
lawful_not_mark true = lawful_widen _ _ _ (leaf_shape a.not_valid_first) kind_of (word k.not_word) (lawful_word k.not_word refl) (λ h. h) refl refl
lawful_not_mark false = lawful_widen _ _ _ (leaf_shape a.not_valid_first) kind_of (word a.late_not) (lawful_word a.late_not refl) (λ h. h) refl refl

lawful_not_valid : (may_stand : Bool) → Lawful kind_of (a.not_valid may_stand)
unfolding a.not_valid
lawful_not_valid may_stand =
    let words = lawful_pair _ _ _ _ _ _ kind_of (a.not_mark may_stand) (word k.valid_word) (λ u v. v) (lawful_not_mark may_stand) (lawful_word k.valid_word refl) refl in
    lawful_mapped _ _ _ _ kind_of is_there _ (lawful_optional _ _ _ kind_of _ words refl)

lawful_new_column : (depth : ℕ) → Lawful kind_of (a.new_column depth)
unfolding a.new_column
lawful_new_column depth = lawful_mapped _ _ _ _ kind_of subs.AddColumn _ (lawful_noise _ _ (column_definition depth) (lawful_column_definition depth) k.column_word refl refl)

lawful_new_constraint : (depth : ℕ) → Lawful kind_of (a.new_constraint depth)
unfolding a.new_constraint
lawful_new_constraint depth =
    lawful_then _ _ _ _ _ _ kind_of (table_constraint depth) (λ (x : Constraint). a.not_valid (a.takes_not_valid x.rule)) subs.AddConstraint (lawful_table_constraint depth) (λ x. lawful_not_valid (a.takes_not_valid x.rule)) refl

lawful_add : (depth : ℕ) → Lawful kind_of (a.add depth)
unfolding a.add
lawful_add depth = lawful_front _ _ _ (lawful_or _ _ _ _ kind_of (a.new_constraint depth) (a.new_column depth) (lawful_new_constraint depth) (lawful_new_column depth) refl refl refl) k.add_word refl

-- ---- DROP

lawful_dropped : Lawful kind_of a.dropped
unfolding a.dropped
lawful_dropped = lawful_pair _ _ _ _ _ _ kind_of name (given k.restrict_word) (λ called restrict. called) lawful_name (lawful_given k.restrict_word refl) refl

lawful_remove : Lawful kind_of a.remove
unfolding a.remove
lawful_remove =
    let constraint = lawful_mapped _ _ _ _ kind_of subs.DropConstraint _ (lawful_front _ _ a.dropped lawful_dropped k.constraint_word refl) in
    let column = lawful_mapped _ _ _ _ kind_of subs.DropColumn _ (lawful_noise _ _ a.dropped lawful_dropped k.column_word refl refl) in
    lawful_front _ _ _ (lawful_or _ _ _ _ kind_of _ _ constraint column refl refl refl) k.drop_word refl

-- ---- ALTER of a column

lawful_using_clause : (depth : ℕ) → Lawful kind_of (a.using_clause depth)
unfolding a.using_clause
lawful_using_clause depth = lawful_front _ _ (expression depth) (lawful_expression depth) k.using_word refl

lawful_type_change : (depth : ℕ) → Lawful kind_of (a.type_change depth)
unfolding a.type_change
lawful_type_change depth =
    let value = lawful_optional _ _ _ kind_of (a.using_clause depth) (lawful_using_clause depth) refl in
    lawful_front _ _ _ (lawful_pair _ _ _ _ _ _ kind_of type_name (optional kind_of (a.using_clause depth)) actions.Type lawful_type value refl) k.type_word refl

lawful_not_null : Lawful kind_of a.not_null
unfolding a.not_null
lawful_not_null = lawful_front _ _ (word k.null_word) (lawful_word k.null_word refl) k.not_word refl

lawful_set_action : (depth : ℕ) → Lawful kind_of (a.set_action depth)
unfolding a.set_action
lawful_set_action depth =
    let null = lawful_mapped _ _ _ _ kind_of (λ (u : Unit {0}). actions.SetNotNull) a.not_null lawful_not_null in
    let number = lawful_mapped _ _ _ _ kind_of actions.SetStatistics _ (lawful_front _ _ a.sint lawful_sint k.statistics_word refl) in
    let one = lawful_or _ _ _ _ kind_of _ _ null number refl refl refl in
    let value = lawful_mapped _ _ _ _ kind_of actions.SetDefault _ (lawful_front _ _ (concatenation depth) (lawful_concatenation depth) k.default_word refl) in
    let two = lawful_or _ _ _ _ kind_of _ _ value one refl refl refl in
    let three = lawful_or _ _ _ _ kind_of _ _ (lawful_front _ _ (a.type_change depth) (lawful_type_change depth) k.data_word refl) two refl refl refl in
    lawful_widen _ _ _ a.set_shape kind_of _ (lawful_front _ _ _ three k.set_word refl) (λ h. h) refl refl

lawful_unset_action : Lawful kind_of a.unset_action
unfolding a.unset_action
lawful_unset_action =
    let value = lawful_mapped _ _ _ _ kind_of (λ (u : Unit {0}). actions.DropDefault) (word k.default_word) (lawful_word k.default_word refl) in
    let null = lawful_mapped _ _ _ _ kind_of (λ (u : Unit {0}). actions.DropNotNull) a.not_null lawful_not_null in
    lawful_front _ _ _ (lawful_or _ _ _ _ kind_of _ _ value null refl refl refl) k.drop_word refl

lawful_action : (depth : ℕ) → Lawful kind_of (a.action depth)
unfolding a.action
lawful_action depth =
    let one = lawful_or _ _ _ _ kind_of (a.set_action depth) a.unset_action (lawful_set_action depth) lawful_unset_action refl refl refl in
    lawful_widen _ _ _ a.action_shape kind_of _ (lawful_or _ _ _ _ kind_of (a.type_change depth) _ (lawful_type_change depth) one refl refl refl) (λ h. h) refl refl

lawful_alter_column : (depth : ℕ) → Lawful kind_of (a.alter_column depth)
unfolding a.alter_column
lawful_alter_column depth =
    let change = lawful_pair _ _ _ _ _ _ kind_of name (a.action depth) a.on_column lawful_name (lawful_action depth) refl in
    lawful_front _ _ _ (lawful_noise _ _ _ change k.column_word refl refl) k.alter_word refl

-- ---- the other subcommands

lawful_validate : Lawful kind_of a.validate
unfolding a.validate
lawful_validate = lawful_mapped _ _ _ _ kind_of subs.Validate _ (lawful_front _ _ _ (lawful_front _ _ name lawful_name k.constraint_word refl) k.validate_word refl)

lawful_percent : Lawful kind_of a.percent
unfolding a.percent
lawful_percent = lawful_leaf _ _ kind_of (k.integer_token ∷ []) (λ t. a.percent_of t.number) (record (token k.integer_token) { number = pos 10 }) 10 refl refl

lawful_fillfactor : Lawful kind_of a.fillfactor
unfolding a.fillfactor
lawful_fillfactor =
    let number = lawful_back _ _ a.percent lawful_percent k.right_paren refl refl in
    let equal = lawful_front _ _ _ (lawful_front _ _ _ number k.equal refl) k.fillfactor_word refl in
    lawful_mapped _ _ _ _ kind_of subs.SetFillfactor _ (lawful_front _ _ _ (lawful_front _ _ _ equal k.left_paren refl) k.set_word refl)

lawful_inherit : Lawful kind_of a.inherit
unfolding a.inherit
lawful_inherit = lawful_front _ _ name lawful_name k.inherit_word refl

lawful_sub : (depth : ℕ) → Lawful kind_of (a.sub depth)
unfolding a.sub
lawful_sub depth =
    let parent = lawful_mapped _ _ _ _ kind_of subs.Inherit a.inherit lawful_inherit in
    let none = lawful_mapped _ _ _ _ kind_of subs.NoInherit _ (lawful_front _ _ a.inherit lawful_inherit k.no_word refl) in
    let one = lawful_or _ _ _ _ kind_of _ _ parent none refl refl refl in
    let two = lawful_or _ _ _ _ kind_of a.fillfactor _ lawful_fillfactor one refl refl refl in
    let three = lawful_or _ _ _ _ kind_of a.validate _ lawful_validate two refl refl refl in
    let four = lawful_or _ _ _ _ kind_of (a.alter_column depth) _ (lawful_alter_column depth) three refl refl refl in
    let five = lawful_or _ _ _ _ kind_of a.remove _ lawful_remove four refl refl refl in
    let six = lawful_or _ _ _ _ kind_of (a.add depth) _ (lawful_add depth) five refl refl refl in
    lawful_widen _ _ _ a.sub_shape kind_of _ six (λ h. h) refl refl

lawful_sub_list : (depth : ℕ) → Lawful kind_of (a.sub_list depth)
unfolding a.sub_list
lawful_sub_list depth = lawful_commas Sub a.sub_shape (a.sub depth) (lawful_sub depth) refl refl refl

-- subcommands, as code reads them by a loop
lawful_next_sub : (depth : ℕ) → Lawful kind_of (a.next_sub depth)
unfolding a.next_sub
lawful_next_sub depth = lawful_next Lexeme Sub (Unit {0}) (one_of k.comma) a.sub_shape kind_of (word k.comma) (a.sub depth) (lawful_word k.comma refl) (lawful_sub depth) refl refl refl refl

abbrev next_shape : Shape
next_shape = both (one_of k.comma) a.sub_shape

pub subs_on : (depth : ℕ) (xs : List Sub) (v : Sub) (ts mid : List Lexeme) → starts kind_of false (k.comma ∷ []) ts ≡ true → (a.next_sub depth).reads ts ≡ read v mid → a.subs_from depth xs ts ≡ a.subs_from depth (xs ++ v ∷ []) mid
unfolding a.subs_from
subs_on depth = many_on Lexeme Sub next_shape kind_of (a.next_sub depth) (lawful_next_sub depth) refl

pub subs_off : (depth : ℕ) (xs : List Sub) (ts : List Lexeme) (n : ℕ) → starts kind_of false (k.comma ∷ []) ts ≡ true → (a.next_sub depth).reads ts ≡ fault n → a.subs_from depth xs ts ≡ fault n
unfolding a.subs_from
subs_off depth = many_off Lexeme Sub next_shape kind_of (a.next_sub depth) (lawful_next_sub depth) refl

pub subs_stop : (depth : ℕ) (xs : List Sub) (ts : List Lexeme) → starts kind_of false (k.comma ∷ []) ts ≡ false → a.subs_from depth xs ts ≡ read xs ts
unfolding a.subs_from
subs_stop depth = many_stop Lexeme Sub next_shape kind_of (a.next_sub depth) (lawful_next_sub depth) refl

-- ---- RENAME

lawful_new_name : Lawful kind_of a.new_name
unfolding a.new_name
lawful_new_name = lawful_front _ _ name lawful_name k.to_word refl

lawful_names_change : Lawful kind_of a.names_change
unfolding a.names_change
lawful_names_change = lawful_pair _ _ _ _ _ _ kind_of name a.new_name (λ before behind. (before, behind)) lawful_name lawful_new_name refl

lawful_rename : Lawful kind_of a.rename
unfolding a.rename
lawful_rename =
    let table = lawful_mapped _ _ _ _ kind_of renames.Table a.new_name lawful_new_name in
    let constraint = lawful_mapped _ _ _ _ kind_of (λ (n : List ℕ × List ℕ). renames.Constraint n.0 n.1) _ (lawful_front _ _ a.names_change lawful_names_change k.constraint_word refl) in
    let column = lawful_mapped _ _ _ _ kind_of (λ (n : List ℕ × List ℕ). renames.Column n.0 n.1) _ (lawful_noise _ _ a.names_change lawful_names_change k.column_word refl refl) in
    let one = lawful_or _ _ _ _ kind_of _ _ constraint column refl refl refl in
    lawful_front _ _ _ (lawful_or _ _ _ _ kind_of _ _ table one refl refl refl) k.rename_word refl

-- ---- the statement

lawful_change : (depth : ℕ) → Lawful kind_of (a.change depth)
unfolding a.change
lawful_change depth =
    let renamed = lawful_mapped _ _ _ _ kind_of changes.Rename a.rename lawful_rename in
    let subs = lawful_mapped _ _ _ _ kind_of changes.Subs (a.sub_list depth) (lawful_sub_list depth) in
    lawful_or _ _ _ _ kind_of _ _ renamed subs refl refl refl

pub lawful_alter_table : Lawful kind_of a.alter_table
unfolding a.alter_table
lawful_alter_table =
    let all = lawful_pair _ _ _ _ _ _ kind_of a.target (a.change a.levels) a.alter_of lawful_target (lawful_change a.levels) refl in
    lawful_front _ _ _ (lawful_front _ _ _ all k.table_word refl) k.alter_word refl
