-- INSERT, UPDATE and DELETE are read lawfully.
use Rattle.std.proofs.Common.{◌≡◌, ℕ, true, false, List, [], ◌∷◌, ◌++◌, refl}
use Rattle.al_grammar.specs.Kinds.{starts}
use Rattle.al_grammar.specs.Rules.{read, fault, optional}
use Rattle.al_grammar.specs.Laws.{Lawful}
use Rattle.al_grammar.proofs.Pair.{lawful_pair}
use Rattle.al_grammar.proofs.Choices.{lawful_or, lawful_optional, lawful_mapped}
use Rattle.al_grammar.proofs.Rows.{lawful_next, many_on, many_off, many_stop}
use Rattle.al_phrases.specs.declared.lexeme.Lexeme.{Lexeme}
use Rattle.al_phrases.specs.Kinds as k
use Rattle.al_phrases.specs.Words.{kind_of, one_of, word, name}
use Rattle.al_phrases.proofs.WordLaws.{lawful_word, lawful_front, lawful_back, lawful_commas, lawful_name}
use Rattle.al_expr.specs.declared.tree.Expr.{Expr}
use Rattle.al_statements.specs.declared.rows.Slot.{Slot}
use Rattle.al_statements.specs.declared.rows.Slot.TheVariants as slots
use Rattle.al_statements.specs.declared.rows.InsertRows.TheVariants as insert_rows
use Rattle.al_statements.specs.declared.rows.Assignment.{Assignment}
use Rattle.al_phrases.specs.Expressions.{or_shape, expression}
use Rattle.al_phrases.specs.Columns.{names_in_parens}
use Rattle.al_phrases.proofs.ExpressionLaws.{lawful_expression}
use Rattle.al_phrases.proofs.ColumnLaws.{lawful_names_in_parens}
use Rattle.al_altersql.specs.Alter.{target, sint, noise}
use Rattle.al_altersql.proofs.AlterLaws.{lawful_noise, lawful_target, lawful_sint}
use Rattle.al_sql.specs.Phrases.{comma_next, condition}
use Rattle.al_sql.specs.Rows as r
use Rattle.al_sql.proofs.PhraseLaws.{lawful_condition}

lawful_slot : (depth : ℕ) → Lawful kind_of (r.slot depth)
unfolding r.slot
lawful_slot depth =
    let default = lawful_mapped _ _ _ _ kind_of (λ (u : Unit {0}). slots.Default) _ (lawful_word k.default_word refl) in
    let value = lawful_mapped _ _ _ _ kind_of slots.Value (expression depth) (lawful_expression depth) in
    lawful_or _ _ _ _ kind_of _ _ default value refl refl refl

-- ---- INSERT

lawful_slot_list : (depth : ℕ) → Lawful kind_of (r.slot_list depth)
unfolding r.slot_list
lawful_slot_list depth = lawful_commas Slot r.slot_shape (r.slot depth) (lawful_slot depth) refl refl refl

lawful_next_slot : (depth : ℕ) → Lawful kind_of (r.next_slot depth)
unfolding r.next_slot
lawful_next_slot depth = lawful_next Lexeme Slot (Unit {0}) (one_of k.comma) r.slot_shape kind_of (word k.comma) (r.slot depth) (lawful_word k.comma refl) (lawful_slot depth) refl refl refl refl

pub slots_on : (depth : ℕ) (xs : List Slot) (v : Slot) (ts mid : List Lexeme) → starts kind_of false (k.comma ∷ []) ts ≡ true → (r.next_slot depth).reads ts ≡ read v mid → r.slots_from depth xs ts ≡ r.slots_from depth (xs ++ v ∷ []) mid
unfolding r.slots_from
slots_on depth = many_on Lexeme Slot (comma_next r.slot_shape) kind_of (r.next_slot depth) (lawful_next_slot depth) refl

pub slots_off : (depth : ℕ) (xs : List Slot) (ts : List Lexeme) (n : ℕ) → starts kind_of false (k.comma ∷ []) ts ≡ true → (r.next_slot depth).reads ts ≡ fault n → r.slots_from depth xs ts ≡ fault n
unfolding r.slots_from
slots_off depth = many_off Lexeme Slot (comma_next r.slot_shape) kind_of (r.next_slot depth) (lawful_next_slot depth) refl

pub slots_stop : (depth : ℕ) (xs : List Slot) (ts : List Lexeme) → starts kind_of false (k.comma ∷ []) ts ≡ false → r.slots_from depth xs ts ≡ read xs ts
unfolding r.slots_from
slots_stop depth = many_stop Lexeme Slot (comma_next r.slot_shape) kind_of (r.next_slot depth) (lawful_next_slot depth) refl

lawful_tuple : (depth : ℕ) → Lawful kind_of (r.tuple depth)
unfolding r.tuple
lawful_tuple depth = lawful_front _ _ _ (lawful_back _ _ (r.slot_list depth) (lawful_slot_list depth) k.right_paren refl refl) k.left_paren refl

lawful_tuple_list : (depth : ℕ) → Lawful kind_of (r.tuple_list depth)
unfolding r.tuple_list
lawful_tuple_list depth = lawful_commas (List Slot) r.tuple_shape (r.tuple depth) (lawful_tuple depth) refl refl refl

lawful_next_tuple : (depth : ℕ) → Lawful kind_of (r.next_tuple depth)
unfolding r.next_tuple
lawful_next_tuple depth = lawful_next Lexeme (List Slot) (Unit {0}) (one_of k.comma) r.tuple_shape kind_of (word k.comma) (r.tuple depth) (lawful_word k.comma refl) (lawful_tuple depth) refl refl refl refl

pub tuples_on : (depth : ℕ) (xs : List (List Slot)) (v : List Slot) (ts mid : List Lexeme) → starts kind_of false (k.comma ∷ []) ts ≡ true → (r.next_tuple depth).reads ts ≡ read v mid → r.tuples_from depth xs ts ≡ r.tuples_from depth (xs ++ v ∷ []) mid
unfolding r.tuples_from
tuples_on depth = many_on Lexeme (List Slot) (comma_next r.tuple_shape) kind_of (r.next_tuple depth) (lawful_next_tuple depth) refl

pub tuples_off : (depth : ℕ) (xs : List (List Slot)) (ts : List Lexeme) (n : ℕ) → starts kind_of false (k.comma ∷ []) ts ≡ true → (r.next_tuple depth).reads ts ≡ fault n → r.tuples_from depth xs ts ≡ fault n
unfolding r.tuples_from
tuples_off depth = many_off Lexeme (List Slot) (comma_next r.tuple_shape) kind_of (r.next_tuple depth) (lawful_next_tuple depth) refl

pub tuples_stop : (depth : ℕ) (xs : List (List Slot)) (ts : List Lexeme) → starts kind_of false (k.comma ∷ []) ts ≡ false → r.tuples_from depth xs ts ≡ read xs ts
unfolding r.tuples_from
tuples_stop depth = many_stop Lexeme (List Slot) (comma_next r.tuple_shape) kind_of (r.next_tuple depth) (lawful_next_tuple depth) refl

lawful_value_list : (depth : ℕ) → Lawful kind_of (r.value_list depth)
unfolding r.value_list
lawful_value_list depth = lawful_commas Expr or_shape (expression depth) (lawful_expression depth) refl refl refl

lawful_next_value : (depth : ℕ) → Lawful kind_of (r.next_value depth)
unfolding r.next_value
lawful_next_value depth = lawful_next Lexeme Expr (Unit {0}) (one_of k.comma) or_shape kind_of (word k.comma) (expression depth) (lawful_word k.comma refl) (lawful_expression depth) refl refl refl refl

pub values_on : (depth : ℕ) (xs : List Expr) (v : Expr) (ts mid : List Lexeme) → starts kind_of false (k.comma ∷ []) ts ≡ true → (r.next_value depth).reads ts ≡ read v mid → r.values_from depth xs ts ≡ r.values_from depth (xs ++ v ∷ []) mid
unfolding r.values_from
values_on depth = many_on Lexeme Expr (comma_next or_shape) kind_of (r.next_value depth) (lawful_next_value depth) refl

pub values_off : (depth : ℕ) (xs : List Expr) (ts : List Lexeme) (n : ℕ) → starts kind_of false (k.comma ∷ []) ts ≡ true → (r.next_value depth).reads ts ≡ fault n → r.values_from depth xs ts ≡ fault n
unfolding r.values_from
values_off depth = many_off Lexeme Expr (comma_next or_shape) kind_of (r.next_value depth) (lawful_next_value depth) refl

pub values_stop : (depth : ℕ) (xs : List Expr) (ts : List Lexeme) → starts kind_of false (k.comma ∷ []) ts ≡ false → r.values_from depth xs ts ≡ read xs ts
unfolding r.values_from
values_stop depth = many_stop Lexeme Expr (comma_next or_shape) kind_of (r.next_value depth) (lawful_next_value depth) refl

lawful_number_span : Lawful kind_of r.number_span
unfolding r.number_span
lawful_number_span =
    let last = lawful_front _ _ _ (lawful_back _ _ sint lawful_sint k.right_paren refl refl) k.comma refl in
    let both = lawful_pair _ _ _ _ _ _ kind_of sint _ (λ first last. (first, last)) lawful_sint last refl in
    lawful_front _ _ _ (lawful_front _ _ _ (both) k.left_paren refl) k.generate_series_word refl

lawful_from_span : Lawful kind_of r.from_span
unfolding r.from_span
lawful_from_span =
    let all = lawful_pair _ _ _ _ _ _ kind_of r.number_span (noise k.as_word name) (λ numbers called. (numbers, called)) lawful_number_span (lawful_noise _ _ name lawful_name k.as_word refl refl) refl in
    lawful_front _ _ _ (all) k.from_word refl

lawful_series : (depth : ℕ) → Lawful kind_of (r.series depth)
unfolding r.series
lawful_series depth =
    let all = lawful_pair _ _ _ _ _ _ kind_of (r.value_list depth) r.from_span r.series_of (lawful_value_list depth) lawful_from_span refl in
    lawful_front _ _ _ (all) k.select_word refl

lawful_new_rows : (depth : ℕ) → Lawful kind_of (r.new_rows depth)
unfolding r.new_rows
lawful_new_rows depth =
    let tuples = lawful_mapped _ _ _ _ kind_of insert_rows.Values _ (lawful_front _ _ (r.tuple_list depth) (lawful_tuple_list depth) k.values_word refl) in
    let numbers = lawful_mapped _ _ _ _ kind_of insert_rows.Series (r.series depth) (lawful_series depth) in
    lawful_or _ _ _ _ kind_of _ _ tuples numbers refl refl refl

pub lawful_insert : (depth : ℕ) → Lawful kind_of (r.insert depth)
unfolding r.insert
lawful_insert depth =
    let columns = lawful_optional _ _ _ kind_of names_in_parens lawful_names_in_parens refl in
    let what = lawful_pair _ _ _ _ _ _ kind_of (optional kind_of names_in_parens) (r.new_rows depth) (λ columns rows. (columns, rows)) columns (lawful_new_rows depth) refl in
    let all = lawful_pair _ _ _ _ _ _ kind_of name _ r.insert_of lawful_name what refl in
    lawful_front _ _ _ (lawful_front _ _ _ (all) k.into_word refl) k.insert_word refl

-- ---- UPDATE and DELETE

lawful_assignment : (depth : ℕ) → Lawful kind_of (r.assignment depth)
unfolding r.assignment
lawful_assignment depth =
    let becomes = lawful_front _ _ (r.slot depth) (lawful_slot depth) k.equal refl in
    lawful_pair _ _ _ _ _ _ kind_of name _ r.assignment_of lawful_name becomes refl

lawful_assignment_list : (depth : ℕ) → Lawful kind_of (r.assignment_list depth)
unfolding r.assignment_list
lawful_assignment_list depth = lawful_commas Assignment r.assignment_shape (r.assignment depth) (lawful_assignment depth) refl refl refl

lawful_next_assignment : (depth : ℕ) → Lawful kind_of (r.next_assignment depth)
unfolding r.next_assignment
lawful_next_assignment depth = lawful_next Lexeme Assignment (Unit {0}) (one_of k.comma) r.assignment_shape kind_of (word k.comma) (r.assignment depth) (lawful_word k.comma refl) (lawful_assignment depth) refl refl refl refl

pub assignments_on : (depth : ℕ) (xs : List Assignment) (v : Assignment) (ts mid : List Lexeme) → starts kind_of false (k.comma ∷ []) ts ≡ true → (r.next_assignment depth).reads ts ≡ read v mid → r.assignments_from depth xs ts ≡ r.assignments_from depth (xs ++ v ∷ []) mid
unfolding r.assignments_from
assignments_on depth = many_on Lexeme Assignment (comma_next r.assignment_shape) kind_of (r.next_assignment depth) (lawful_next_assignment depth) refl

pub assignments_off : (depth : ℕ) (xs : List Assignment) (ts : List Lexeme) (n : ℕ) → starts kind_of false (k.comma ∷ []) ts ≡ true → (r.next_assignment depth).reads ts ≡ fault n → r.assignments_from depth xs ts ≡ fault n
unfolding r.assignments_from
assignments_off depth = many_off Lexeme Assignment (comma_next r.assignment_shape) kind_of (r.next_assignment depth) (lawful_next_assignment depth) refl

pub assignments_stop : (depth : ℕ) (xs : List Assignment) (ts : List Lexeme) → starts kind_of false (k.comma ∷ []) ts ≡ false → r.assignments_from depth xs ts ≡ read xs ts
unfolding r.assignments_from
assignments_stop depth = many_stop Lexeme Assignment (comma_next r.assignment_shape) kind_of (r.next_assignment depth) (lawful_next_assignment depth) refl

pub lawful_update : (depth : ℕ) → Lawful kind_of (r.update depth)
unfolding r.update
lawful_update depth =
    let changes = lawful_pair _ _ _ _ _ _ kind_of (r.assignment_list depth) (condition depth) (λ changes which. (changes, which)) (lawful_assignment_list depth) (lawful_condition depth) refl in
    let all = lawful_pair _ _ _ _ _ _ kind_of target _ r.update_of lawful_target (lawful_front _ _ _ (changes) k.set_word refl) refl in
    lawful_front _ _ _ (all) k.update_word refl

pub lawful_delete : (depth : ℕ) → Lawful kind_of (r.delete depth)
unfolding r.delete
lawful_delete depth =
    let all = lawful_pair _ _ _ _ _ _ kind_of target (condition depth) r.delete_of lawful_target (lawful_condition depth) refl in
    lawful_front _ _ _ (lawful_front _ _ _ (all) k.from_word refl) k.delete_word refl
