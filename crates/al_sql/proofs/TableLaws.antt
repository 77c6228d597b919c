-- LOCK TABLE, CREATE TABLE and DROP TABLE are read lawfully.
use Rattle.std.proofs.Common.{ap, length, ◌≡◌, ℕ, Bool, true, false, List, [], ◌∷◌, ◌++◌, Some, refl}
use Rattle.al_grammar.specs.Kinds.{among, starts}
use Rattle.al_grammar.specs.Rules.{taken, read, fault, leaf_shape, optional}
use Rattle.al_grammar.specs.Laws.{Lawful}
use Rattle.al_grammar.proofs.Pair.{lawful_pair, lawful_then}
use Rattle.al_grammar.proofs.Choices.{lawful_or, lawful_optional, lawful_mapped}
use Rattle.al_grammar.proofs.More.{lawful_widen}
use Rattle.al_grammar.proofs.Rows.{lawful_next, many_on, many_off, many_stop}
use Rattle.al_phrases.specs.declared.lexeme.Lexeme.{Lexeme}
use Rattle.al_phrases.specs.Kinds as k
use Rattle.al_phrases.specs.Words.{kind_of, one_of, word, given, name, name_list}
use Rattle.al_phrases.proofs.WordLaws.{lawful_each, lawful_word, lawful_front, lawful_back, lawful_commas, lawful_given, lawful_name, lawful_name_list}
use Rattle.al_modes.specs.declared.mode.Mode.{Mode}
use Rattle.al_modes.specs.declared.mode.Mode.TheVariants as modes
use Rattle.al_statements.specs.declared.tables.Target.{Target}
use Rattle.al_statements.specs.declared.tables.Element.{Element}
use Rattle.al_statements.specs.declared.tables.Element.TheVariants as elements
use Rattle.al_phrases.specs.Columns.{table_constraint, column_definition, names_in_parens}
use Rattle.al_phrases.proofs.ColumnLaws.{lawful_table_constraint, lawful_column_definition, lawful_names_in_parens}
use Rattle.al_altersql.specs.Alter.{target_shape, target}
use Rattle.al_altersql.proofs.AlterLaws.{lawful_noise, lawful_target}
use Rattle.al_sql.specs.declared.following.Following.TheVariants as followings
use Rattle.al_sql.specs.Phrases.{or_none, comma_next}
use Rattle.al_sql.specs.Tables as t

-- ---- LOCK

lawful_strength : (share exclusive : Mode) → Lawful kind_of (t.strength share exclusive)
lawful_strength share exclusive =
    let first = lawful_mapped _ _ _ _ kind_of (λ (u : Unit {0}). share) (word k.share_word) (lawful_word k.share_word refl) in
    let second = lawful_mapped _ _ _ _ kind_of (λ (u : Unit {0}). exclusive) (word k.exclusive_word) (lawful_word k.exclusive_word refl) in
    lawful_or _ _ _ _ kind_of _ _ first second refl refl refl

lawful_beside_share : Lawful kind_of t.beside_share
unfolding t.beside_share
lawful_beside_share =
    let update = lawful_mapped _ _ _ _ kind_of (λ (u : Unit {0}). modes.ShareUpdateExclusive) _ (lawful_front _ _ _ (lawful_word k.exclusive_word refl) k.update_word refl) in
    let row = lawful_mapped _ _ _ _ kind_of (λ (u : Unit {0}). modes.ShareRowExclusive) _ (lawful_front _ _ _ (lawful_word k.exclusive_word refl) k.row_word refl) in
    lawful_or _ _ _ _ kind_of _ _ update row refl refl refl

lawful_share_mode : Lawful kind_of t.share_mode
unfolding t.share_mode
lawful_share_mode = lawful_front _ _ _ (lawful_mapped _ _ _ _ kind_of (t.or_else modes.Share) _ (lawful_optional _ _ _ kind_of t.beside_share (lawful_beside_share) refl)) k.share_word refl

lawful_mode : Lawful kind_of t.mode
unfolding t.mode
lawful_mode =
    let exclusive = lawful_mapped _ _ _ _ kind_of (λ (u : Unit {0}). modes.Exclusive) _ (lawful_word k.exclusive_word refl) in
    let one = lawful_or _ _ _ _ kind_of t.share_mode _ lawful_share_mode exclusive refl refl refl in
    let row = lawful_front _ _ _ (lawful_strength modes.RowShare modes.RowExclusive) k.row_word refl in
    let two = lawful_or _ _ _ _ kind_of _ _ row one refl refl refl in
    let access = lawful_front _ _ _ (lawful_strength modes.AccessShare modes.AccessExclusive) k.access_word refl in
    lawful_widen _ _ _ t.mode_shape kind_of _ (lawful_or _ _ _ _ kind_of _ _ access two refl refl refl) (λ h. h) refl refl

lawful_in_mode : Lawful kind_of t.in_mode
unfolding t.in_mode
lawful_in_mode = lawful_mapped _ _ _ _ kind_of (t.or_else modes.AccessExclusive) _ (lawful_optional _ _ _ kind_of _ (lawful_front _ _ _ (lawful_back _ _ t.mode lawful_mode k.mode_word refl refl) k.in_word refl) refl)

lawful_target_list : Lawful kind_of t.target_list
unfolding t.target_list
lawful_target_list = lawful_commas Target target_shape target lawful_target refl refl refl

lawful_next_target : Lawful kind_of t.next_target
unfolding t.next_target
lawful_next_target = lawful_next Lexeme Target (Unit {0}) (one_of k.comma) target_shape kind_of (word k.comma) target (lawful_word k.comma refl) lawful_target refl refl refl refl

pub targets_on : (xs : List Target) (v : Target) (ts mid : List Lexeme) → starts kind_of false (k.comma ∷ []) ts ≡ true → t.next_target.reads ts ≡ read v mid → t.targets_from xs ts ≡ t.targets_from (xs ++ v ∷ []) mid
unfolding t.targets_from
targets_on = many_on Lexeme Target (comma_next target_shape) kind_of t.next_target lawful_next_target refl

pub targets_off : (xs : List Target) (ts : List Lexeme) (n : ℕ) → starts kind_of false (k.comma ∷ []) ts ≡ true → t.next_target.reads ts ≡ fault n → t.targets_from xs ts ≡ fault n
unfolding t.targets_from
targets_off = many_off Lexeme Target (comma_next target_shape) kind_of t.next_target lawful_next_target refl

pub targets_stop : (xs : List Target) (ts : List Lexeme) → starts kind_of false (k.comma ∷ []) ts ≡ false → t.targets_from xs ts ≡ read xs ts
unfolding t.targets_from
targets_stop = many_stop Lexeme Target (comma_next target_shape) kind_of t.next_target lawful_next_target refl

pub lawful_lock : Lawful kind_of t.lock
unfolding t.lock
lawful_lock =
    let manner = lawful_pair _ _ _ _ _ _ kind_of t.in_mode (given k.nowait_word) (λ mode nowait. (mode, nowait)) lawful_in_mode (lawful_given k.nowait_word refl) refl in
    let all = lawful_pair _ _ _ _ _ _ kind_of t.target_list _ t.lock_of lawful_target_list manner refl in
    lawful_front _ _ _ (lawful_noise _ _ _ all k.table_word refl refl) k.lock_word refl

-- ---- CREATE TABLE

lawful_element : (depth : ℕ) → Lawful kind_of (t.element depth)
unfolding t.element
lawful_element depth =
    let constraint = lawful_mapped _ _ _ _ kind_of elements.Constraint (table_constraint depth) (lawful_table_constraint depth) in
    let column = lawful_mapped _ _ _ _ kind_of elements.Column (column_definition depth) (lawful_column_definition depth) in
    lawful_or _ _ _ _ kind_of _ _ constraint column refl refl refl

lawful_element_list : (depth : ℕ) → Lawful kind_of (t.element_list depth)
unfolding t.element_list
lawful_element_list depth = lawful_commas Element t.element_shape (t.element depth) (lawful_element depth) refl refl refl

lawful_next_element : (depth : ℕ) → Lawful kind_of (t.next_element depth)
unfolding t.next_element
lawful_next_element depth = lawful_next Lexeme Element (Unit {0}) (one_of k.comma) t.element_shape kind_of (word k.comma) (t.element depth) (lawful_word k.comma refl) (lawful_element depth) refl refl refl refl

pub elements_on : (depth : ℕ) (xs : List Element) (v : Element) (ts mid : List Lexeme) → starts kind_of false (k.comma ∷ []) ts ≡ true → (t.next_element depth).reads ts ≡ read v mid → t.elements_from depth xs ts ≡ t.elements_from depth (xs ++ v ∷ []) mid
unfolding t.elements_from
elements_on depth = many_on Lexeme Element (comma_next t.element_shape) kind_of (t.next_element depth) (lawful_next_element depth) refl

pub elements_off : (depth : ℕ) (xs : List Element) (ts : List Lexeme) (n : ℕ) → starts kind_of false (k.comma ∷ []) ts ≡ true → (t.next_element depth).reads ts ≡ fault n → t.elements_from depth xs ts ≡ fault n
unfolding t.elements_from
elements_off depth = many_off Lexeme Element (comma_next t.element_shape) kind_of (t.next_element depth) (lawful_next_element depth) refl

pub elements_stop : (depth : ℕ) (xs : List Element) (ts : List Lexeme) → starts kind_of false (k.comma ∷ []) ts ≡ false → t.elements_from depth xs ts ≡ read xs ts
unfolding t.elements_from
elements_stop depth = many_stop Lexeme Element (comma_next t.element_shape) kind_of (t.next_element depth) (lawful_next_element depth) refl

lawful_elements_in_parens : (depth : ℕ) → Lawful kind_of (t.elements_in_parens depth)
unfolding t.elements_in_parens
lawful_elements_in_parens depth =
    let none = lawful_mapped _ _ _ _ kind_of t.no_elements (word k.right_paren) (lawful_word k.right_paren refl) in
    let some = lawful_back _ _ (t.element_list depth) (lawful_element_list depth) k.right_paren refl refl in
    lawful_front _ _ _ (lawful_or _ _ _ _ kind_of _ _ none some refl refl refl) k.left_paren refl

lawful_inherits : Lawful kind_of t.inherits
unfolding t.inherits
lawful_inherits = lawful_mapped _ _ _ _ kind_of or_none _ (lawful_optional _ _ _ kind_of _ (lawful_front _ _ names_in_parens (lawful_names_in_parens) k.inherits_word refl) refl)

pub lawful_create : (depth : ℕ) → Lawful kind_of (t.create depth)
unfolding t.create
lawful_create depth =
    let what = lawful_pair _ _ _ _ _ _ kind_of (t.elements_in_parens depth) t.inherits (λ items parents. (items, parents)) (lawful_elements_in_parens depth) lawful_inherits refl in
    let all = lawful_pair _ _ _ _ _ _ kind_of name _ t.create_of lawful_name what refl in
    lawful_front _ _ _ (lawful_front _ _ _ (all) k.table_word refl) k.create_word refl

-- ---- DROP TABLE

lawful_exists_mark : (may_stand : Bool) → Lawful kind_of (t.exists_mark may_stand)
lawful_exists_mark true = lawful_widen _ _ _ (leaf_shape t.exists_first) kind_of (word k.exists_word) (lawful_word k.exists_word refl) (λ h. h) refl refl
lawful_exists_mark false = lawful_widen _ _ _ (leaf_shape t.exists_first) kind_of (word t.late_exists) (lawful_word t.late_exists refl) (λ h. h) refl refl

lawful_first_name : Lawful kind_of t.first_name
unfolding t.first_name
lawful_first_name = lawful_each _ k.names (λ (x : Lexeme). (among x.kind (k.if_word ∷ []), x.text)) k.name refl

-- the first name as code reads it: by a name's reader, and a look at the token
name_taken : (b is_if : Bool) (x : Lexeme) (ts rest : List Lexeme) (n : List ℕ) → taken b (Some x.text) x ts ≡ read n rest → taken {A = Bool × List ℕ} b (Some (is_if, x.text)) x ts ≡ read (is_if, n) rest
name_taken true is_if x ts rest n e =
    let text : x.text ≡ n = cc in
    let left : ts ≡ rest = cc in
    rw (text, left) refl
name_taken false is_if x ts rest n e = absurd cc

name_refused : (b is_if : Bool) (x : Lexeme) (ts : List Lexeme) (m : ℕ) → taken b (Some x.text) x ts ≡ fault m → taken {A = Bool × List ℕ} b (Some (is_if, x.text)) x ts ≡ fault m
name_refused true is_if x ts m e = absurd cc
name_refused false is_if x ts m e = let same : length (x ∷ ts) ≡ m = cc in ap (λ (n : ℕ). fault n) same

pub first_on : (ts rest : List Lexeme) (n : List ℕ) → name.reads ts ≡ read n rest → t.first_name.reads ts ≡ read (starts kind_of false (k.if_word ∷ []) ts, n) rest
unfolding name t.first_name
first_on [] rest n e = absurd cc
first_on (x ∷ ts) rest n e = name_taken (among (kind_of x) k.names) (among (kind_of x) (k.if_word ∷ [])) x ts rest n e

pub first_off : (ts : List Lexeme) (m : ℕ) → name.reads ts ≡ fault m → t.first_name.reads ts ≡ fault m
unfolding name t.first_name
first_off [] m e = let same : 0 ≡ m = cc in ap (λ (n : ℕ). fault n) same
first_off (x ∷ ts) m e = name_refused (among (kind_of x) k.names) (among (kind_of x) (k.if_word ∷ [])) x ts m e

lawful_following : (is_if : Bool) → Lawful kind_of (t.following is_if)
unfolding t.following
lawful_following is_if =
    let there = lawful_pair _ _ _ _ _ _ kind_of (t.exists_mark is_if) name_list (λ u names. followings.Exists names) (lawful_exists_mark is_if) lawful_name_list refl in
    let others = lawful_mapped _ _ _ _ kind_of followings.Names _ (lawful_front _ _ name_list (lawful_name_list) k.comma refl) in
    lawful_or _ _ _ _ kind_of _ _ there others refl refl refl

lawful_dropped : Lawful kind_of t.dropped
unfolding t.dropped
lawful_dropped =
    lawful_then _ _ _ _ _ _ kind_of t.first_name (λ (x : Bool × List ℕ). optional kind_of (t.following x.0)) t.dropped_of lawful_first_name (λ x. lawful_optional _ _ _ kind_of (t.following x.0) (lawful_following x.0) refl) refl

pub lawful_drop_table : Lawful kind_of t.drop_table
unfolding t.drop_table
lawful_drop_table =
    let all = lawful_pair _ _ _ _ _ _ kind_of t.dropped (given k.restrict_word) (λ what restrict. what) lawful_dropped (lawful_given k.restrict_word refl) refl in
    lawful_front _ _ _ (lawful_front _ _ _ (all) k.table_word refl) k.drop_word refl
