-- Definitions of columns and constraints of tables are read lawfully, at each depth.
use Rattle.std.proofs.Common.{◌≡◌, ℕ, Bool, true, false, List, refl}
use Rattle.al_grammar.specs.Kinds.{starts}
use Rattle.al_grammar.specs.Rules.{read, fault, leaf_shape, optional}
use Rattle.al_grammar.specs.Laws.{Lawful}
use Rattle.al_grammar.proofs.Pair.{lawful_pair}
use Rattle.al_grammar.proofs.Choices.{lawful_or, lawful_optional, lawful_mapped}
use Rattle.al_grammar.proofs.More.{lawful_widen}
use Rattle.al_grammar.proofs.ManyBy.{lawful_many_by, by_on, by_off, by_stop}
use Rattle.al_expr.specs.declared.tree.Expr.{Expr}
use Rattle.al_statements.specs.declared.column.Rule.TheVariants as demands
use Rattle.al_statements.specs.declared.column.ColumnDefinition.{ColumnDefinition}
use Rattle.al_phrases.specs.declared.lexeme.Lexeme.{Lexeme}
use Rattle.al_phrases.specs.declared.clause.Part.TheVariants as parts
use Rattle.al_phrases.specs.declared.clause.Clause.{Clause}
use Rattle.al_phrases.specs.declared.clause.Clause.TheVariants as clauses
use Rattle.al_phrases.specs.declared.clause.Seen.{Seen}
use Rattle.al_phrases.specs.Kinds as k
use Rattle.al_phrases.specs.Words.{kind_of, word, is_there, name, name_list}
use Rattle.al_phrases.specs.Types.{type_name}
use Rattle.al_phrases.specs.Rows.{in_turn}
use Rattle.al_phrases.specs.Expressions.{expression, concatenation}
use Rattle.al_phrases.specs.Columns as c
use Rattle.al_phrases.proofs.WordLaws.{lawful_word, lawful_front, lawful_back, lawful_name, lawful_name_list}
use Rattle.al_phrases.proofs.TypeLaws.{lawful_type}
use Rattle.al_phrases.proofs.ExpressionLaws.{lawful_expression, lawful_concatenation}

-- ---- what both share

lawful_condition : (depth : ℕ) → Lawful kind_of (c.condition depth)
unfolding c.condition
lawful_condition depth = lawful_front _ _ _ (lawful_back _ _ (expression depth) (lawful_expression depth) k.right_paren refl refl) k.left_paren refl

lawful_no_inherit : Lawful kind_of c.no_inherit
unfolding c.no_inherit
lawful_no_inherit = lawful_mapped _ _ _ _ kind_of is_there _ (lawful_optional _ _ _ kind_of _ (lawful_front _ _ _ (lawful_word k.inherit_word refl) k.no_word refl) refl)

lawful_check : (depth : ℕ) → Lawful kind_of (c.check depth)
unfolding c.check
lawful_check depth = lawful_front _ _ _ (lawful_pair _ _ _ _ _ _ kind_of (c.condition depth) c.no_inherit (λ x alone. (x, alone)) (lawful_condition depth) lawful_no_inherit refl) k.check_word refl

pub lawful_names_in_parens : Lawful kind_of c.names_in_parens
unfolding c.names_in_parens
lawful_names_in_parens = lawful_front _ _ _ (lawful_back _ _ name_list lawful_name_list k.right_paren refl refl) k.left_paren refl

-- ---- constraints of a table

lawful_references : Lawful kind_of c.references
unfolding c.references
lawful_references =
    let keys = lawful_optional _ _ _ kind_of c.names_in_parens lawful_names_in_parens refl in
    lawful_front _ _ _ (lawful_pair _ _ _ _ _ _ kind_of name (optional kind_of c.names_in_parens) (λ table names. (table, names)) lawful_name keys refl) k.references_word refl

lawful_keyed_primary : Lawful kind_of (c.keyed k.primary_word)
lawful_keyed_primary = lawful_front _ _ _ (lawful_front _ _ c.names_in_parens lawful_names_in_parens k.key_word refl) k.primary_word refl

lawful_keyed_foreign : Lawful kind_of (c.keyed k.foreign_word)
lawful_keyed_foreign = lawful_front _ _ _ (lawful_front _ _ c.names_in_parens lawful_names_in_parens k.key_word refl) k.foreign_word refl

lawful_foreign : Lawful kind_of c.foreign
unfolding c.foreign
lawful_foreign = lawful_pair _ _ _ _ _ _ kind_of (c.keyed k.foreign_word) c.references (λ columns target. demands.ForeignKey columns target.0 target.1) lawful_keyed_foreign lawful_references refl

lawful_demand : (depth : ℕ) → Lawful kind_of (c.demand depth)
unfolding c.demand
lawful_demand depth =
    let primary = lawful_mapped _ _ _ _ kind_of demands.PrimaryKey (c.keyed k.primary_word) lawful_keyed_primary in
    let one = lawful_or _ _ _ _ kind_of _ _ primary lawful_foreign refl refl refl in
    let unique = lawful_mapped _ _ _ _ kind_of demands.Unique _ (lawful_front _ _ c.names_in_parens lawful_names_in_parens k.unique_word refl) in
    let two = lawful_or _ _ _ _ kind_of _ _ unique one refl refl refl in
    let check = lawful_mapped _ _ _ _ kind_of (λ (x : Expr × Bool). demands.Check x.0 x.1) (c.check depth) (lawful_check depth) in
    let three = lawful_or _ _ _ _ kind_of _ _ check two refl refl refl in
    lawful_widen _ _ _ c.demand_shape kind_of _ three (λ h. h) refl refl

lawful_named : Lawful kind_of c.named
unfolding c.named
lawful_named = lawful_optional _ _ _ kind_of _ (lawful_front _ _ name lawful_name k.constraint_word refl) refl

pub lawful_table_constraint : (depth : ℕ) → Lawful kind_of (c.table_constraint depth)
unfolding c.table_constraint
lawful_table_constraint depth = lawful_pair _ _ _ _ _ _ kind_of c.named (c.demand depth) c.constraint_with lawful_named (lawful_demand depth) refl

-- ---- definitions of columns

lawful_default_mark : (seen : Bool) → Lawful kind_of (c.default_mark seen)
lawful_default_mark false = lawful_widen _ _ _ (leaf_shape c.default_first) kind_of (word k.default_word) (lawful_word k.default_word refl) (λ h. h) refl refl
lawful_default_mark true = lawful_widen _ _ _ (leaf_shape c.default_first) kind_of (word c.late_default) (lawful_word c.late_default refl) (λ h. h) refl refl

lawful_primary_mark : (seen : Bool) → Lawful kind_of (c.primary_mark seen)
lawful_primary_mark false = lawful_widen _ _ _ (leaf_shape c.primary_first) kind_of (word k.primary_word) (lawful_word k.primary_word refl) (λ h. h) refl refl
lawful_primary_mark true = lawful_widen _ _ _ (leaf_shape c.primary_first) kind_of (word c.late_primary) (lawful_word c.late_primary refl) (λ h. h) refl refl

lawful_primary_words : (seen : Bool) → Lawful kind_of (c.primary_words seen)
lawful_primary_words seen = lawful_pair _ _ _ _ _ _ kind_of (c.primary_mark seen) (word k.key_word) (λ u v. v) (lawful_primary_mark seen) (lawful_word k.key_word refl) refl

lawful_name_in_parens : Lawful kind_of c.name_in_parens
unfolding c.name_in_parens
lawful_name_in_parens = lawful_front _ _ _ (lawful_back _ _ name lawful_name k.right_paren refl refl) k.left_paren refl

lawful_reference : Lawful kind_of c.reference
unfolding c.reference
lawful_reference =
    let key = lawful_optional _ _ _ kind_of c.name_in_parens lawful_name_in_parens refl in
    lawful_front _ _ _ (lawful_pair _ _ _ _ _ _ kind_of name (optional kind_of c.name_in_parens) parts.References lawful_name key refl) k.references_word refl

lawful_part : (depth : ℕ) (seen : Seen) → Lawful kind_of (c.part depth seen)
unfolding c.part
lawful_part depth seen =
    let primary = lawful_mapped _ _ _ _ kind_of (λ (u : Unit {0}). parts.PrimaryKey) (c.primary_words seen.primary_key) (lawful_primary_words seen.primary_key) in
    let one = lawful_or _ _ _ _ kind_of _ _ primary lawful_reference refl refl refl in
    let unique = lawful_mapped _ _ _ _ kind_of (λ (u : Unit {0}). parts.Unique) (word k.unique_word) (lawful_word k.unique_word refl) in
    let two = lawful_or _ _ _ _ kind_of _ _ unique one refl refl refl in
    let check = lawful_mapped _ _ _ _ kind_of (λ (x : Expr × Bool). parts.Check x.0 x.1) (c.check depth) (lawful_check depth) in
    let three = lawful_or _ _ _ _ kind_of _ _ check two refl refl refl in
    lawful_widen _ _ _ c.part_shape kind_of _ three (λ h. h) refl refl

lawful_clause : (depth : ℕ) (seen : Seen) → Lawful kind_of (c.clause depth seen)
unfolding c.clause
lawful_clause depth seen =
    let value = lawful_pair _ _ _ _ _ _ kind_of (c.default_mark seen.default) (concatenation depth) (λ u x. x) (lawful_default_mark seen.default) (lawful_concatenation depth) refl in
    let first = lawful_mapped _ _ _ _ kind_of clauses.Default (c.default_clause depth seen) value in
    let null = lawful_pair _ _ _ _ _ _ kind_of (word k.not_word) (word k.null_word) (λ u v. clauses.NotNull) (lawful_word k.not_word refl) (lawful_word k.null_word refl) refl in
    let constraint = lawful_pair _ _ _ _ _ _ kind_of c.named (c.part depth seen) clauses.Constraint lawful_named (lawful_part depth seen) refl in
    let two = lawful_or _ _ _ _ kind_of _ _ null constraint refl refl refl in
    lawful_widen _ _ _ c.clause_shape kind_of _ (lawful_or _ _ _ _ kind_of _ _ first two refl refl refl) (λ h. h) refl refl

lawful_bare : Lawful kind_of c.bare_definition
unfolding c.bare_definition
lawful_bare = lawful_pair _ _ _ _ _ _ kind_of name type_name c.bare_column lawful_name lawful_type refl

pub lawful_column_definition : (depth : ℕ) → Lawful kind_of (c.column_definition depth)
unfolding c.column_definition
lawful_column_definition depth =
    let all = lawful_many_by Lexeme Clause Seen c.clause_shape kind_of c.sees (c.clause depth) (lawful_clause depth) refl refl c.none_seen in
    lawful_pair _ _ _ _ _ _ kind_of c.bare_definition _ (in_turn c.with_clause) lawful_bare all refl

-- ---- clauses, as code reads them by a loop

pub clauses_on : (depth : ℕ) (seen : Seen) (d : ColumnDefinition) (v : Clause) (ts mid : List Lexeme) → starts kind_of false c.clause_shape.first ts ≡ true → (c.clause depth seen).reads ts ≡ read v mid
    → c.clauses_from depth seen d ts ≡ c.clauses_from depth (c.sees seen v) (c.with_clause d v) mid
unfolding c.clauses_from
clauses_on depth = by_on Lexeme Clause Seen ColumnDefinition c.clause_shape kind_of c.sees (c.clause depth) (lawful_clause depth) refl (in_turn c.with_clause) c.with_clause (λ d. refl) (λ d v vs. refl)

pub clauses_off : (depth : ℕ) (seen : Seen) (d : ColumnDefinition) (ts : List Lexeme) (n : ℕ) → starts kind_of false c.clause_shape.first ts ≡ true → (c.clause depth seen).reads ts ≡ fault n → c.clauses_from depth seen d ts ≡ fault n
unfolding c.clauses_from
clauses_off depth = by_off Lexeme Clause Seen ColumnDefinition c.clause_shape kind_of c.sees (c.clause depth) (lawful_clause depth) refl (in_turn c.with_clause) c.with_clause (λ d. refl) (λ d v vs. refl)

pub clauses_stop : (depth : ℕ) (seen : Seen) (d : ColumnDefinition) (ts : List Lexeme) → starts kind_of false c.clause_shape.first ts ≡ false → c.clauses_from depth seen d ts ≡ read d ts
unfolding c.clauses_from
clauses_stop depth = by_stop Lexeme Clause Seen ColumnDefinition c.clause_shape kind_of c.sees (c.clause depth) (lawful_clause depth) refl (in_turn c.with_clause) c.with_clause (λ d. refl) (λ d v vs. refl)
