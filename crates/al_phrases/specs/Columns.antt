-- Definitions of columns, and constraints of tables (CREATE TABLE), over tokens. `depth` is how many levels an expression in
-- them may open.
use Rattle.std.specs.Prelude.{ℕ, Bool, true, false, List, [], ◌∷◌, ◌++◌, Option, Some, None}
use Rattle.al_grammar.specs.Rules.{Shape, Step, Rule, leaf_shape, pair, both, optional, at_most_once, mapped, or, widen}
use Rattle.al_grammar.specs.State.{many_by}
use Rattle.al_grammar.specs.Gives.{fold_by}
use Rattle.al_values.specs.declared.kinds.Kind.{Kind}
use Rattle.al_expr.specs.declared.tree.Expr.{Expr}
use Rattle.al_statements.specs.declared.column.Rule.{Rule as Demand}
use Rattle.al_statements.specs.declared.column.Rule.TheVariants as demands
use Rattle.al_statements.specs.declared.column.Constraint.{Constraint}
use Rattle.al_statements.specs.declared.column.ColumnDefinition.{ColumnDefinition}
use Rattle.al_phrases.specs.declared.lexeme.Lexeme.{Lexeme}
use Rattle.al_phrases.specs.declared.clause.Part.{Part}
use Rattle.al_phrases.specs.declared.clause.Part.TheVariants as parts
use Rattle.al_phrases.specs.declared.clause.Clause.{Clause}
use Rattle.al_phrases.specs.declared.clause.Clause.TheVariants as clauses
use Rattle.al_phrases.specs.declared.clause.Seen.{Seen}
use Rattle.al_phrases.specs.Kinds as k
use Rattle.al_phrases.specs.Words.{kind_of, one_of, word, is_there, name_shape, name, name_list, comma_shape, ◌▸◌, ◌◂◌}
use Rattle.al_phrases.specs.Types.{type_shape, type_name}
use Rattle.al_phrases.specs.Rows.{in_turn}
use Rattle.al_phrases.specs.Expressions.{or_shape, concat_shape, expression, concatenation}

-- ---- what both share

-- "(" expr ")"
abbrev pub condition_shape : Shape
condition_shape = both (one_of k.left_paren) (both or_shape (one_of k.right_paren))

unfoldable pub condition : ℕ → Rule Lexeme condition_shape Expr
condition depth = k.left_paren ▸ (expression depth ◂ k.right_paren)

-- [ NO INHERIT ]
abbrev pub no_inherit_shape : Shape
no_inherit_shape = both (one_of k.no_word) (one_of k.inherit_word)

unfoldable pub no_inherit : Rule Lexeme (at_most_once no_inherit_shape) Bool
no_inherit = mapped is_there (optional kind_of (k.no_word ▸ word k.inherit_word))

-- CHECK "(" expr ")" [ NO INHERIT ]
abbrev pub check_shape : Shape
check_shape = both (one_of k.check_word) (both condition_shape (at_most_once no_inherit_shape))

unfoldable pub check : ℕ → Rule Lexeme check_shape (Expr × Bool)
check depth = k.check_word ▸ pair (λ x alone. (x, alone)) (condition depth) no_inherit

-- "(" names ")"
abbrev pub names_shape : Shape
names_shape = both (one_of k.left_paren) (both (comma_shape name_shape) (one_of k.right_paren))

unfoldable pub names_in_parens : Rule Lexeme names_shape (List (List ℕ))
names_in_parens = k.left_paren ▸ (name_list ◂ k.right_paren)

-- ---- constraints of a table

-- REFERENCES name [ "(" names ")" ]
abbrev pub references_shape : Shape
references_shape = both (one_of k.references_word) (both name_shape (at_most_once names_shape))

unfoldable pub references : Rule Lexeme references_shape (List ℕ × Option (List (List ℕ)))
references = k.references_word ▸ pair (λ table keys. (table, keys)) name (optional kind_of names_in_parens)

abbrev pub keyed_shape : ℕ → Shape
keyed_shape first = both (one_of first) (both (one_of k.key_word) names_shape)

-- PRIMARY KEY "(" names ")", and FOREIGN KEY "(" names ")"
abbrev pub keyed : (first : ℕ) → Rule Lexeme (keyed_shape first) (List (List ℕ))
keyed first = first ▸ (k.key_word ▸ names_in_parens)

unfoldable pub foreign : Rule Lexeme (both (keyed_shape k.foreign_word) references_shape) Demand
foreign = pair (λ columns target. demands.ForeignKey columns target.0 target.1) (keyed k.foreign_word) references

-- rule := CHECK "(" expr ")" [ NO INHERIT ] | UNIQUE "(" names ")" | PRIMARY KEY "(" names ")"
--       | FOREIGN KEY "(" names ")" REFERENCES name [ "(" names ")" ]
abbrev pub demand_shape : Shape
demand_shape = record {
  empty = false;
  first = k.check_word ∷ k.unique_word ∷ k.primary_word ∷ k.foreign_word ∷ [];
  after = k.no_word ∷ k.left_paren ∷ [];
}

unfoldable pub demand : ℕ → Rule Lexeme demand_shape Demand
demand depth =
    widen demand_shape
    (or kind_of (mapped (λ c. demands.Check c.0 c.1) (check depth))
    (or kind_of (mapped demands.Unique (k.unique_word ▸ names_in_parens))
    (or kind_of (mapped demands.PrimaryKey (keyed k.primary_word)) foreign)))

-- [ CONSTRAINT name ]
abbrev pub named_shape : Shape
named_shape = both (one_of k.constraint_word) name_shape

unfoldable pub named : Rule Lexeme (at_most_once named_shape) (Option (List ℕ))
named = optional kind_of (k.constraint_word ▸ name)

abbrev pub constraint_with : Option (List ℕ) → Demand → Constraint
constraint_with written what = record { name = written; rule = what }

unfoldable pub table_constraint : ℕ → Rule Lexeme (both (at_most_once named_shape) demand_shape) Constraint
table_constraint depth = pair constraint_with named (demand depth)

-- ---- definitions of columns

-- stands in for a second DEFAULT; no text has it
abbrev pub late_default : ℕ
late_default = 26

-- stands in for a second PRIMARY; no text has it
abbrev pub late_primary : ℕ
late_primary = 27

-- DEFAULT and PRIMARY, where one may still stand
abbrev pub default_first : List ℕ
default_first = k.default_word ∷ late_default ∷ []

abbrev pub default_mark : Bool → Rule Lexeme (leaf_shape default_first) (Unit {0})
default_mark false = widen (leaf_shape default_first) (word k.default_word)
default_mark true = widen (leaf_shape default_first) (word late_default)

abbrev pub primary_first : List ℕ
primary_first = k.primary_word ∷ late_primary ∷ []

abbrev pub primary_mark : Bool → Rule Lexeme (leaf_shape primary_first) (Unit {0})
primary_mark false = widen (leaf_shape primary_first) (word k.primary_word)
primary_mark true = widen (leaf_shape primary_first) (word late_primary)

-- PRIMARY KEY
abbrev pub primary_words : Bool → Rule Lexeme (both (leaf_shape primary_first) (one_of k.key_word)) (Unit {0})
primary_words seen = pair (λ u v. v) (primary_mark seen) (word k.key_word)

-- REFERENCES name [ "(" name ")" ]
abbrev pub one_name_shape : Shape
one_name_shape = both (one_of k.left_paren) (both name_shape (one_of k.right_paren))

unfoldable pub name_in_parens : Rule Lexeme one_name_shape (List ℕ)
name_in_parens = k.left_paren ▸ (name ◂ k.right_paren)

abbrev pub reference_shape : Shape
reference_shape = both (one_of k.references_word) (both name_shape (at_most_once one_name_shape))

unfoldable pub reference : Rule Lexeme reference_shape Part
reference = k.references_word ▸ pair parts.References name (optional kind_of name_in_parens)

-- part := CHECK "(" expr ")" [ NO INHERIT ] | UNIQUE | PRIMARY KEY | REFERENCES name [ "(" name ")" ]
abbrev pub part_shape : Shape
part_shape = record {
  empty = false;
  first = k.check_word ∷ k.unique_word ∷ k.primary_word ∷ late_primary ∷ k.references_word ∷ [];
  after = k.no_word ∷ k.left_paren ∷ [];
}

unfoldable pub part : ℕ → Seen → Rule Lexeme part_shape Part
part depth seen =
    widen part_shape
    (or kind_of (mapped (λ c. parts.Check c.0 c.1) (check depth))
    (or kind_of (mapped (λ u. parts.Unique) (word k.unique_word))
    (or kind_of (mapped (λ u. parts.PrimaryKey) (primary_words seen.primary_key)) reference)))

-- DEFAULT cat | NOT NULL | [ CONSTRAINT name ] part
abbrev pub clause_shape : Shape
clause_shape = record {
  empty = false;
  first = default_first ++ (k.not_word ∷ k.constraint_word ∷ part_shape.first);
  after = concat_shape.after ++ part_shape.after;
}

abbrev pub default_clause : ℕ → Seen → Rule Lexeme (both (leaf_shape default_first) concat_shape) Expr
default_clause depth seen = pair (λ u x. x) (default_mark seen.default) (concatenation depth)

unfoldable pub clause : ℕ → Seen → Rule Lexeme clause_shape Clause
clause depth seen =
    widen clause_shape
    (or kind_of (mapped clauses.Default (default_clause depth seen))
    (or kind_of (pair (λ u v. clauses.NotNull) (word k.not_word) (word k.null_word)) (pair clauses.Constraint named (part depth seen))))

-- DEFAULT and PRIMARY KEY stand at most once.
abbrev pub sees : Seen → Clause → Seen
sees seen (clauses.Default _) = record seen { default = true }
sees seen (clauses.Constraint _ parts.PrimaryKey) = record seen { primary_key = true }
sees seen _ = seen

abbrev pub none_seen : Seen
none_seen = record { default = false; primary_key = false }

abbrev pub key_list : Option (List ℕ) → Option (List (List ℕ))
key_list None = None
key_list (Some key) = Some (key ∷ [])

-- a constraint in the definition of a column has that column as its only one
abbrev pub demand_on : List ℕ → Part → Demand
demand_on column (parts.Check x alone) = demands.Check x alone
demand_on column parts.Unique = demands.Unique (column ∷ [])
demand_on column parts.PrimaryKey = demands.PrimaryKey (column ∷ [])
demand_on column (parts.References table key) = demands.ForeignKey (column ∷ []) table (key_list key)

abbrev pub with_clause : ColumnDefinition → Clause → ColumnDefinition
with_clause d (clauses.Default x) = record d { default = Some x }
with_clause d clauses.NotNull = record d { not_null = true }
with_clause d (clauses.Constraint written p) = record d { constraints = d.constraints ++ constraint_with written (demand_on d.name p) ∷ [] }

abbrev pub bare_column : List ℕ → Kind → ColumnDefinition
bare_column called kind = record { name = called; kind = kind; default = None; not_null = false; constraints = [] }

-- coldef := name kind { DEFAULT cat | NOT NULL | [ CONSTRAINT name ] part }
abbrev pub bare_shape : Shape
bare_shape = both name_shape type_shape

unfoldable pub bare_definition : Rule Lexeme bare_shape ColumnDefinition
bare_definition = pair bare_column name type_name

unfoldable pub column_definition : ℕ → Rule Lexeme (both bare_shape (at_most_once clause_shape)) ColumnDefinition
column_definition depth = pair (in_turn with_clause) bare_definition (many_by kind_of sees (clause depth) none_seen)

-- the clauses behind those that were read so far, as code reads them
unfoldable pub clauses_from : ℕ → Seen → ColumnDefinition → List Lexeme → Step Lexeme ColumnDefinition
clauses_from depth seen definition ts = fold_by kind_of (in_turn with_clause) sees (clause depth) seen definition ts
