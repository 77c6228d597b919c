-- The constraints of a table (the manual, 5.4).
use Rattle.std.specs.Prelude.{ℕ, zero, suc, List, [], ◌∷◌, ◌++◌, Bool, true, false, not, ◌&&◌, ◌||◌, ◌==◌, Option, position, filter, map, if◌then◌else◌}
use Rattle.std.specs.List.{list_any}
use Rattle.al_expr.specs.Columns.{same_name}
use Rattle.al_schema.specs.declared.constraint.Constraint.{Constraint}
use Rattle.al_schema.specs.declared.constraint.Link.{Link}
use Rattle.al_schema.specs.declared.constraint.Rule.{Rule}
use Rattle.al_schema.specs.declared.constraint.Rule.TheVariants as rules
use Rattle.al_schema.specs.Naming.{names, renamed}

abbrev pub has_slot : ℕ → List ℕ → Bool
has_slot slot slots = list_any (λ other. other == slot) slots

-- a foreign key involves its own columns, and where it refers to its own table the columns there too
abbrev pub link_involves : ℕ → Link → Bool
link_involves slot link =
    has_slot slot link.child_columns || ((link.child == link.parent) && has_slot slot link.parent_columns)

-- whether a rule of a table involves the column of a slot, which has this name
abbrev pub rule_involves : ℕ → List ℕ → Rule → Bool
rule_involves slot name (rules.Check expr no_inherit) = names expr name
rule_involves slot name (rules.Unique slots) = has_slot slot slots
rule_involves slot name (rules.Primary slots) = has_slot slot slots
rule_involves slot name (rules.Foreign link) = link_involves slot link

abbrev pub involves : ℕ → List ℕ → Constraint → Bool
involves slot name constraint = rule_involves slot name constraint.rule

-- the places of those that involve a column
abbrev pub involving : ℕ → ℕ → List ℕ → List Constraint → List ℕ
involving at slot name [] = []
involving at slot name (constraint ∷ constraints) =
    if involves slot name constraint then at ∷ involving (suc at) slot name constraints else involving (suc at) slot name constraints

-- those that don't involve it
abbrev pub apart_from : ℕ → List ℕ → List Constraint → List Constraint
apart_from slot name constraints = filter (λ constraint. not (involves slot name constraint)) constraints

-- the place of the first of a name
abbrev pub constraint_named : List Constraint → List ℕ → Option ℕ
constraint_named constraints name = position (λ constraint. same_name constraint.name name) constraints

-- a column renamed in a rule
abbrev pub rule_renamed : List ℕ → List ℕ → Rule → Rule
rule_renamed from to (rules.Check expr no_inherit) = rules.Check (renamed from to expr) no_inherit
rule_renamed from to (rules.Unique slots) = rules.Unique slots
rule_renamed from to (rules.Primary slots) = rules.Primary slots
rule_renamed from to (rules.Foreign link) = rules.Foreign link

abbrev pub with_rule_renamed : List ℕ → List ℕ → Constraint → Constraint
with_rule_renamed from to constraint = record constraint { rule = rule_renamed from to constraint.rule }

abbrev pub column_renamed : List ℕ → List ℕ → List Constraint → List Constraint
column_renamed from to constraints = map (with_rule_renamed from to) constraints

-- a constraint changed
abbrev pub at_constraint : ℕ → (Constraint → Constraint) → List Constraint → List Constraint
at_constraint at change [] = []
at_constraint zero change (constraint ∷ constraints) = change constraint ∷ constraints
at_constraint (suc at) change (constraint ∷ constraints) = constraint ∷ at_constraint at change constraints

abbrev pub called : List ℕ → Constraint → Constraint
called name constraint = record constraint { name = name }

abbrev pub as_valid : Constraint → Constraint
as_valid constraint = record constraint { valid = true }

abbrev pub marked_own : Bool → Constraint → Constraint
marked_own mark constraint = record constraint { own = mark }
