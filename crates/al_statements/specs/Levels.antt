-- The lock mode and the pass of each subcommand of ALTER TABLE (the manual, ALTER TABLE; 13.3.1).
use Rattle.std.specs.Prelude.{ℕ, ◌≡◌, ◌≤◌, List, [], ◌∷◌, if◌then◌else◌, nat_lt, All, Any}
use Rattle.al_modes.specs.declared.mode.Mode.{Mode}
use Rattle.al_modes.specs.declared.mode.Mode.TheVariants as modes
use Rattle.al_modes.specs.Conflicts.{strictness}
use Rattle.al_statements.specs.declared.alter.Sub.{Sub}
use Rattle.al_statements.specs.declared.alter.Sub.TheVariants as subs
use Rattle.al_statements.specs.declared.column.Rule.{Rule}
use Rattle.al_statements.specs.declared.column.Rule.TheVariants as rules

-- ADD of a constraint
abbrev pub rule_level : Rule → Mode
rule_level (rules.Check expr no_inherit) = modes.AccessExclusive
rule_level (rules.Unique columns) = modes.AccessExclusive
rule_level (rules.PrimaryKey columns) = modes.AccessExclusive
rule_level (rules.ForeignKey columns table keys) = modes.ShareRowExclusive

-- the mode that each subcommand locks its table in
abbrev pub level_is : Sub → Mode
level_is (subs.DropColumn name) = modes.AccessExclusive
level_is (subs.DropConstraint name) = modes.AccessExclusive
level_is (subs.DropDefault column) = modes.AccessExclusive
level_is (subs.DropNotNull column) = modes.AccessExclusive
level_is (subs.AlterType column kind using) = modes.AccessExclusive
level_is (subs.AddColumn column) = modes.AccessExclusive
level_is (subs.SetNotNull column) = modes.AccessExclusive
level_is (subs.AddConstraint constraint not_valid) = rule_level constraint.rule
level_is (subs.SetDefault column expr) = modes.AccessExclusive
level_is (subs.Validate name) = modes.ShareUpdateExclusive
level_is (subs.SetStatistics column number) = modes.ShareUpdateExclusive
level_is (subs.SetFillfactor percent) = modes.ShareUpdateExclusive
level_is (subs.Inherit parent) = modes.AccessExclusive
level_is (subs.NoInherit parent) = modes.AccessExclusive

-- ADD of a constraint: keys, then what rows and other tables are asked for
abbrev pub rule_pass : Rule → ℕ
rule_pass (rules.Check expr no_inherit) = 7
rule_pass (rules.Unique columns) = 6
rule_pass (rules.PrimaryKey columns) = 6
rule_pass (rules.ForeignKey columns table keys) = 7

-- the pass in which each subcommand is done
abbrev pub pass_is : Sub → ℕ
pass_is (subs.DropColumn name) = 1
pass_is (subs.DropConstraint name) = 1
pass_is (subs.DropDefault column) = 1
pass_is (subs.DropNotNull column) = 1
pass_is (subs.AlterType column kind using) = 2
pass_is (subs.AddColumn column) = 4
pass_is (subs.SetNotNull column) = 5
pass_is (subs.AddConstraint constraint not_valid) = rule_pass constraint.rule
pass_is (subs.SetDefault column expr) = 7
pass_is (subs.Validate name) = 8
pass_is (subs.SetStatistics column number) = 8
pass_is (subs.SetFillfactor percent) = 8
pass_is (subs.Inherit parent) = 8
pass_is (subs.NoInherit parent) = 8

-- the stricter of two modes
abbrev pub stricter_of : Mode → Mode → Mode
stricter_of a b = if nat_lt (strictness a) (strictness b) then b else a

-- the strictest of a mode and of those of subcommands
abbrev pub strictest_from : Mode → List Sub → Mode
strictest_from mode [] = mode
strictest_from mode (sub ∷ more) = strictest_from (stricter_of mode (level_is sub)) more

abbrev pub strictest_of : List Sub → Mode
strictest_of all = strictest_from modes.AccessShare all

-- The mode of some subcommand, than which no other's is stricter.
pub record IsStrictest (all : List Sub) (mode : Mode) : Type 0 where
  pub some : Any (λ sub. level_is sub ≡ mode) all
  pub most : All (λ sub. strictness (level_is sub) ≤ strictness mode) all
