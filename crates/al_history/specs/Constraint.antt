-- Constraints (5.4). No statement so far makes one, so what a constraint can ask is the empty type; each further form
-- brings its rules.
use Rattle.std.specs.Prelude.{ℕ, List, Bool}

-- what a constraint asks of the rows of its table
abbrev pub Demand : Type 0
Demand = ⊥

-- a constraint is told apart by the entry that made it, its table and its first name
pub record Constraint : Type 0 where
  pub maker : ℕ
  pub table : ℕ
  pub first_name : List ℕ
  pub demand : Demand
  pub valid : Bool
