-- The most that a run may have of a thing.
use Rattle.std.specs.Prelude.{ℕ}

-- the tables that are made in it, those of aborted transactions counted
abbrev pub most_tables : ℕ
most_tables = 500

-- the columns of a table
abbrev pub most_columns : ℕ
most_columns = 200
