-- What SELECT * FROM a table answers (7.1, 7.3).
use Rattle.std.specs.Prelude.{ℕ, List, map}
use Rattle.al_values.specs.declared.scalar.Value.{Value}
use Rattle.al_history.specs.declared.statement.Column.{Column}
use Rattle.al_history.specs.Database.{Table, VersionedRow}

-- the names of the table's columns, in order
abbrev pub column_names : Table → List (List ℕ)
column_names t = map (λ (c : Column). c.name) t.columns

-- all rows of the table, by ascending number
abbrev pub answer : Table → List (List Value)
answer t = map (λ (r : VersionedRow). r.values) t.rows
