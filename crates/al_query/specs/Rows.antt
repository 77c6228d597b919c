-- The rows that a query of a whole table finds (the manual, 13.2.1 and 13.6, and SELECT).
use Rattle.std.specs.Prelude.{ℕ, List, [], ◌∷◌, Bool, if◌then◌else◌}
use Rattle.std.specs.Ordering.{nat_cmp}
use Rattle.std.specs.BTreeMap.{insert_entry}
use Rattle.al_values.specs.declared.scalar.Value.{Value}
use Rattle.al_xacts.specs.declared.xact.Started.{Started}
use Rattle.al_xacts.specs.Snapshots.{Taken}
use Rattle.al_heap.specs.declared.version.Stored.{Stored}
use Rattle.al_heap.specs.Visible.{is_visible}
use Rattle.al_query.specs.declared.origin.Origin.{Origin}
use Rattle.al_query.specs.Origins.{row_from}

-- rows by their numbers, with the columns of one more where it is seen
abbrev pub with_row : List Origin → Bool → List (ℕ × List Value) → ℕ → List Value → List (ℕ × List Value)
with_row origins seen found row stored = if seen then insert_entry nat_cmp found row (row_from origins stored) else found

-- with that of a version where the snapshot sees it
abbrev pub with_version : List Origin → Taken → List Started → List (ℕ × List Value) → Stored → List (ℕ × List Value)
with_version origins snapshot transactions found version =
    with_row origins (is_visible snapshot transactions version) found version.row version.values

-- with those of all versions of a list that the snapshot sees
abbrev pub with_rows : List Origin → Taken → List Started → List (ℕ × List Value) → List Stored → List (ℕ × List Value)
with_rows origins snapshot transactions found [] = found
with_rows origins snapshot transactions found (version ∷ versions) =
    with_rows origins snapshot transactions (with_version origins snapshot transactions found version) versions

-- the rows that a snapshot sees among versions, by their numbers
abbrev pub rows_seen : List Origin → Taken → List Started → List Stored → List (ℕ × List Value)
rows_seen origins snapshot transactions versions = with_rows origins snapshot transactions [] versions
