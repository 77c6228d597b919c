-- How far a reading of a table's versions has come (the manual, 13.2.1 and SELECT).
use Rattle.std.specs.Prelude.{◌≡◌, ℕ, ◌+◌, ◌-◌, ◌≤◌, List, [], ◌++◌, if◌then◌else◌, nat_lt, length, take, drop, min, max}
use Rattle.std.specs.Map.{values_of}
use Rattle.al_values.specs.declared.scalar.Value.{Value}
use Rattle.al_xacts.specs.declared.xact.Started.{Started}
use Rattle.al_xacts.specs.Snapshots.{Taken}
use Rattle.al_heap.specs.declared.version.Stored.{Stored}
use Rattle.al_schema.specs.declared.slot.Slot.{Slot}
use Rattle.al_schema.specs.Slots.{columns_of}
use Rattle.al_query.specs.declared.origin.Origin.{Origin}
use Rattle.al_query.specs.Origins.{names_in, origins_of, origins_named}
use Rattle.al_query.specs.Rows.{with_rows, rows_seen}

-- the snapshot by which a reading reads; the names of its columns; where these stand in the table in hand; the rows of the tables
-- before it; the rows found in it, by their numbers; and how many of its versions were read
pub record Progress : Type 0 where
  pub snapshot : Taken
  pub names : List (List ℕ)
  pub origins : List Origin
  pub earlier : List (List Value)
  pub found : List (ℕ × List Value)
  pub place : ℕ

-- nothing is read yet
abbrev pub begun : List Slot → Taken → Progress
begun slots snapshot =
    record { snapshot = snapshot; names = names_in (columns_of slots); origins = origins_of slots; earlier = []; found = []; place = 0 }

-- the rows so far: table after table, and those of a table by number
abbrev pub rows_of : Progress → List (List Value)
rows_of reading = reading.earlier ++ values_of reading.found

-- the next table is in hand: the columns of the same names
abbrev pub onto_next : List Slot → Progress → Progress
onto_next slots reading =
    record reading { origins = origins_named slots reading.names; earlier = rows_of reading; found = []; place = 0 }

-- the versions from one place up to and without another
abbrev pub between : List Stored → ℕ → ℕ → List Stored
between versions from to = drop from (take to versions)

-- read up to a place: the versions before it that weren't read before are, and nothing else changes
abbrev pub read_to : List Stored → List Started → ℕ → Progress → Progress
read_to versions transactions place reading =
    record reading { found = with_rows reading.origins reading.snapshot transactions reading.found (between versions reading.place place); place = place }

-- where a call stops that begins at a place: it reads at most so many versions, but one at least, and none from the end on
abbrev pub piece_end : ℕ → ℕ → ℕ → ℕ
piece_end place end up_to = if nat_lt place end then place + min (max up_to 1) (end - place) else place

-- of the table in hand the rows are found that the snapshot sees among the versions before the place, and no others
pub record HasRead (versions : List Stored) (transactions : List Started) (reading : Progress) : Type 0 where
  pub within : reading.place ≤ length versions
  pub found : reading.found ≡ rows_seen reading.origins reading.snapshot transactions (take reading.place versions)
