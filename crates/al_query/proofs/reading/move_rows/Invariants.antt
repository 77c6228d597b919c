use Rattle.std.proofs.Common.{◌≡◌, ◌≤◌, ◌+◌, ◌++◌, length}
use Rattle.std.specs.Map.{values_of}
use Rattle.std.specs.Vec.{vec_len, vec_capacity}
use Rattle.al_query.proofs.reading.move_rows.Given as goal

abbrev pub invariant-loop-row : goal.invariant-loop-row
invariant-loop-row l = (l.rows.items ++ values_of l.found.entries ≡ l.initial.rows.items ++ values_of l.initial.found.entries) × (vec_len l.rows + length l.found.entries ≤ vec_capacity l.rows)

abbrev pub decreases-loop-row : goal.decreases-loop-row
decreases-loop-row l = length l.found.entries
