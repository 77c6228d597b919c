use Rattle.std.proofs.Common.{◌≡◌, ◌++◌, drop, Some, map}
use Rattle.al_history.specs.Store.{shown_values}
use Rattle.al_engine.specs.Stored.{slot_of, seen_by}
use Rattle.al_engine.proofs.stored.seen_values.Given as goal

abbrev pub invariant-loop-at : goal.invariant-loop-at
invariant-loop-at l = l.values ++ shown_values (seen_by (Some l.reader.xact) l.reader.committed.now) (map slot_of (drop l.at l.columns)) (drop l.at l.row) ≡ shown_values (seen_by (Some l.reader.xact) l.reader.committed.now) (map slot_of l.columns) l.row
