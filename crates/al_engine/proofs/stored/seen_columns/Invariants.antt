use Rattle.std.proofs.Common.{◌≡◌, ◌++◌, drop, Some, map}
use Rattle.al_history.specs.Store.{shown_columns}
use Rattle.al_engine.specs.Stored.{slot_of, seen_by}
use Rattle.al_engine.proofs.stored.seen_columns.Given as goal

abbrev pub invariant-loop-column : goal.invariant-loop-column
invariant-loop-column l = l.shape ++ shown_columns (seen_by (Some l.reader.xact) l.reader.committed.now) (map slot_of (drop l.column-index l.columns)) ≡ shown_columns (seen_by (Some l.reader.xact) l.reader.committed.now) (map slot_of l.columns)
