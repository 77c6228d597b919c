use Rattle.std.proofs.Common.{◌≡◌, ◌++◌, drop, Some, map}
use Rattle.al_history.specs.Store.{spread}
use Rattle.al_engine.specs.Stored.{slot_of, seen_by}
use Rattle.al_engine.proofs.stored.spread.Given as goal

abbrev pub invariant-loop-column : goal.invariant-loop-column
invariant-loop-column l = l.values ++ spread (seen_by (Some l.reader.xact) l.reader.committed.now) (map slot_of (drop l.column-index l.columns)) (drop l.next l.row) ≡ spread (seen_by (Some l.reader.xact) l.reader.committed.now) (map slot_of l.columns) l.row
