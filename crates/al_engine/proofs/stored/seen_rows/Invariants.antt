use Rattle.std.proofs.Common.{◌≡◌, ◌+◌, ◌++◌, drop, Some, map}
use Rattle.al_engine.specs.Stored.{slot_of, row_of, answers, seen_by}
use Rattle.al_engine.proofs.stored.seen_rows.Given as goal

abbrev pub invariant-loop-row : goal.invariant-loop-row
invariant-loop-row g l =
    record {
      read : l.all ++ answers (seen_by (Some l.reader.xact) l.reader.committed.now) (map slot_of l.columns) (map row_of (drop l.row-index l.rows)) ≡ answers (seen_by (Some l.reader.xact) l.reader.committed.now) (map slot_of l.columns) (map row_of l.rows);
      counted : l.steps ≡ l.fn.steps + l.row-index;
    }
