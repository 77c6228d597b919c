use Rattle.std.proofs.Common.{◌≡◌, drop, Some}
use Rattle.al_history.specs.Database.{named}
use Rattle.al_history.specs.Store.{shown}
use Rattle.al_engine.specs.Stored.{all_kept, seen_by}
use Rattle.al_engine.proofs.stored.position_of.Given as goal

abbrev pub invariant-loop-at : goal.invariant-loop-at
invariant-loop-at l = named (shown (seen_by (Some l.reader.xact) l.reader.committed.now) (all_kept l.tables)) l.name ≡ named (shown (seen_by (Some l.reader.xact) l.reader.committed.now) (all_kept (drop l.at l.tables))) l.name
