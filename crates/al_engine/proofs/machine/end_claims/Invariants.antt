use Rattle.std.proofs.Common.{◌≡◌, ◌+◌, take}
use Rattle.al_engine.specs.LockTie.{locked_by}
use Rattle.al_engine.specs.Sessions.{xact_in, woken}
use Rattle.al_engine.specs.Kept.{past_in}
use Rattle.al_engine.specs.Listed.{KeepsControls}
use Rattle.al_engine.proofs.machine.end_claims.Given as goal

abbrev pub invariant-loop-i : goal.invariant-loop-i
invariant-loop-i l = record {
  past : past_in l.machine ≡ locked_by (xact_in l.initial.machine.sessions.list) (take l.i l.initial.machine.locks.locks.granted) (past_in l.initial.machine);
  sessions : l.machine.sessions.list ≡ woken (take l.i l.initial.machine.locks.locks.granted) l.initial.machine.sessions.list;
  controls : KeepsControls l.initial.machine.sessions l.machine.sessions;
  locks : l.machine.locks ≡ l.initial.machine.locks;
  tables : l.machine.tables.items ≡ l.initial.machine.tables.items;
  committed : l.machine.committed.items ≡ l.initial.machine.committed.items;
  weight : l.machine.weight ≡ l.initial.machine.weight;
  room : l.machine.journal.room + l.i ≡ l.initial.machine.journal.room;
}
