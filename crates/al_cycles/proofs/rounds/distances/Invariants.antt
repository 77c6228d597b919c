use Rattle.std.proofs.Common.{◌+◌, ◌≤◌}
use Rattle.al_cycles.specs.Blocks.{blocks}
use Rattle.al_cycles.specs.Rounds.{AreRounds, unknown}
use Rattle.al_cycles.proofs.rounds.distances.Given as goal

abbrev pub invariant-loop-table : goal.invariant-loop-table
invariant-loop-table l = record {
  rounds : AreRounds (blocks l.locks l.waits) l.locks.sessions l.end l.between l.table.items;
  left : l.between + unknown l.table.items ≤ l.locks.sessions;
}

abbrev pub decreases-loop-table : goal.decreases-loop-table
decreases-loop-table l = unknown l.table.items
