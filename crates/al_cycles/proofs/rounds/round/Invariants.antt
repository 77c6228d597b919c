use Rattle.std.proofs.Common.{◌≡◌, ◌+◌, ◌≤◌, true, false}
use Rattle.al_cycles.specs.Blocks.{blocks}
use Rattle.al_cycles.specs.Rounds.{AreMidRound, unknown}
use Rattle.al_cycles.proofs.rounds.round.Given as goal

abbrev pub invariant-loop-session : goal.invariant-loop-session
invariant-loop-session l = record {
  amid : AreMidRound (blocks l.locks l.waits) l.locks.sessions l.end l.between l.session l.table.items;
  most : unknown l.table.items ≤ unknown l.initial.table.items;
  fewer : l.found ≡ true → unknown l.table.items + 1 ≤ unknown l.initial.table.items;
  same : l.found ≡ false → l.table.items ≡ l.initial.table.items;
}
