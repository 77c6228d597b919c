use Rattle.std.proofs.Common.{◌≡◌, ◌<◌, Some}
use Rattle.al_cycles.specs.Blocks.{blocks}
use Rattle.al_cycles.specs.Rounds.{between_of}
use Rattle.al_cycles.proofs.Ways.{GoesOn}
use Rattle.al_cycles.proofs.cycle.edges_back.Given as goal

abbrev pub invariant-loop-left : goal.invariant-loop-left
invariant-loop-left l = record {
  within : l.at < l.locks.sessions;
  far : between_of l.table l.at ≡ Some l.left;
  goes : GoesOn (blocks l.locks l.waits) l.locks.sessions l.session l.edges l.at l.left;
}
