use Rattle.std.proofs.Common.{◌≡◌, ℕ, ◌<◌, false}
use Rattle.al_cycles.specs.Blocks.{blocks}
use Rattle.al_cycles.specs.Rounds.{is_next}
use Rattle.al_cycles.proofs.rounds.next_of.Given as goal

abbrev pub invariant-loop-other : goal.invariant-loop-other
invariant-loop-other l = (m : ℕ) → m < l.other → is_next (blocks l.locks l.waits) l.table l.session l.between m ≡ false
