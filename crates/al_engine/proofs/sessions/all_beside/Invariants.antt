use Rattle.std.proofs.Common.{◌≡◌, replicate}
use Rattle.al_engine.specs.Listed.{nothing_beside}
use Rattle.al_engine.proofs.sessions.all_beside.Given as goal

abbrev pub invariant-loop-session : goal.invariant-loop-session
invariant-loop-session l = l.beside.items ≡ replicate l._session nothing_beside
