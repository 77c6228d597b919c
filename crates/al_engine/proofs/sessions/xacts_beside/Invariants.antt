use Rattle.std.proofs.Common.{◌≡◌, map, take}
use Rattle.al_engine.specs.declared.sessions.Beside.{Beside}
use Rattle.al_engine.proofs.sessions.xacts_beside.Given as goal

abbrev pub invariant-loop-beside : goal.invariant-loop-beside
invariant-loop-beside l = l.xacts.items ≡ map (λ (beside : Beside). beside.xact) (take l.beside-index l.sessions)
