use Rattle.std.proofs.Common.{◌≡◌, ◌<◌, ◌^◌, take}
use Rattle.al_engine.specs.Sessions.{light}
use Rattle.al_engine.proofs.sessions.SessionList.light.Given as goal

abbrev pub invariant-loop-at : goal.invariant-loop-at
invariant-loop-at l = (l.count ≡ light (take l.at l.self.list)) × (l.count < 2 ^ 32)
