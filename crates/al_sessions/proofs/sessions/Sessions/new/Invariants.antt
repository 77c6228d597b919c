use Rattle.std.proofs.Common.{◌≡◌, replicate}
use Rattle.al_sessions.specs.Steps.{at_rest}
use Rattle.al_sessions.proofs.sessions.Sessions.new.Given as goal

abbrev pub invariant-loop : goal.invariant-loop
invariant-loop l = l.list.items ≡ replicate l.counter at_rest
