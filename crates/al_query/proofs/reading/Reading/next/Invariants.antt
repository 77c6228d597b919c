use Rattle.std.proofs.Common.{◌≡◌, ◌+◌, ◌-◌, ◌≤◌}
use Rattle.al_query.specs.Progress.{read_to}
use Rattle.al_query.proofs.reading.Reading.next.Given as goal

abbrev pub invariant-loop-self : goal.invariant-loop-self
invariant-loop-self g l = (l.self ≡ read_to l.heap l.xacts.transactions l.self.place l.initial.self) × (l.initial.self.place ≤ l.self.place) × (l.self.place ≤ l.stop) × (l.steps + l.initial.self.place ≡ l.initial.steps + l.self.place)

abbrev pub decreases-loop-self : goal.decreases-loop-self
decreases-loop-self g l = l.stop - l.self.place
