use Rattle.std.proofs.Common.{◌≡◌, refl, subst}
use Rattle.al_queue.specs.Locks.{Locks, Kept}
use Rattle.al_queue.specs.Walk.{released}
use Rattle.al_queue.proofs.Walks.{settled-after, hands_on-after}
use Rattle.al_queue.proofs.table.LockTable.release.Goals as goal

pub returns-clause-settled : goal.returns-clause-settled
returns-clause-settled c = settled-after (record { held = c.end_claims.new.held.items; waiting = c.end_claims.new.waiting.items; granted = c.self.inside.granted.items }) _ c.walk_queues.ensures.walked

pub returns-clause-hands_on : goal.returns-clause-hands_on
returns-clause-hands_on c =
    let before : Locks = record { held = c.end_claims.new.held.items; waiting = c.end_claims.new.waiting.items; granted = c.self.inside.granted.items } in
    let same : before ≡ released c.args.self.now.locks c.args.session =
    subst (λ (k : Kept). before ≡ released k.locks c.args.session) c.self.view_is (rw (c.end_claims.ensures.held, c.end_claims.ensures.waiting) refl) in
    hands_on-after (released c.args.self.now.locks c.args.session) before _ same c.walk_queues.ensures.walked
