use Rattle.std.proofs.Common.{◌≡◌, subst, ap, List}
use Rattle.al_queue.specs.declared.grant.Grant.{Grant}
use Rattle.al_queue.specs.Locks.{Locks, Kept}
use Rattle.al_queue.specs.Walk.{withdrawn}
use Rattle.al_queue.proofs.Walks.{settled-after, hands_on-after}
use Rattle.al_queue.proofs.table.LockTable.withdraw.Goals as goal

pub returns-clause-settled : goal.returns-clause-settled
returns-clause-settled c = settled-after (record { held = c.self.inside.held.items; waiting = c.keep_others.new.grants.items; granted = c.self.inside.granted.items }) _ c.walk_queues.ensures.walked

pub returns-clause-hands_on : goal.returns-clause-hands_on
returns-clause-hands_on c =
    let before : Locks = record { held = c.self.inside.held.items; waiting = c.keep_others.new.grants.items; granted = c.self.inside.granted.items } in
    let same : before ≡ withdrawn c.args.self.now.locks c.args.session =
    subst (λ (k : Kept). before ≡ withdrawn k.locks c.args.session) c.self.view_is (ap (λ (grants : List Grant). record { held = c.self.inside.held.items; waiting = grants; granted = c.self.inside.granted.items }) c.keep_others.ensures.items) in
    hands_on-after (withdrawn c.args.self.now.locks c.args.session) before _ same c.walk_queues.ensures.walked
