use Rattle.std.proofs.Common.{◌≡◌, subst, ◌↔◌, IsTrue, IfSome, None}
use Rattle.al_queue.specs.declared.grant.Grant.{Grant}
use Rattle.al_queue.specs.Locks.{Kept}
use Rattle.al_queue.specs.InWay.{grantable}
use Rattle.al_queue.specs.Waits.{IsLeastBefore}
use Rattle.al_queue.proofs.Least.{found-none, found-least}
use Rattle.al_queue.proofs.table.LockTable.stands_before.Goals as goal

pub returns-clause-none : goal.returns-clause-none
returns-clause-none c =
    let request : Grant = record { session = c.args.session; table = c.args.table; mode = c.args.mode } in
    subst (λ (k : Kept). (c.least_in_way.result ≡ None) ↔ IsTrue (grantable k.locks request)) c.self.view_is
    (found-none request c.self.inside.held.items c.self.inside.waiting.items _ (cc))

pub returns-clause-least : goal.returns-clause-least
returns-clause-least c =
    let request : Grant = record { session = c.args.session; table = c.args.table; mode = c.args.mode } in
    subst (λ (k : Kept). IfSome c.least_in_way.result (IsLeastBefore k.locks request)) c.self.view_is
    (found-least request c.self.inside.held.items c.self.inside.waiting.items _ (cc))
