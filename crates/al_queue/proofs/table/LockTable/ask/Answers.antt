use Rattle.std.proofs.Common.{sym, subst, arith, List}
use Rattle.al_queue.specs.declared.grant.Grant.{Grant}
use Rattle.std.proofs.lemmas.Grind.{common_steps}
use Rattle.al_queue.specs.Locks.{Locks, Kept}
use Rattle.al_queue.specs.Settled.{IsSettled}
use Rattle.al_queue.proofs.Walks.{settled-granted, settled-entered}
use Rattle.al_queue.proofs.table.LockTable.ask.Goals as goal

pub returns-then-not-is_held_up-clause-settled : goal.returns-then-not-is_held_up-clause-settled
returns-then-not-is_held_up-clause-settled c = λ h.
    let before : Locks = record { held = c.self.inside.held.items; waiting = c.self.inside.waiting.items; granted = c.self.inside.granted.items } in
    let settled : IsSettled before = subst (λ (k : Kept). IsSettled k.locks) (sym c.self.view_is) h in
    settled-granted before (record { session = c.args.session; table = c.args.table; mode = c.args.mode }) _ settled (cc)

pub returns-clause-settled : goal.returns-clause-settled
returns-clause-settled c = λ h.
    let before : Locks = record { held = c.reserve.new.self.items; waiting = c.self.inside.waiting.items; granted = c.self.inside.granted.items } in
    let settled : IsSettled before = subst (λ (held : List Grant). IsSettled (record { held = held; waiting = c.self.inside.waiting.items; granted = c.self.inside.granted.items })) (sym c.reserve.ensures.items) (subst (λ (k : Kept). IsSettled k.locks) (sym c.self.view_is) h) in
    settled-entered before (record { session = c.args.session; table = c.args.table; mode = c.args.mode }) _ settled (grind (arith, common_steps)) (cc)
