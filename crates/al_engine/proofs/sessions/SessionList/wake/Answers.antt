use Rattle.std.proofs.Common.{arith, refl}
use Rattle.al_engine.proofs.Joined.{within_all, beyond_all, wake_list, keep_keeps}
use Rattle.al_engine.proofs.sessions.SessionList.wake.Goals as goal

pub returns-then-session-len-clause-list : goal.returns-then-session-len-clause-list
returns-then-session-len-clause-list c = rw (← c.self.view_is) (wake_list c.self.inside.steps c.self.inside.beside.items c.self.invariant c.args.session (within_all _ _ c.self.invariant _ (omega (arith, c.if-session-len.true, c.len.ensures, c.self.inside.beside.ok))) c.index_mut.result.now c.index_mut.ensures.value)

pub returns-then-session-len-clause-controls : goal.returns-then-session-len-clause-controls
returns-then-session-len-clause-controls c = rw (← c.self.view_is) (keep_keeps c.self.inside.steps c.self.inside.beside.items c.self.invariant c.args.session (within_all _ _ c.self.invariant _ (omega (arith, c.if-session-len.true, c.len.ensures, c.self.inside.beside.ok))) c.index_mut.result.now _ c.index_mut.ensures.value refl)

pub returns-else-session-len-clause-list : goal.returns-else-session-len-clause-list
returns-else-session-len-clause-list c = rw (← c.self.view_is) (beyond_all c.self.inside.steps c.self.inside.beside.items c.self.invariant c.args.session (omega (arith, c.if-session-len.false, c.len.ensures, c.self.inside.beside.ok)))
