use Rattle.std.proofs.Common.{arith, refl}
use Rattle.al_engine.proofs.Joined.{within_beside, within_steps, after_busy, after_list, after_keeps}
use Rattle.al_engine.proofs.sessions.SessionList.after.Goals as goal

pub after-requires-clause-known : goal.after-requires-clause-known
after-requires-clause-known c = within_steps c.self.inside.steps c.self.inside.beside.items c.self.invariant c.args.session (rw (← c.self.view_is) at c.requires.known)

pub index_mut-beside-requires : goal.index_mut-beside-requires
index_mut-beside-requires c = omega (arith, within_beside c.self.inside.steps c.self.inside.beside.items c.self.invariant c.args.session (rw (← c.self.view_is) at c.requires.known), c.self.inside.beside.ok)

pub after-requires-clause-in_hand : goal.after-requires-clause-in_hand
after-requires-clause-in_hand c = after_busy c.self.inside.steps c.self.inside.beside.items c.self.invariant c.args.session (rw (← c.self.view_is) at c.requires.known) c.args.how c.args.state (rw (← c.self.view_is) at c.requires.is_after)

pub returns-clause-list : goal.returns-clause-list
returns-clause-list c = rw (← c.self.view_is, c.after.ensures.sessions, c.refuse_of-beside.ensures) (after_list c.self.inside.steps c.self.inside.beside.items c.self.invariant c.args.session (rw (← c.self.view_is) at c.requires.known) c.args.how c.args.state c.index_mut-beside.result.now c.index_mut-beside.ensures.value (rw (← c.self.view_is) at c.requires.is_after))

pub returns-clause-controls : goal.returns-clause-controls
returns-clause-controls c = rw (← c.self.view_is, c.after.ensures.sessions) (after_keeps c.self.inside.steps c.self.inside.beside.items c.self.invariant c.args.session (rw (← c.self.view_is) at c.requires.known) c.args.how c.index_mut-beside.result.now _ c.index_mut-beside.ensures.value refl)
