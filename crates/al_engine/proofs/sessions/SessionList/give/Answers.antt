use Rattle.std.proofs.Common.{arith}
use Rattle.al_engine.proofs.Joined.{within_beside, within_steps, free_step, give_list, give_keeps_controls}
use Rattle.al_engine.proofs.sessions.SessionList.give.Goals as goal

pub give-requires-clause-known : goal.give-requires-clause-known
give-requires-clause-known c = within_steps c.self.inside.steps c.self.inside.beside.items c.self.invariant c.args.session (rw (← c.self.view_is) at c.requires.known)

pub give-requires-clause-free : goal.give-requires-clause-free
give-requires-clause-free c = free_step c.self.inside.steps c.self.inside.beside.items c.self.invariant c.args.session (rw (← c.self.view_is) at c.requires.known) (rw (← c.self.view_is) at c.requires.idle)

pub index_mut-beside-requires : goal.index_mut-beside-requires
index_mut-beside-requires c = omega (arith, within_beside c.self.inside.steps c.self.inside.beside.items c.self.invariant c.args.session (rw (← c.self.view_is) at c.requires.known), c.self.inside.beside.ok)

pub returns-clause-ok : goal.returns-clause-ok
returns-clause-ok c = rw (← c.self.view_is, c.in_ok-give.ensures.ok) (record {
  list = give_list c.self.inside.steps c.self.inside.beside.items c.self.invariant c.args.session (rw (← c.self.view_is) at c.requires.known) c.args.block _ c.index_mut-beside.result.now c.index_mut-beside.ensures.value (rw (← c.self.view_is) at c.requires.idle);
  controls = λ terms. give_keeps_controls c.self.inside.steps c.self.inside.beside.items c.args.session c.args.block _ c.index_mut-beside.result.now terms c.self.invariant;
})
