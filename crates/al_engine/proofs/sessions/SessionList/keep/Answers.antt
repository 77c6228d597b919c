use Rattle.std.proofs.Common.{arith, refl}
use Rattle.al_engine.proofs.Joined.{within_beside, keep_list, keep_keeps}
use Rattle.al_engine.proofs.sessions.SessionList.keep.Goals as goal

pub index_mut-beside-requires : goal.index_mut-beside-requires
index_mut-beside-requires c = omega (arith, within_beside c.self.inside.steps c.self.inside.beside.items c.self.invariant c.args.session (rw (← c.self.view_is) at c.requires.known), c.self.inside.beside.ok)

pub returns-clause-list : goal.returns-clause-list
returns-clause-list c = rw (← c.self.view_is) (keep_list c.self.inside.steps c.self.inside.beside.items c.self.invariant c.args.session (rw (← c.self.view_is) at c.requires.known) c.args.state c.index_mut-beside.result.now c.index_mut-beside.ensures.value (rw (← c.self.view_is) at c.requires.same_step))

pub returns-clause-controls : goal.returns-clause-controls
returns-clause-controls c = rw (← c.self.view_is) (keep_keeps c.self.inside.steps c.self.inside.beside.items c.self.invariant c.args.session (rw (← c.self.view_is) at c.requires.known) c.index_mut-beside.result.now _ c.index_mut-beside.ensures.value refl)
