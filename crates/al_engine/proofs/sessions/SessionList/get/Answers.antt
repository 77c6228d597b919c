use Rattle.std.proofs.Common.{arith}
use Rattle.al_engine.proofs.Joined.{within_beside, within_steps, got_here}
use Rattle.al_engine.proofs.sessions.SessionList.get.Goals as goal

pub index-beside-requires : goal.index-beside-requires
index-beside-requires c = omega (arith, within_beside c.self.inside.steps c.self.inside.beside.items c.self.invariant c.args.session (rw (← c.self.view_is) at c.requires.known), c.self.inside.beside.ok)

pub next-next-requires : goal.next-next-requires
next-next-requires c = within_steps c.self.inside.steps c.self.inside.beside.items c.self.invariant c.args.session (rw (← c.self.view_is) at c.requires.known)

pub left-requires : goal.left-requires
left-requires c = within_steps c.self.inside.steps c.self.inside.beside.items c.self.invariant c.args.session (rw (← c.self.view_is) at c.requires.known)

pub state-requires : goal.state-requires
state-requires c = within_steps c.self.inside.steps c.self.inside.beside.items c.self.invariant c.args.session (rw (← c.self.view_is) at c.requires.known)

pub returns : goal.returns
returns c = rw (← c.self.view_is, c.hand_in.ensures, c.done_in.ensures, c.left.ensures, c.block_in.ensures, c.next-next.ensures, c.state.ensures) (got_here c.self.inside.steps c.self.inside.beside.items c.self.invariant c.args.session (rw (← c.self.view_is) at c.requires.known) c.index-beside.result.now c.index-beside.ensures)
