use Rattle.std.proofs.Common.{arith, refl, ◌∙◌, ◌+◌, ◌≤◌, length}
use Rattle.al_engine.proofs.Joined.{within_all, length_joined, light_take, light_next}
use Rattle.al_engine.proofs.sessions.SessionList.light.Goals as goal

pub get-requires : goal.get-requires
get-requires c = record { known = rw (← c.self.view_is) (within_all c.self.inside.steps c.self.inside.beside.items c.self.invariant c.loop-at.at (omega (arith, c.loop-at-test.true, c.sessions-at-end.ensures, c.self.invariant))) }

pub loop-at-preserved : goal.loop-at-preserved
loop-at-preserved c = (omega (arith, light_next c.args.self.now.list c.loop-at.at (c.loop-at.at + 1) c.get.result refl c.get.ensures, c.loop-at.invariant.0, c.light_of-count.ensures), omega (arith, c.if-count-gt-MOST_PLACES.false))

pub returns : goal.returns
returns c =
    let far : length c.args.self.now.list ≤ c.loop-at.at = rw (← c.self.view_is) (omega (arith, length_joined c.self.inside.steps c.self.inside.beside.items c.self.invariant, c.loop-at-test.false, c.sessions-at-end.ensures, c.self.invariant)) in
    (c.loop-at.invariant.0 ∙ light_take c.args.self.now.list c.loop-at.at far, c.loop-at.invariant.1)
