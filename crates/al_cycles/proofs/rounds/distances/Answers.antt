use Rattle.al_cycles.specs.Blocks.{blocks}
use Rattle.al_cycles.proofs.Layers.{done-none}
use Rattle.al_cycles.proofs.rounds.distances.Goals as goal

pub returns-then-not-round : goal.returns-then-not-round
returns-then-not-round c =
    done-none (blocks c.args.locks.now c.args.waits.now) c.args.locks.now.sessions c.args.end c.loop-table.between c.loop-table.table.items c.round.new.table.items
    c.loop-table.invariant.rounds c.round.ensures.rounds (c.round.ensures.same c.if-not-round.true)
