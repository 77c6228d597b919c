use Rattle.std.proofs.Common.{◌≡◌, refl, arith}
use Rattle.al_cycles.specs.Blocks.{blocks}
use Rattle.al_cycles.proofs.Layers.{round-begins, round-ends-at}
use Rattle.al_cycles.proofs.rounds.round.Goals as goal

pub loop-session-init : goal.loop-session-init
loop-session-init c = record {
  amid = round-begins (blocks c.args.locks.now c.args.waits.now) c.args.locks.now.sessions c.args.end c.args.between c.args.table.now.items c.requires.rounds;
  most = omega arith;
  fewer = λ e. absurd (cc);
  same = λ e. refl;
}

pub returns-clause-rounds : goal.returns-clause-rounds
returns-clause-rounds c =
    let all : c.loop-session.session ≡ c.args.locks.now.sessions =
    let some = c.loop-session.auto.session-end in let more = c.loop-session-test.false in let known = c.sessions-session-end.ensures in omega arith in
    round-ends-at (blocks c.args.locks.now c.args.waits.now) c.args.locks.now.sessions c.args.end c.args.between _ c.loop-session.table.items all c.loop-session.invariant.amid
