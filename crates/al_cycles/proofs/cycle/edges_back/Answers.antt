use Rattle.std.proofs.Common.{◌≡◌, arith}
use Rattle.al_cycles.specs.Blocks.{blocks}
use Rattle.al_cycles.proofs.Ways.{goes-first, none-next, next-goes, next-far, goes-last}
use Rattle.al_cycles.proofs.cycle.edges_back.Goals as goal

pub loop-left-init : goal.loop-left-init
loop-left-init c = record {
  within = c.requires.known;
  far = c.requires.at;
  goes = goes-first (blocks c.args.locks.now c.args.waits.now) c.args.locks.now.sessions c.requires.done.rounds c.args.table.now _ c.args.session c.args.between
      c.requires.done.are c.requires.at c.new-edges.ensures;
}

pub unreachable-requires : goal.unreachable-requires
unreachable-requires c =
    none-next (blocks c.args.locks.now c.args.waits.now) c.args.locks.now.sessions c.args.session c.requires.done.rounds c.args.table.now c.loop-left.at c.loop-left.left _
    c.requires.done.are c.loop-left-test.true c.loop-left.invariant.far c.next_of.ensures c.in_default.is

pub loop-left-preserved : goal.loop-left-preserved
loop-left-preserved c =
    let there = next-far (blocks c.args.locks.now c.args.waits.now) c.args.locks.now.sessions c.args.table.now c.loop-left.at _ c.in-Some.next c.in-Some.ensures in
    record {
      within = there.0;
      far = there.1;
      goes = next-goes (blocks c.args.locks.now c.args.waits.now) c.args.locks.now.sessions c.args.session c.requires.done.rounds c.args.table.now c.loop-left.edges _
          c.loop-left.at c.loop-left.left c.in-Some.next c.requires.done.are c.loop-left.invariant.within c.loop-left-test.true c.loop-left.invariant.far c.in-Some.ensures
          c.loop-left.invariant.goes c.in_ok-add_edge.ensures.ok;
    }

pub returns : goal.returns
returns c =
    let none : c.loop-left.left ≡ 0 = let h = c.loop-left-test.false in omega (arith, h) in
    goes-last (blocks c.args.locks.now c.args.waits.now) c.args.locks.now.sessions c.args.session c.requires.done.rounds c.args.table.now c.loop-left.edges _
    c.loop-left.at c.loop-left.left c.requires.done.are none c.loop-left.invariant.far c.loop-left.invariant.goes c.in_ok-add_edge-2.ensures.ok
