use Rattle.std.proofs.Common.{sym, ◌<◌, arith}
use Rattle.al_tree.proofs.Bisected.{among-none, among-at}
use Rattle.al_tree.proofs.line.is_among.Goals as goal

pub returns-then-above-eq0 : goal.returns-then-above-eq0
returns-then-above-eq0 c =
    sym (among-none c.args.number c.args.numbers.now c.number_place-above.result c.requires c.number_place-above.ensures.within c.number_place-above.ensures.value c.if-above-eq0.true)

pub returns : goal.returns
returns c =
    let some : 0 < c.number_place-above.result = let h = c.if-above-eq0.false in omega arith in
    among-at c.args.number c.args.numbers.now c.number_place-above.result c.requires c.number_place-above.ensures.within c.number_place-above.ensures.value some
