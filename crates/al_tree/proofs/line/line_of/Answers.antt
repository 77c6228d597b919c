use Rattle.std.proofs.Common.{◌<◌, ◌-◌, sym, arith, length, []}
use Rattle.al_tree.specs.declared.line.Line.{Line}
use Rattle.al_tree.proofs.Bisected.{lines-rise, found-at, found-none}
use Rattle.al_tree.proofs.line.line_of.Goals as goal

pub returns-then-above-eq0 : goal.returns-then-above-eq0
returns-then-above-eq0 c =
    sym (found-none (λ (line : Line). line.table) c.args.lines.now c.args.table c.place_for-above.result (record { table = 0; children = [] }) (lines-rise c.args.lines.now c.requires)
    c.place_for-above.ensures.within c.place_for-above.ensures.value (λ some same. absurd (let h = c.if-above-eq0.true in omega arith)))

pub returns-then-lines-at : goal.returns-then-lines-at
returns-then-lines-at c =
    let line : Line = c.index-lines-at.result in
    let within : c.place_for-above.result - 1 < length c.args.lines.now = let h = c.if-above-eq0.false in let w = c.place_for-above.ensures.within in omega arith in
    sym (found-at (λ (line : Line). line.table) c.args.lines.now c.args.table (c.place_for-above.result - 1) line (lines-rise c.args.lines.now c.requires) within c.if-lines-at.true)

pub returns-else-lines-at : goal.returns-else-lines-at
returns-else-lines-at c =
    let line : Line = c.index-lines-at.result in
    sym (found-none (λ (line : Line). line.table) c.args.lines.now c.args.table c.place_for-above.result line (lines-rise c.args.lines.now c.requires)
    c.place_for-above.ensures.within c.place_for-above.ensures.value (λ some same. c.if-lines-at.false same))
