use Rattle.std.proofs.Common.{◌<◌, ◌-◌, sym, arith, length, ℕ}
use Rattle.al_tree.proofs.Bisected.{numbers-rise, found-at, found-none}
use Rattle.al_tree.proofs.line.place_of.Goals as goal

pub returns-then-above-eq0 : goal.returns-then-above-eq0
returns-then-above-eq0 c =
    sym (found-none (λ (n : ℕ). n) c.args.numbers.now c.args.number c.number_place-above.result 0 (numbers-rise c.args.numbers.now c.requires)
    c.number_place-above.ensures.within c.number_place-above.ensures.value (λ some same. absurd (let h = c.if-above-eq0.true in omega arith)))

pub returns-then-numbers-at : goal.returns-then-numbers-at
returns-then-numbers-at c =
    let within : c.number_place-above.result - 1 < length c.args.numbers.now = let h = c.if-above-eq0.false in let w = c.number_place-above.ensures.within in omega arith in
    sym (found-at (λ (n : ℕ). n) c.args.numbers.now c.args.number (c.number_place-above.result - 1) 0 (numbers-rise c.args.numbers.now c.requires) within c.if-numbers-at.true)

pub returns-else-numbers-at : goal.returns-else-numbers-at
returns-else-numbers-at c =
    sym (found-none (λ (n : ℕ). n) c.args.numbers.now c.args.number c.number_place-above.result 0 (numbers-rise c.args.numbers.now c.requires)
    c.number_place-above.ensures.within c.number_place-above.ensures.value (λ some same. c.if-numbers-at.false same))
