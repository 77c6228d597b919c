use Rattle.std.proofs.Common.{◌≡◌, ◌≤◌, ◌/◌, ◌+◌, length, take, drop, ◌-◌, true, subst, sym, ◌∙◌, arith}
use Rattle.al_lexemes.specs.Words.{ascending, kind_in, rows_of}
use Rattle.al_lexemes.proofs.Tables.{below_place, above_place, half_below, fewer_front, fewer_back, rest_all}
use Rattle.al_lexemes.proofs.words.kind_in.Goals as goal

pub loop-word-preserved-in-Less : goal.loop-word-preserved-in-Less
loop-word-preserved-in-Less c =
    let rows = c.loop-word.rows.now in
    let r = below_place _ rows (length rows / 2) c.args.other c.args.word.now (half_below (length rows) c.loop-word-test.ensures) c.loop-word.invariant.rise (sym c.cmp.ensures ∙ c.in-Less.is) in
    record { rise = r.1; same = r.0 ∙ c.loop-word.invariant.same; fewer = omega (arith, fewer_front (length rows / 2) rows, c.loop-word.invariant.fewer) }

pub loop-word-preserved : goal.loop-word-preserved
loop-word-preserved c =
    let rows = c.loop-word.rows.now in
    let r = above_place _ rows (length rows / 2) c.args.other c.args.word.now (half_below (length rows) c.loop-word-test.ensures) c.loop-word.invariant.rise (sym c.cmp.ensures ∙ c.in-Greater.is) in
    let behind = drop (length rows / 2 + 1) rows in
    let all : take (length rows - (length rows / 2 + 1)) behind ≡ behind = rest_all (length rows / 2 + 1) rows in
    subst (λ l. record { rise : ascending (rows_of l) ≡ true; same : kind_in (rows_of l) c.args.other c.args.word.now ≡ kind_in (rows_of c.args.table.now) c.args.other c.args.word.now; fewer : length l ≤ length c.args.table.now }) (sym all)
    (record { rise = r.1; same = r.0 ∙ c.loop-word.invariant.same; fewer = omega (arith, fewer_back (length rows / 2 + 1) rows, c.loop-word.invariant.fewer) })
