use Rattle.std.proofs.Common.{◌≡◌, ◌∷◌, [], ◌++◌, true, arith, sym, ◌∙◌, subst, slice_set}
use Rattle.std.specs.List.{list_any}
use Rattle.al_xacts.specs.Fates.{is_open_at}
use Rattle.al_xacts.specs.Kept.{Kept, marks_on, MarkCounts}
use Rattle.al_xacts.specs.Marks.{covers}
use Rattle.al_xacts.specs.declared.xact.Mark.{Mark}
use Rattle.al_xacts.proofs.KeptLaws.{kept-noted, kept-marked, rows-read, rows-set_has, open-below, covered-marked, mark-counts}
use Rattle.al_xacts.proofs.xacts.Xacts.mark.Goals as goal

pub invariant_of-self-in_err-add_mark : goal.invariant_of-self-in_err-add_mark
invariant_of-self-in_err-add_mark c =
    let i = c.self.inside in
    let undecided : is_open_at i.transactions.items c.args.x ≡ true = subst (λ (k : Kept). is_open_at k.transactions c.args.x ≡ true) (sym c.self.view_is) c.requires in
    let got = rows-read i.transactions.items i.open_ones.items i.rows.items i.marks.entries c.args.x c.index_mut.result.now c.self.invariant undecided (rw (← c.number-3.ensures) c.index_mut.ensures.value) in
    rw (c.in_err-add_mark.ensures.err, c.in_ok-push.ensures.ok, c.number-3.ensures) (kept-noted i.transactions.items i.open_ones.items i.rows.items i.marks.entries c.args.x c.args.row c.index_mut.result.now got c.self.invariant)

pub invariant_of-self-2 : goal.invariant_of-self-2
invariant_of-self-2 c =
    let i = c.self.inside in
    let undecided : is_open_at i.transactions.items c.args.x ≡ true = subst (λ (k : Kept). is_open_at k.transactions c.args.x ≡ true) (sym c.self.view_is) c.requires in
    let got = rows-read i.transactions.items i.open_ones.items i.rows.items i.marks.entries c.args.x c.index_mut.result.now c.self.invariant undecided (rw (← c.number-3.ensures) c.index_mut.ensures.value) in
    let new : Mark = record { xact = c.args.x; mode = c.args.mode } in
    let noted = kept-noted i.transactions.items i.open_ones.items i.rows.items i.marks.entries c.args.x c.args.row c.index_mut.result.now got c.self.invariant in
    let there = rows-set_has c.args.row i.rows.items c.args.x c.index_mut.result.now got in
    rw (c.in_ok-push.ensures.ok, c.number-3.ensures)
    (kept-marked i.transactions.items i.open_ones.items (slice_set i.rows.items c.args.x (c.index_mut.result.now ++ c.args.row ∷ [])) i.marks.entries c.add_mark.new.marks.entries c.args.row new undecided there (rw c.number-2.ensures at c.in_ok-add_mark.ensures.ok) noted)

pub index_mut-requires : goal.index_mut-requires
index_mut-requires c =
    let i = c.self.inside in
    let undecided : is_open_at i.transactions.items c.args.x ≡ true = subst (λ (k : Kept). is_open_at k.transactions c.args.x ≡ true) (sym c.self.view_is) c.requires in
    omega (arith, open-below i.transactions.items c.args.x undecided, c.number-3.ensures, c.self.invariant.each)

pub returns-then-is_covered-clause-counts : goal.returns-then-is_covered-clause-counts
returns-then-is_covered-clause-counts c = λ e.
    let i = c.self.inside in
    let kept : Kept = record { sessions = i.sessions; transactions = i.transactions.items; marks = i.marks.entries } in
    let mark : Mark = record { xact = c.args.x; mode = c.args.mode } in
    let covered : list_any (covers mark) (marks_on kept c.args.row) ≡ true = sym (rw c.number-2.ensures at c.is_covered.ensures) ∙ c.if-is_covered.true in
    subst (λ (k : Kept). MarkCounts k k c.args.row mark) c.self.view_is (mark-counts kept kept c.args.row mark (covered-marked kept c.args.row mark covered))
