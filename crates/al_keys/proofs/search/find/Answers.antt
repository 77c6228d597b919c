use Rattle.std.proofs.Common.{◌≡◌, ℕ, ◌+◌, ◌-◌, ◌/◌, ◌<◌, length, refl, sym, ap, subst, ◌∙◌, arith, List, Some, slice_get}
use Rattle.std.proofs.lemmas.Option.{slice_get_read}
use Rattle.std.specs.declared.cmp.Ordering.TheVariants.{Less, Equal, Greater}
use Rattle.al_values.specs.declared.scalar.Value.{Value}
use Rattle.al_keys.specs.declared.entry.Entry.{Entry}
use Rattle.al_keys.specs.Order.{key_order}
use Rattle.al_keys.proofs.Bisection.{between-less, between-greater, stands-at}
use Rattle.al_keys.proofs.search.find.Goals as goal

pub loop-low-preserved-in-Less : goal.loop-low-preserved-in-Less
loop-low-preserved-in-Less c =
    let es = c.args.entries.now in
    let m = c.loop-low.low + (c.loop-low.high - c.loop-low.low) / 2 in
    let e : Entry = c.index-entries-middle.result in
    let below : m < c.loop-low.high = omega arith in
    let got : slice_get es m ≡ Some e = slice_get_read es (length es) m e refl (omega (arith, c.loop-low.invariant.within)) c.index-entries-middle.is in
    let key : c.as_slice.result.now ≡ e.key = c.as_slice.ensures ∙ ap (λ (x : Entry). x.key) (sym c.index-entries-middle.is) in
    let order : key_order e.key c.args.key.now ≡ Less = subst (λ (k : List Value). key_order k c.args.key.now ≡ Less) key (sym c.key_order.ensures ∙ c.in-Less.is) in
    between-less es c.args.key.now c.loop-low.low c.loop-low.high m e c.requires c.loop-low.invariant below got order

pub loop-low-preserved : goal.loop-low-preserved
loop-low-preserved c =
    let es = c.args.entries.now in
    let m = c.loop-low.low + (c.loop-low.high - c.loop-low.low) / 2 in
    let e : Entry = c.index-entries-middle.result in
    let below : m < c.loop-low.high = omega arith in
    let got : slice_get es m ≡ Some e = slice_get_read es (length es) m e refl (omega (arith, c.loop-low.invariant.within)) c.index-entries-middle.is in
    let key : c.as_slice.result.now ≡ e.key = c.as_slice.ensures ∙ ap (λ (x : Entry). x.key) (sym c.index-entries-middle.is) in
    let order : key_order e.key c.args.key.now ≡ Greater = subst (λ (k : List Value). key_order k c.args.key.now ≡ Greater) key (sym c.key_order.ensures ∙ c.in-Greater.is) in
    between-greater es c.args.key.now c.loop-low.low c.loop-low.high m e c.requires c.loop-low.invariant (omega arith) below got order

pub returns-in-Equal : goal.returns-in-Equal
returns-in-Equal c =
    let es = c.args.entries.now in
    let m = c.loop-low.low + (c.loop-low.high - c.loop-low.low) / 2 in
    let e : Entry = c.index-entries-middle.result in
    let below : m < c.loop-low.high = omega arith in
    let got : slice_get es m ≡ Some e = slice_get_read es (length es) m e refl (omega (arith, c.loop-low.invariant.within)) c.index-entries-middle.is in
    let key : c.as_slice.result.now ≡ e.key = c.as_slice.ensures ∙ ap (λ (x : Entry). x.key) (sym c.index-entries-middle.is) in
    let order : key_order e.key c.args.key.now ≡ Equal = subst (λ (k : List Value). key_order k c.args.key.now ≡ Equal) key (sym c.key_order.ensures ∙ c.in-Equal.is) in
    stands-at es c.args.key.now m e c.requires got order
