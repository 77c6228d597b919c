use Rattle.std.proofs.Common.{◌≡◌, ℕ, ◌<◌, length, refl, sym, ap, subst, ◌∙◌, List, None, Some, slice_get, get_or, true, false}
use Rattle.std.proofs.lemmas.Option.{slice_get_read}
use Rattle.al_xacts.specs.Fates.{fate_at, is_aborted}
use Rattle.al_heap.specs.declared.version.Stored.{Stored}
use Rattle.al_heap.specs.Versions.{is_of}
use Rattle.al_heap.proofs.Places.{left, sought-within, sought-found, sought-on, sought-none, left-falls, linked-at}
use Rattle.al_heap.proofs.walk.standing_from.Goals as goal

pub bounds-versions-place : goal.bounds-versions-place
bounds-versions-place c = sought-within c.args.xacts.now.transactions c.args.versions.now c.args.row c.loop-at.at c.in-Some.place c.loop-at.invariant c.in-Some.is

pub bounds-versions-place-in-Some : goal.bounds-versions-place-in-Some
bounds-versions-place-in-Some c = sought-within c.args.xacts.now.transactions c.args.versions.now c.args.row c.loop-at.at c.in-Some.place c.loop-at.invariant c.in-Some.is

pub returns-then-not-is_aborted : goal.returns-then-not-is_aborted
returns-then-not-is_aborted c =
    let vs = c.args.versions.now in
    let p = c.in-Some.place in
    let v : Stored = c.index-versions-place.result in
    let within : p < length vs = sought-within c.args.xacts.now.transactions vs c.args.row c.loop-at.at p c.loop-at.invariant c.in-Some.is in
    let got : slice_get vs p ≡ Some v = slice_get_read vs (length vs) p v refl within c.index-versions-place.is in
    let stands : is_aborted (fate_at c.args.xacts.now.transactions v.maker) ≡ false = sym (rw (← c.index-versions-place.is) at c.is_aborted.ensures) ∙ c.if-not-is_aborted.true in
    sought-found c.args.xacts.now.transactions vs c.args.row c.loop-at.at p v c.loop-at.invariant c.in-Some.is got stands

pub bounds-earlier-place : goal.bounds-earlier-place
bounds-earlier-place c =
    let vs = c.args.versions.now in
    let p = c.in-Some.place in
    let v : Stored = c.index-versions-place.result in
    let within : p < length vs = sought-within c.args.xacts.now.transactions vs c.args.row c.loop-at.at p c.loop-at.invariant c.in-Some.is in
    let got : slice_get vs p ≡ Some v = slice_get_read vs (length vs) p v refl within c.index-versions-place.is in
    (linked-at vs c.args.earlier.now p v c.requires.linked got).0

pub loop-at-smaller : goal.loop-at-smaller
loop-at-smaller c =
    let vs = c.args.versions.now in
    let p = c.in-Some.place in
    let v : Stored = c.index-versions-place.result in
    let within : p < length vs = sought-within c.args.xacts.now.transactions vs c.args.row c.loop-at.at p c.loop-at.invariant c.in-Some.is in
    let got : slice_get vs p ≡ Some v = slice_get_read vs (length vs) p v refl within c.index-versions-place.is in
    subst (λ (n : ℕ). left (get_or c.args.earlier.now p None) < n) (sym (ap left c.in-Some.is)) (left-falls (is_of v.row) vs p (get_or c.args.earlier.now p None) (linked-at vs c.args.earlier.now p v c.requires.linked got).1)

pub loop-at-preserved : goal.loop-at-preserved
loop-at-preserved c =
    let vs = c.args.versions.now in
    let p = c.in-Some.place in
    let v : Stored = c.index-versions-place.result in
    let within : p < length vs = sought-within c.args.xacts.now.transactions vs c.args.row c.loop-at.at p c.loop-at.invariant c.in-Some.is in
    let got : slice_get vs p ≡ Some v = slice_get_read vs (length vs) p v refl within c.index-versions-place.is in
    let gone : is_aborted (fate_at c.args.xacts.now.transactions v.maker) ≡ true = sym (rw (← c.index-versions-place.is) at c.is_aborted.ensures) ∙ c.if-not-is_aborted.false in
    sought-on c.args.xacts.now.transactions vs c.args.row c.loop-at.at p v (get_or c.args.earlier.now p None) c.loop-at.invariant c.in-Some.is got gone (linked-at vs c.args.earlier.now p v c.requires.linked got).1

pub returns : goal.returns
returns c = sought-none c.args.xacts.now.transactions c.args.versions.now c.args.row c.loop-at.at c.loop-at.invariant c.in_default.is
