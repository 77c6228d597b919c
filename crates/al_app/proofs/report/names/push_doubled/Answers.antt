use Rattle.std.proofs.Common.{rules, ◌≡◌, ◌<◌, ◌++◌, ap, ◌∙◌, arith, length, get_or, string_bytes}
use Rattle.std.proofs.lemmas.Str.{IsCharBoundary-start, IsCharBoundary-after_ascii}
use Rattle.al_app.proofs.ReportLemmas.{plain_byte, quote_byte}
use Rattle.al_app.proofs.report.names.push_doubled.Goals as goal
use Rattle.al_app.proofs.report.names.push_doubled.Goals.{then-bytes-place-eq34+in_ok-push_str+in_ok-push_str-2, else-bytes-place-eq34}

pub loop-place-init : goal.loop-place-init
loop-place-init c = record {
  within = omega arith;
  boundary = IsCharBoundary-start c.args.name.now c.utf8.name;
  text = search rules;
}

pub range-requires-clause-end_boundary : goal.range-requires-clause-end_boundary
range-requires-clause-end_boundary c =
    let name = c.args.name.now in
    let place = c.loop-place.place in
    let quote : get_or name place 0 ≡ 34 = rw c.as_bytes-bytes.ensures.value at c.if-bytes-place-eq34.true in
    let inside : place < length name = rw c.as_bytes-bytes.ensures.value at c.loop-place-test.true in
    IsCharBoundary-after_ascii name place c.utf8.name inside (omega arith)

pub loop-place-preserved : goal.loop-place-preserved
loop-place-preserved c =
    let name = c.args.name.now in
    let place = c.loop-place.place in
    let from = c.loop-place.from in
    let inside : place < length name = rw c.as_bytes-bytes.ensures.value at c.loop-place-test.true in
    elim c.if-bytes-place-eq34.branch [
      | then-bytes-place-eq34+in_ok-push_str+in_ok-push_str-2 w ↦
          let quote : get_or name place 0 ≡ 34 = rw c.as_bytes-bytes.ensures.value at w.if-bytes-place-eq34.true in
          rw (w.from-is, w.text-is) (record {
            within = omega arith;
            boundary = IsCharBoundary-after_ascii name place c.utf8.name inside (omega arith);
            text = quote_byte _ _ _ _ name from place c.loop-place.invariant.within inside quote c.loop-place.invariant.text
                (w.in_ok-push_str.ensures.bytes ∙ ap (λ t. string_bytes c.loop-place.text ++ t) w.range.ensures.value)
                w.in_ok-push_str-2.ensures.bytes;
          })
      | else-bytes-place-eq34 w ↦
          let plain : get_or name place 0 ≡ 34 → ⊥ = rw c.as_bytes-bytes.ensures.value at w.if-bytes-place-eq34.false in
          rw (w.from-is, w.text-is) (record {
            within = omega arith;
            boundary = c.loop-place.invariant.boundary;
            text = plain_byte _ _ name from place c.loop-place.invariant.within inside plain c.loop-place.invariant.text;
          })
    ]
