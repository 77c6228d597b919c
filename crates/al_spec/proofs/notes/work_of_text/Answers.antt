use Rattle.std.proofs.Common.{◌≡◌, ◌+◌, take, get_or, ap, ◌∙◌, arith}
use Rattle.std.specs.Prelude.{◌==◌, if◌then◌else◌}
use Rattle.std.proofs.lemmas.List.{take_more}
use Rattle.al_spec.specs.Notes.{semicolons}
use Rattle.al_spec.proofs.Works.{semicolons_more, one_if, none_if}
use Rattle.al_spec.proofs.notes.work_of_text.Goals as goal
use Rattle.al_spec.proofs.notes.work_of_text.Goals.{then-byte-eq59, else-byte-eq59}

pub loop-byte-preserved : goal.loop-byte-preserved
loop-byte-preserved c =
    let xs = c.args.text.now in
    let i = c.loop-byte.byte-index in
    let more : semicolons (take (i + 1) xs) ≡ semicolons (take i xs) + (if get_or xs i 0 == 59 then 1 else 0) = ap semicolons (take_more xs i 0 c.loop-byte-test.true) ∙ semicolons_more (take i xs) (get_or xs i 0) in
    elim c.if-byte-eq59.branch [
      | then-byte-eq59 w ↦ let e = one_if (get_or xs i 0) w.if-byte-eq59.true in record { work = omega (arith, more, e, c.loop-byte.invariant.work, w.work-is); bound = omega (arith, c.loop-byte.invariant.bound, w.work-is) }
      | else-byte-eq59 w ↦ let e = none_if (get_or xs i 0) w.if-byte-eq59.false in record { work = omega (arith, more, e, c.loop-byte.invariant.work, w.work-is); bound = omega (arith, c.loop-byte.invariant.bound, w.work-is) }
    ]
