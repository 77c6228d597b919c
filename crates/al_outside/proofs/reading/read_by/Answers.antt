use Rattle.std.proofs.Common.{rules, arith, length-append, length-take}
use Rattle.std.proofs.KnownBytes.{Consumes-trans}
use Rattle.al_outside.proofs.reading.read_by.Goals as goal

pub returns-then-count-limit-clause-cause : goal.returns-then-count-limit-clause-cause
returns-then-count-limit-clause-cause g c =
    ((_, Consumes-trans _ _ _ _ _ c.reads.invariant.consumed c.in_ok-count.ensures.bytes.0, simp (length-append, length-take) (omega (arith, c.reads.text.ok, c.in_ok-count.ensures.bound, c.len.ensures))), (search rules))

pub returns-then-count-limit-clause-up_to : goal.returns-then-count-limit-clause-up_to
returns-then-count-limit-clause-up_to g c =
    (_, Consumes-trans _ _ _ _ _ c.reads.invariant.consumed c.in_ok-count.ensures.bytes.0, simp (length-append, length-take) (omega (arith, c.reads.text.ok, c.reads.invariant.within, c.in_ok-count.ensures.bound, c.reads.auto.buffer, c.read.auto.into, c.requires.small)))

pub returns-in_err-extend_from_slice-clause-up_to : goal.returns-in_err-extend_from_slice-clause-up_to
returns-in_err-extend_from_slice-clause-up_to g c =
    (_, Consumes-trans _ _ _ _ _ c.reads.invariant.consumed c.in_ok-count.ensures.bytes.0, simp (length-append, length-take) (omega (arith, c.reads.text.ok, c.reads.invariant.within, c.in_ok-count.ensures.bound, c.reads.auto.buffer, c.read.auto.into, c.requires.small)))
