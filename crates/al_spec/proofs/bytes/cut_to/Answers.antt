use Rattle.std.proofs.Common.{◌≡◌, ◌-◌, true, false, ◌∙◌, arith}
use Rattle.al_spec.specs.Bytes.{at, is_cut}
use Rattle.al_spec.proofs.Slices.{back_goes, back_stays, small_cut}
use Rattle.al_spec.proofs.bytes.cut_to.Goals as goal

pub loop-to-preserved : goal.loop-to-preserved
loop-to-preserved c =
    let is : is_cut (at c.args.text.now (c.loop-to.to - 1)) ≡ true = cc in
    record {
      from = omega arith;
      to = omega arith;
      cut = c.loop-to.invariant.cut ∙ back_goes c.args.text.now c.args.from c.loop-to.to c.loop-to-test.true (omega arith) is;
      small = small_cut _ is;
    }

pub returns-else-is_cut-clause-cut : goal.returns-else-is_cut-clause-cut
returns-else-is_cut-clause-cut c =
    let is : is_cut (at c.args.text.now (c.loop-to.to - 1)) ≡ false = cc in
    c.loop-to.invariant.cut ∙ back_stays c.args.text.now c.args.from c.loop-to.to c.loop-to-test.true (omega arith) is
