use Rattle.std.proofs.Common.{◌≡◌, true, false, ◌∙◌, arith}
use Rattle.std.proofs.lemmas.Str.{IsCharBoundary-after_ascii}
use Rattle.al_spec.specs.Bytes.{at, is_cut}
use Rattle.al_spec.proofs.Slices.{front_goes, front_stays, small_cut}
use Rattle.al_spec.proofs.bytes.cut_from.Goals as goal

pub loop-from-preserved : goal.loop-from-preserved
loop-from-preserved c =
    let is : is_cut (at c.args.text.now c.loop-from.from) ≡ true = cc in
    record {
      rises = omega arith;
      cut = c.loop-from.invariant.cut ∙ front_goes c.args.text.now c.loop-from.from c.args.close c.loop-from-test.true (omega arith) is;
      boundary = IsCharBoundary-after_ascii _ _ c.utf8.text (omega arith) (small_cut _ is);
    }

pub returns-else-is_cut-clause-cut : goal.returns-else-is_cut-clause-cut
returns-else-is_cut-clause-cut c =
    let is : is_cut (at c.args.text.now c.loop-from.from) ≡ false = cc in
    c.loop-from.invariant.cut ∙ front_stays c.args.text.now c.loop-from.from c.args.close c.loop-from-test.true (omega arith) is
