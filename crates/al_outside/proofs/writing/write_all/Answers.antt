use Rattle.std.proofs.Common.{rules}
use Rattle.std.proofs.lemmas.List.{take_rest}
use Rattle.al_outside.proofs.Growing.{Grows-more}
use Rattle.al_outside.proofs.writing.write_all.Goals as goal

pub writes-preserved : goal.writes-preserved
writes-preserved g c = record {
  within = search rules;
  grown = Grows-more _ _ _ _ _ _ c.writes.invariant.grown (rw take_rest at c.in_ok-at.ensures.bytes);
  still = search rules;
}
