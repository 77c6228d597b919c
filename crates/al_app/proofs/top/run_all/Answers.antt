use Rattle.std.proofs.Common.{rules, refl, ◌∙◌}
use Rattle.std.proofs.lemmas.Option.{slice_get_read}
use Rattle.al_app.proofs.TopLemmas.{runs_go_on}
use Rattle.al_app.proofs.top.run_all.Goals as goal

pub loop-place-preserved : goal.loop-place-preserved
loop-place-preserved c = record {
  so_far = runs_go_on c.args.spec.now c.args.scripts c.loop-place.scripts _ c.loop-place.place _ _ _ _ _ c.loop-place.invariant.same (rw c.as_slice.ensures (slice_get_read c.args.spec.now.permutations _ c.loop-place.place c.steps-item.result refl (search rules) (search rules))) (search rules) c.in_ok-push.ensures.ok c.loop-place.invariant.so_far c.in_ok-run.ensures;
  same = c.in_ok-run.ensures.same ∙ c.loop-place.invariant.same;
}
