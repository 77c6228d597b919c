use Rattle.std.proofs.Common.{◌∙◌, slice_index_or, arith, rules}
use Rattle.std.proofs.lemmas.Option.{slice_get-get_or}
use Rattle.al_app.proofs.SpecLemmas.{block_known, session_known, of_session_at}
use Rattle.al_app.proofs.RunLemmas.{steps_begin, steps_stop, steps_go_on, steps_end}
use Rattle.al_app.proofs.runs.run_steps.Goals as goal

pub loop-step-init : goal.loop-step-init
loop-step-init c = record { so_far = steps_begin _ _ _ c.requires.set_up; terms = search rules }

pub is_busy-requires : goal.is_busy-requires
is_busy-requires c = record { known = session_known c.args.spec.now c.loop-step.engine.terms.scripts (slice_index_or c.args.steps.now c.loop-step.step-index 0) c.unwrap.result.now (rw c.loop-step.invariant.terms c.requires.runnable) (search rules) }

pub run_block-requires-clause-known : goal.run_block-requires-clause-known
run_block-requires-clause-known c = session_known c.args.spec.now c.loop-step.engine.terms.scripts (slice_index_or c.args.steps.now c.loop-step.step-index 0) c.unwrap.result.now (rw c.loop-step.invariant.terms c.requires.runnable) (search rules)

pub run_block-requires-clause-of_session : goal.run_block-requires-clause-of_session
run_block-requires-clause-of_session c = of_session_at c.args.spec.now c.loop-step.engine.terms.scripts _ c.unwrap.result.now (rw c.loop-step.invariant.terms c.requires.runnable) (search rules)

pub returns-then-is_busy-clause-ran : goal.returns-then-is_busy-clause-ran
returns-then-is_busy-clause-ran c = steps_stop _ _ _ _ c.loop-step.invariant.so_far (slice_index_or c.args.steps.now c.loop-step.step-index 0) c.unwrap.result.now (slice_get-get_or c.args.steps.now c.loop-step.step-index 0 (omega arith)) (search rules) (search rules)

pub loop-step-preserved : goal.loop-step-preserved
loop-step-preserved c =
    let did = c.in_ok-run_block.ensures in
    let known = block_known c.args.spec.now (slice_index_or c.args.steps.now c.loop-step.step-index 0) c.unwrap.result.now c.requires.runnable.sound (search rules) in
    record {
      so_far = steps_go_on _ _ c.loop-step.engine _ c.loop-step.invariant.so_far _ c.unwrap.result.now (slice_get-get_or c.args.steps.now c.loop-step.step-index 0 (omega arith)) (search rules) _ _ c.requires.are_steps known did;
      terms = did.driven.terms ∙ c.loop-step.invariant.terms;
    }

pub returns-clause-ran : goal.returns-clause-ran
returns-clause-ran c = steps_end _ _ _ _ c.loop-step.invariant.so_far (omega arith)
