use Rattle.std.proofs.Common.{◌≡◌, rules}
use Rattle.al_app.proofs.CloseLemmas.{teardowns_begin, teardowns_then, teardowns_end}
use Rattle.al_app.proofs.runs.run_teardowns.Goals as goal

pub loop-number-init : goal.loop-number-init
loop-number-init c = teardowns_begin _ c.args.which _ c.requires.rest c.requires.none_busy

pub loop-number-preserved : goal.loop-number-preserved
loop-number-preserved c =
    let same : c.in_ok-count_of.field-0 ≡ c.loop-number.number = search rules in
    teardowns_then _ _ _ _ _ _ _ c.loop-number.invariant (rw same at c.in_ok-run_teardown_block.ensures.ran)

pub returns : goal.returns
returns c = record { ran = teardowns_end _ c.args.which _ _ _ (search rules) c.loop-number.invariant }
