use Rattle.std.proofs.Common.{rules}
use Rattle.al_app.proofs.SpecLemmas.{session_known, of_session_at}
use Rattle.al_app.proofs.CloseLemmas.{teardown_ran, teardown_skips}
use Rattle.al_app.proofs.runs.run_teardown_block.Goals as goal

pub run_whole-requires-clause-known : goal.run_whole-requires-clause-known
run_whole-requires-clause-known c = session_known _ _ _ _ c.requires.runnable c.requires.there

pub run_whole-requires-clause-of_session : goal.run_whole-requires-clause-of_session
run_whole-requires-clause-of_session c = of_session_at _ _ _ _ c.requires.runnable c.requires.there

pub returns-in_ok-run_whole : goal.returns-in_ok-run_whole
returns-in_ok-run_whole c = record { ran = teardown_ran c.args.spec.now c.args.which c.args.engine.now _ _ c.requires.there (search rules) c.run_whole.new.engine _ c.in_ok-run_whole.ensures }

pub returns-else-is_of : goal.returns-else-is_of
returns-else-is_of c = record { ran = teardown_skips c.args.spec.now c.args.which c.args.engine.now _ _ c.requires.there (search rules) c.requires.rest c.requires.none_busy }
