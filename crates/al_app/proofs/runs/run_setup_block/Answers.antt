use Rattle.std.proofs.Common.{rules}
use Rattle.al_app.proofs.SpecLemmas.{session_known, of_session_at}
use Rattle.al_app.proofs.RunLemmas.{setup_goes_on, setup_skips}
use Rattle.al_app.proofs.runs.run_setup_block.Goals as goal

pub run_whole-requires-clause-known : goal.run_whole-requires-clause-known
run_whole-requires-clause-known c = session_known _ _ _ _ c.requires.runnable c.requires.there

pub run_whole-requires-clause-of_session : goal.run_whole-requires-clause-of_session
run_whole-requires-clause-of_session c = of_session_at _ _ _ _ c.requires.runnable c.requires.there

pub returns-clause-ran : goal.returns-clause-ran
returns-clause-ran c = setup_goes_on _ c.args.engine.now _ _ c.requires.there c.requires.so_far (search rules) c.run_whole.new.engine _ c.in_ok-failed.ensures

pub returns-then-not-is_setup-clause-ran : goal.returns-then-not-is_setup-clause-ran
returns-then-not-is_setup-clause-ran c = setup_skips _ c.args.engine.now _ _ c.requires.there c.requires.so_far (search rules)
