use Rattle.std.proofs.Common.{rules}
use Rattle.al_app.proofs.CloseLemmas.{has_run_one}
use Rattle.al_app.proofs.SpecLemmas.{are_of_sessions}
use Rattle.al_app.proofs.runs.run_permutation.Goals as goal

pub open-requires : goal.open-requires
open-requires c = are_of_sessions _ _ c.requires.runnable

pub returns : goal.returns
returns c = has_run_one _ _ _ _ _ c.finish.new.engine _ _ (search rules) (search rules) (search rules) (search rules)
