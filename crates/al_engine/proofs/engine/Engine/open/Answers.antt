use Rattle.std.proofs.Common.{rules, refl}
use Rattle.al_engine.proofs.EngineLemmas.{open_keeps}
use Rattle.al_engine.proofs.engine.Engine.open.Goals as goal

pub invariant_of-result : goal.invariant_of-result
invariant_of-result c = open_keeps _ _ (search rules) (search rules) (search rules) (search rules) (search rules) (search rules) refl
