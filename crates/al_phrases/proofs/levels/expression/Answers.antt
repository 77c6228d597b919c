use Rattle.al_phrases.proofs.CanonicalLaws.{expression_read}
use Rattle.al_phrases.proofs.levels.expression.Goals as goal

pub returns-clause-canonical : goal.returns-clause-canonical
returns-clause-canonical c = expression_read _ _ _ c.ors.ensures.gives
