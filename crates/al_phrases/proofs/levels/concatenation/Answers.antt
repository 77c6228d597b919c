use Rattle.al_phrases.proofs.CanonicalLaws.{concatenation_read}
use Rattle.al_phrases.proofs.levels.concatenation.Goals as goal

pub returns-clause-canonical : goal.returns-clause-canonical
returns-clause-canonical c = concatenation_read _ _ _ c.concats.ensures.gives
