use Rattle.al_engine.proofs.Amid.{amid_begins}
use Rattle.al_engine.proofs.statements.unknown.Goals as goal

pub refuse-requires-clause-amid : goal.refuse-requires-clause-amid
refuse-requires-clause-amid c = amid_begins _ _ _ c.requires.kept
