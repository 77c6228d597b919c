use Rattle.al_engine.specs.Kept.{parts_of}
use Rattle.al_engine.proofs.Amid.{amid_begins}
use Rattle.al_engine.proofs.BlockLemmas.{failed_refused}
use Rattle.al_engine.proofs.turns.go_on_in_block.Goals as goal

pub refuse-requires-clause-amid : goal.refuse-requires-clause-amid
refuse-requires-clause-amid g c = amid_begins _ _ _ c.requires.kept

pub refuse-requires-clause-refused : goal.refuse-requires-clause-refused
refuse-requires-clause-refused g c = failed_refused _ (parts_of c.args.machine.now) _ _ _ _ c.requires.kept c.requires.state c.requires.goes c.requires.statement c.requires.goes_on c.in-Failed.is
