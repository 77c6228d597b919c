use Rattle.al_spec.proofs.Readers.{skim_name}
use Rattle.al_spec.proofs.parse.name.Goals as goal

pub returns : goal.returns
returns c = rw (skim_name c.args.tokens.now) c.take.ensures
