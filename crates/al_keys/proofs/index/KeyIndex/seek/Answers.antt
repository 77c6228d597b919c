use Rattle.std.proofs.Common.{ap, ◌∙◌}
use Rattle.al_keys.specs.Sought.{sought}
use Rattle.al_keys.proofs.SoughtLaws.{sought-found}
use Rattle.al_keys.proofs.index.KeyIndex.seek.Goals as goal

pub returns-clause-found : goal.returns-clause-found
returns-clause-found c =
    sought-found c.args.xacts.now.transactions c.args.x _ _ (c.seek_in.ensures ∙ ap (sought c.args.xacts.now.transactions c.args.x) c.versions_of.ensures)
