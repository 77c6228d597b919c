use Rattle.std.proofs.Common.{ap, ◌∙◌}
use Rattle.al_keys.specs.Sought.{least_row, is_visible, IsGiven}
use Rattle.al_keys.proofs.SoughtLaws.{given-least}
use Rattle.al_keys.proofs.index.KeyIndex.gives.Goals as goal

pub returns-clause-least : goal.returns-clause-least
returns-clause-least c =
    given-least c.args.snapshot.now c.args.xacts.now.transactions _ _ (c.least_visible.ensures ∙ ap (least_row (is_visible c.args.snapshot.now c.args.xacts.now.transactions)) c.versions_of.ensures)
