use Rattle.std.proofs.Common.{sym, ◌∙◌, nat_lt}
use Rattle.al_queue.specs.declared.grant.Grant.{Grant}
use Rattle.al_queue.proofs.Kept.{none-at_length}
use Rattle.al_queue.proofs.walk.place_for.Goals as goal

pub returns-in-None-clause-value : goal.returns-in-None-clause-value
returns-in-None-clause-value c =
    sym (none-at_length (λ (other : Grant). nat_lt c.args.table other.table) c.args.grants.now (sym c.position_above.ensures ∙ c.in-None.is))
