use Rattle.std.proofs.Common.{rules, not, ◌==◌}
use Rattle.al_queue.specs.declared.grant.Grant.{Grant}
use Rattle.al_queue.proofs.Kept.{filter-from_retain}
use Rattle.al_queue.proofs.walk.keep_others.Goals as goal

pub returns-clause-items : goal.returns-clause-items
returns-clause-items c =
    filter-from_retain _ (λ (grant : Grant). not (grant.session == c.args.session)) _ (λ x b g h. search rules) _ _ c.retain.ensures.filtered
