use Rattle.std.proofs.Common.{ℕ, rules, not, ◌==◌}
use Rattle.al_xacts.proofs.Retained.{filter-from_retain}
use Rattle.al_xacts.proofs.lists.keep_others.Goals as goal

pub returns : goal.returns
returns c =
    filter-from_retain _ (λ (other : ℕ). not (other == c.args.x)) _ (λ x b g h. search rules) _ _ c.retain.ensures.filtered
