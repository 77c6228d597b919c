use Rattle.std.proofs.Common.{rules, not}
use Rattle.al_schema.specs.declared.constraint.Constraint.{Constraint}
use Rattle.al_schema.specs.Constraints.{involves}
use Rattle.al_schema.proofs.Lists.{filter-from_retain}
use Rattle.al_schema.proofs.shape.keep_apart.Goals as goal

pub returns : goal.returns
returns c = filter-from_retain _ (λ (constraint : Constraint). not (involves c.args.slot c.args.name.now constraint)) _ (λ x b g h. search rules) _ _ c.retain.ensures.filtered
