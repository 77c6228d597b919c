use Rattle.std.proofs.Common.{◌≡◌, ◌<◌, ◌^◌, length, subst, sym, List, not, ℕ}
use Rattle.al_schema.specs.declared.constraint.Constraint.{Constraint}
use Rattle.al_schema.specs.Slots.{as_dropped}
use Rattle.al_schema.specs.Constraints.{apart_from, involves}
use Rattle.al_schema.proofs.Lists.{slot-within, slot-changed, both-made, filter-shorter}
use Rattle.al_schema.proofs.shape.Shape.drop_column.Goals as goal

pub of-requires-clause-constraints : goal.of-requires-clause-constraints
of-requires-clause-constraints c =
    subst (λ (cs : List Constraint). length cs < 2 ^ 32) (sym c.keep_apart.ensures)
    (filter-shorter (λ (constraint : Constraint). not (involves c.args.slot c.index.result.now.name constraint)) _ _ c.self.invariant.2)

pub returns : goal.returns
returns c =
    let within : c.args.slot < length c.self.inside.slots.items = slot-within _ c.self.inside.constraints.items _ _ c.self.view_is c.requires in
    both-made c.of.result c.self.inside.slots.items _ _ _ c.args.slot as_dropped (apart_from c.args.slot) c.index.result.now _ c.self.view_is within c.index.ensures
    (slot-changed c.self.inside.slots.items c.args.slot c.index_mut.result.now as_dropped within c.index_mut.ensures.value) c.keep_apart.ensures c.of.ensures
