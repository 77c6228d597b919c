use Rattle.std.proofs.Common.{◌≡◌, ℕ, ◌||◌, ◌&&◌, take}
use Rattle.std.specs.Prelude.{◌==◌}
use Rattle.std.specs.List.{list_any}
use Rattle.al_tree.specs.Links.{has_link}
use Rattle.al_catalogue.proofs.lookup.note_parents.Given as goal

abbrev pub invariant-loop-parent : goal.invariant-loop-parent
invariant-loop-parent l =
    (c p : ℕ) → has_link l.tree c p ≡ (has_link l.initial.tree c p || ((l.child == c) && list_any (λ other. other == p) (take l.parent-index l.parents)))
