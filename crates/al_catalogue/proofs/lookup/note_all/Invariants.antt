use Rattle.std.proofs.Common.{◌≡◌, ℕ, ◌||◌, drop}
use Rattle.al_tree.specs.Links.{has_link}
use Rattle.al_catalogue.specs.Tables.{is_parent}
use Rattle.al_catalogue.proofs.lookup.note_all.Given as goal

abbrev pub invariant-loop-kept : goal.invariant-loop-kept
invariant-loop-kept l =
    (c p : ℕ) → (has_link l.tree c p || is_parent (drop l.kept-index l.tables) l.x c p) ≡ (has_link l.initial.tree c p || is_parent l.tables l.x c p)
