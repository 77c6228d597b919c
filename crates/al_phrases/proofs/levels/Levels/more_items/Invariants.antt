use Rattle.std.proofs.Common.{◌≡◌, ◌≤◌, ◌∷◌, [], length}
use Rattle.al_phrases.specs.Reading.{items_from}
use Rattle.al_phrases.proofs.levels.Levels.more_items.Given as goal

abbrev pub invariant-items : goal.invariant-items
invariant-items g l = record {
  read : items_from l.self.depth (l.fn.first ∷ []) l.fn.tokens ≡ items_from l.self.depth l.all l.rest;
  shorter : length l.rest ≤ length l.fn.tokens;
}

abbrev pub decreases-items : goal.decreases-items
decreases-items g l = length l.rest
