use Rattle.std.proofs.Common.{◌≡◌, fold, take, List, ℕ}
use Rattle.indexmap.specs.IndexMap.{get_by_text}
use Rattle.al_catalogue.specs.declared.entry.Kept.{Kept}
use Rattle.al_catalogue.specs.Changes.{ended}
use Rattle.al_catalogue.specs.Indexed.{AreExact, AreNamed, HasNoBare, at_place, named_in}
use Rattle.al_catalogue.proofs.changes.end_all.Given as goal

abbrev pub invariant-loop-at : goal.invariant-loop-at
invariant-loop-at l = record {
  tables : l.tables.items ≡ fold (λ (tables : List Kept) (at : ℕ). at_place (ended l.x l.fate) at tables) l.initial.tables.items (take l.at-index l.places);
  named : AreNamed l.tables.items (named_in l.names);
  exact : AreExact l.tables.items (named_in l.names);
  filled : HasNoBare (get_by_text l.names);
}
