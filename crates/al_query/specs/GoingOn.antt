-- What may happen to a heap between two parts of a reading without a change in what the snapshot sees (the manual, 13.2.1 and 13.2.2).
use Rattle.std.specs.Prelude.{◌≡◌, List, [], ◌∷◌}
use Rattle.al_xacts.specs.declared.xact.Started.{Started}
use Rattle.al_xacts.specs.Snapshots.{Taken}
use Rattle.al_heap.specs.declared.version.Stored.{Stored}
use Rattle.al_heap.specs.Visible.{is_visible}

-- a version is for a snapshot what it was: of the same row, with the same values, and seen or not as before
pub record IsAsBefore (snapshot : Taken) (before after : List Started) (version later : Stored) : Type 0 where
  pub row : later.row ≡ version.row
  pub values : later.values ≡ version.values
  pub seen : is_visible snapshot after later ≡ is_visible snapshot before version

-- each version of a heap is at its place what it was, and others may follow
abbrev pub GoesOnFor : Taken → List Started → List Started → List Stored → List Stored → Type 0
GoesOnFor snapshot before after [] later = Unit {0}
GoesOnFor snapshot before after (version ∷ versions) [] = ⊥
GoesOnFor snapshot before after (version ∷ versions) (now ∷ later) =
    IsAsBefore snapshot before after version now × GoesOnFor snapshot before after versions later
