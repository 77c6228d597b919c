-- Which lock modes of a table conflict (13.3.1, table 13.2).
use Rattle.std.specs.Prelude.{ℕ, List, [], ◌∷◌, Bool, false, ◌||◌, ◌==◌}
use Rattle.al_modes.specs.declared.mode.Mode.{Mode}
use Rattle.al_modes.specs.declared.mode.Mode.TheVariants.{AccessShare, RowShare, RowExclusive, ShareUpdateExclusive, Share, ShareRowExclusive, Exclusive, AccessExclusive}

-- the place of a mode in the manual's list of the modes, which goes from the weakest to the strictest
abbrev pub strictness : Mode → ℕ
strictness AccessShare = 1
strictness RowShare = 2
strictness RowExclusive = 3
strictness ShareUpdateExclusive = 4
strictness Share = 5
strictness ShareRowExclusive = 6
strictness Exclusive = 7
strictness AccessExclusive = 8

-- the modes that a mode conflicts with
abbrev pub conflicts_of : Mode → List Mode
conflicts_of AccessShare = AccessExclusive ∷ []
conflicts_of RowShare = Exclusive ∷ AccessExclusive ∷ []
conflicts_of RowExclusive = Share ∷ ShareRowExclusive ∷ Exclusive ∷ AccessExclusive ∷ []
conflicts_of ShareUpdateExclusive = ShareUpdateExclusive ∷ Share ∷ ShareRowExclusive ∷ Exclusive ∷ AccessExclusive ∷ []
conflicts_of Share = RowExclusive ∷ ShareUpdateExclusive ∷ ShareRowExclusive ∷ Exclusive ∷ AccessExclusive ∷ []
conflicts_of ShareRowExclusive =
    RowExclusive ∷ ShareUpdateExclusive ∷ Share ∷ ShareRowExclusive ∷ Exclusive ∷ AccessExclusive ∷ []
conflicts_of Exclusive =
    RowShare ∷ RowExclusive ∷ ShareUpdateExclusive ∷ Share ∷ ShareRowExclusive ∷ Exclusive ∷ AccessExclusive ∷ []
conflicts_of AccessExclusive =
    AccessShare ∷ RowShare ∷ RowExclusive ∷ ShareUpdateExclusive ∷ Share ∷ ShareRowExclusive ∷ Exclusive ∷ AccessExclusive ∷ []

-- whether a mode stands in a list
abbrev pub is_among : Mode → List Mode → Bool
is_among mode [] = false
is_among mode (other ∷ others) = (strictness mode == strictness other) || is_among mode others

-- whether two modes conflict
abbrev pub conflict : Mode → Mode → Bool
conflict a b = is_among b (conflicts_of a)
