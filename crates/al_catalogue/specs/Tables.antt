-- The tables that a transaction finds: by what is committed, and by its own changes (13.2).
use Rattle.std.specs.Prelude.{ℕ, List, [], ◌∷◌, Bool, false, ◌==◌, ◌&&◌, ◌||◌, if◌then◌else◌, Option, Some, None}
use Rattle.std.specs.List.{list_any}
use Rattle.al_catalogue.specs.declared.entry.TableEntry.{TableEntry}
use Rattle.al_catalogue.specs.declared.entry.Own.{Own}
use Rattle.al_catalogue.specs.declared.entry.Kept.{Kept}

-- a transaction's own change, where there is one, else what is committed
abbrev pub own_or : ℕ → Option Own → Option TableEntry → Option TableEntry
own_or x None committed = committed
own_or x (Some own) committed = if own.xact == x then own.entry else committed

-- a table as a transaction finds it
abbrev pub seen : ℕ → Kept → Option TableEntry
seen x kept = own_or x kept.own kept.committed

-- the table of a number
abbrev pub entry_of : List Kept → ℕ → ℕ → Option TableEntry
entry_of [] table x = None
entry_of (kept ∷ tables) table x = if kept.number == table then seen x kept else entry_of tables table x

-- whether a table is there and inherits from another
abbrev pub has_parent : ℕ → Option TableEntry → Bool
has_parent parent None = false
has_parent parent (Some entry) = list_any (λ other. other == parent) entry.parents

-- whether a table inherits from another, by what a transaction finds
abbrev pub is_parent : List Kept → ℕ → ℕ → ℕ → Bool
is_parent [] x child parent = false
is_parent (kept ∷ tables) x child parent =
    ((kept.number == child) && has_parent parent (seen x kept)) || is_parent tables x child parent
