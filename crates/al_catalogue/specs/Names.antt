-- The names of tables, and who stands in the way of one.
use Rattle.std.specs.Prelude.{ℕ, List, [], ◌∷◌, Bool, false, not, ◌==◌, ◌&&◌, ◌||◌, if◌then◌else◌, Option, Some, None}
use Rattle.al_expr.specs.Columns.{same_name}
use Rattle.al_catalogue.specs.declared.entry.TableEntry.{TableEntry}
use Rattle.al_catalogue.specs.declared.entry.Own.{Own}
use Rattle.al_catalogue.specs.declared.entry.Kept.{Kept}
use Rattle.al_catalogue.specs.declared.claimed.Claimed.{Claimed}
use Rattle.al_catalogue.specs.declared.claimed.Claimed.TheVariants as claims
use Rattle.al_catalogue.specs.Tables.{seen}

-- whether a table is there and has the name
abbrev pub is_called : List ℕ → Option TableEntry → Bool
is_called name None = false
is_called name (Some entry) = same_name entry.name name

-- the first table that has the name, as a transaction finds it
abbrev pub find_in : List Kept → List ℕ → ℕ → Option ℕ
find_in [] name x = None
find_in (kept ∷ tables) name x = if is_called name (seen x kept) then Some kept.number else find_in tables name x

-- a change makes a name come or go: the table was called so and isn't any more, or is and wasn't
abbrev pub moves_name : List ℕ → Option TableEntry → Option TableEntry → Bool
moves_name name before after =
    (is_called name before && not (is_called name after)) || (not (is_called name before) && is_called name after)

-- another transaction, still open, that made, dropped or renamed a table of the name
abbrev pub taker_of : List ℕ → ℕ → Option TableEntry → Option Own → Option ℕ
taker_of name x committed None = None
taker_of name x committed (Some own) =
    if not (own.xact == x) && moves_name name committed own.entry then Some own.xact else None

abbrev pub or_later : Option ℕ → Option ℕ → Option ℕ
or_later (Some taker) later = Some taker
or_later None later = later

abbrev pub taker_in : List Kept → List ℕ → ℕ → Option ℕ
taker_in [] name x = None
taker_in (kept ∷ tables) name x = or_later (taker_of name x kept.committed kept.own) (taker_in tables name x)

-- what a transaction that wants a name is answered
abbrev pub claimed_by : Option ℕ → Option ℕ → Claimed
claimed_by (Some taker) found = claims.Open taker
claimed_by None (Some table) = claims.Taken table
claimed_by None None = claims.Free

abbrev pub claim_in : List Kept → List ℕ → ℕ → Claimed
claim_in tables name x = claimed_by (taker_in tables name x) (find_in tables name x)
