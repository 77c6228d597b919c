-- Changes of tables, and what becomes of them at their transaction's end (13.2).
use Rattle.std.specs.Prelude.{◌≡◌, ℕ, List, [], ◌∷◌, Bool, true, ◌==◌, ◌⊎◌, if◌then◌else◌, Option, Some, None}
use Rattle.al_xacts.specs.declared.xact.Fate.{Fate}
use Rattle.al_xacts.specs.declared.xact.Fate.TheVariants as fates
use Rattle.al_catalogue.specs.declared.entry.TableEntry.{TableEntry}
use Rattle.al_catalogue.specs.declared.entry.Own.{Own}
use Rattle.al_catalogue.specs.declared.entry.Kept.{Kept}
use Rattle.al_catalogue.specs.declared.claimed.Claimed.TheVariants as claims
use Rattle.al_catalogue.specs.Tables.{entry_of}
use Rattle.al_catalogue.specs.Names.{is_called, claim_in}

-- nobody else has a change of a table
abbrev pub is_mine : ℕ → Option Own → Bool
is_mine x None = true
is_mine x (Some own) = own.xact == x

abbrev pub is_free_for : List Kept → ℕ → ℕ → Bool
is_free_for [] table x = true
is_free_for (kept ∷ tables) table x = if kept.number == table then is_mine x kept.own else is_free_for tables table x

-- a new name is free
abbrev pub IsNameFree : List Kept → ℕ → ℕ → Option TableEntry → Type 0
IsNameFree tables table x None = Unit {0}
IsNameFree tables table x (Some entry) =
    (is_called entry.name (entry_of tables table x) ≡ true) ⊎ (claim_in tables entry.name x ≡ claims.Free)

-- a transaction's own change of a table
abbrev pub changed : ℕ → ℕ → Option TableEntry → List Kept → List Kept
changed x table entry [] = record { number = table; committed = None; own = Some (record { xact = x; entry = entry }) } ∷ []
changed x table entry (kept ∷ tables) =
    if kept.number == table then record kept { own = Some (record { xact = x; entry = entry }) } ∷ tables
    else kept ∷ changed x table entry tables

-- an own change is committed, or taken back
abbrev pub ended_own : ℕ → Fate → Kept → Option Own → Kept
ended_own x fate kept None = kept
ended_own x fates.Committed kept (Some own) = if own.xact == x then record kept { committed = own.entry; own = None } else kept
ended_own x fates.Aborted kept (Some own) = if own.xact == x then record kept { own = None } else kept
ended_own x fates.Open kept (Some own) = if own.xact == x then record kept { own = None } else kept

abbrev pub ended : ℕ → Fate → Kept → Kept
ended x fate kept = ended_own x fate kept kept.own
