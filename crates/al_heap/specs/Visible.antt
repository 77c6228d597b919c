-- Which versions a snapshot sees (13.2.1).
use Rattle.std.specs.Prelude.{◌≡◌, ℕ, List, Bool, true, false, not, ◌&&◌, ◌||◌, ◌==◌, Option, Some, None}
use Rattle.al_xacts.specs.declared.xact.Started.{Started}
use Rattle.al_xacts.specs.Fates.{fate_at, is_aborted, is_committed, GoesOn}
use Rattle.al_xacts.specs.Snapshots.{Taken, taken, sees}
use Rattle.al_heap.specs.declared.version.Stored.{Stored}

-- a version was removed or replaced, for who sees these transactions
abbrev pub is_removed_for : (ℕ → Bool) → Option ℕ → Bool
is_removed_for sees None = false
is_removed_for sees (Some remover) = sees remover

-- a version is there for who sees these transactions: its maker is among them, and who removed it last isn't
abbrev pub is_there_for : (ℕ → Bool) → Stored → Bool
is_there_for sees version = sees version.maker && not (is_removed_for sees version.remover)

-- a snapshot sees a version
abbrev pub is_visible : Taken → List Started → Stored → Bool
is_visible snapshot transactions version = is_there_for (sees snapshot transactions) version

-- the transactions that are one's own or were committed at some time
abbrev pub own_or_committed : List Started → ℕ → ℕ → Bool
own_or_committed transactions own x = (x == own) || is_committed (fate_at transactions x)

-- so it is there for the snapshot's own transaction and those that were committed when it was taken
abbrev pub VisibleAsTaken : Taken → List Started → Stored → Bool → Type 0
VisibleAsTaken snapshot transactions version visible =
    (before : List Started) → snapshot ≡ taken before snapshot.own → GoesOn before transactions
    → visible ≡ is_there_for (own_or_committed before snapshot.own) version

-- and a remover that was rolled back, other than the snapshot's own, hides nothing
abbrev pub ThereAgain : Taken → List Started → Stored → Bool → Type 0
ThereAgain snapshot transactions version visible =
    (remover : ℕ) → version.remover ≡ Some remover → (remover ≡ snapshot.own → ⊥) → is_aborted (fate_at transactions remover) ≡ true
    → visible ≡ sees snapshot transactions version.maker
