-- What changes of rows leave in a heap (13.2.1).
use Rattle.std.specs.Prelude.{◌≡◌, ℕ, List, [], ◌∷◌, ◌++◌, Bool, true, false, ◌&&◌, ◌||◌, ◌==◌, Option, Some, None, IfSome, slice_get, slice_set}
use Rattle.std.specs.Option.{option_map_or}
use Rattle.al_values.specs.declared.scalar.Value.{Value}
use Rattle.al_xacts.specs.declared.xact.Started.{Started}
use Rattle.al_xacts.specs.Fates.{fate_at, is_aborted, is_committed}
use Rattle.al_xacts.specs.Snapshots.{Taken}
use Rattle.al_heap.specs.declared.version.Stored.{Stored}
use Rattle.al_heap.specs.Versions.{standing, passes}
use Rattle.al_heap.specs.Visible.{is_visible}

-- a version that nobody has removed
abbrev pub made : ℕ → ℕ → ℕ → List Value → Stored
made row number maker values =
    record { row = row; number = number; maker = maker; remover = None; removal = 0; values = values }

-- a version that a transaction removes under a number
abbrev pub removed : ℕ → ℕ → Stored → Stored
removed remover number version = record version { remover = Some remover; removal = number }

-- a version that was never removed, or only by transactions that were rolled back
abbrev pub is_freed : List Started → Option ℕ → Bool
is_freed transactions None = true
is_freed transactions (Some remover) = is_aborted (fate_at transactions remover)

-- a transaction may change a version: its maker is the transaction or committed, and nobody else has removed it
abbrev pub is_changeable : List Started → ℕ → Stored → Bool
is_changeable transactions x version =
    ((version.maker == x) || is_committed (fate_at transactions version.maker)) && is_freed transactions version.remover

-- it may change a row: the row's newest version whose maker wasn't rolled back is there, and it may change that one
abbrev pub can_change : List Started → List Stored → ℕ → ℕ → Bool
can_change transactions versions row x =
    option_map_or (λ place. passes (is_changeable transactions x) (slice_get versions place)) (standing transactions versions row) false

-- a row's new version follows the others; without values there is none
abbrev pub with_version : ℕ → ℕ → ℕ → Option (List Value) → List Stored → List Stored
with_version row number x None versions = versions
with_version row number x (Some values) versions = versions ++ made row number x values ∷ []

-- the version at a place is removed, and a new one follows
abbrev pub ChangedAt : List Stored → List Stored → ℕ → ℕ → ℕ → Option (List Value) → ℕ → Type 0
ChangedAt before after row number x values place =
    IfSome (slice_get before place) (λ version. after ≡ with_version row number x values (slice_set before place (removed x number version)))

-- a transaction changes a row: its newest version whose maker wasn't rolled back is removed
abbrev pub Changes : List Started → List Stored → List Stored → ℕ → ℕ → ℕ → Option (List Value) → Type 0
Changes transactions before after row number x values =
    IfSome (standing transactions before row) (ChangedAt before after row number x values)

-- so the transaction sees its change at once: the version that it has removed isn't there for it, and the one that it has
-- made is
pub record OwnChange (row number x : ℕ) : Type 0 where
  pub gone : (transactions : List Started) (snapshot : Taken) (version : Stored) → snapshot.own ≡ x → is_visible snapshot transactions (removed x number version) ≡ false
  pub new : (transactions : List Started) (snapshot : Taken) (values : List Value) → snapshot.own ≡ x → is_visible snapshot transactions (made row number x values) ≡ true
