-- The versions of rows that are kept under a key.
use Rattle.std.specs.Prelude.{◌≡◌, ℕ, List, [], ◌∷◌, ◌++◌, Bool, true, false, cond, not, ◌&&◌, ◌||◌, ◌==◌, if◌then◌else◌, Option, Some, None, zero, suc, length, nat_eq, slice_get, slice_set}
use Rattle.std.specs.Option.{option_map_or}
use Rattle.al_values.specs.declared.scalar.Value.{Value}
use Rattle.al_xacts.specs.declared.xact.Started.{Started}
use Rattle.al_xacts.specs.Fates.{fate_at, is_aborted, is_committed}
use Rattle.al_keys.specs.declared.entry.Entry.{Entry}
use Rattle.al_keys.specs.declared.version.KeyVersion.{KeyVersion}
use Rattle.al_keys.specs.Order.{keys_equal, has_null}

-- the versions under a key, in the order in which they were entered
abbrev pub versions_in : List Entry → List Value → List KeyVersion
versions_in [] key = []
versions_in (entry ∷ entries) key = cond (keys_equal entry.key key) entry.versions (versions_in entries key)

-- the versions under one key are changed, and under no other
abbrev pub ChangesKey : List Entry → List Entry → List Value → (List KeyVersion → List KeyVersion) → Type 0
ChangesKey before after key change =
    (other : List Value) → versions_in after other ≡ (if keys_equal other key then change (versions_in before other) else versions_in before other)

-- a version that nobody has removed
abbrev pub made : ℕ → ℕ → ℕ → KeyVersion
made row place maker = record { row = row; place = place; maker = maker; remover = None }

-- a version that is entered follows the others
abbrev pub with_version : KeyVersion → List KeyVersion → List KeyVersion
with_version version versions = versions ++ version ∷ []

abbrev pub passes : (KeyVersion → Bool) → Option KeyVersion → Bool
passes test None = false
passes test (Some version) = test version

-- the last place below one whose version passes a test
abbrev pub last_below : (KeyVersion → Bool) → List KeyVersion → ℕ → Option ℕ
last_below test versions zero = None
last_below test versions (suc place) =
    cond (passes test (slice_get versions place)) (Some place) (last_below test versions place)

-- a version is one of the row, and its maker wasn't rolled back
abbrev pub is_standing : List Started → ℕ → KeyVersion → Bool
is_standing transactions row version = nat_eq version.row row && not (is_aborted (fate_at transactions version.maker))

-- the place of a row's newest version whose maker wasn't rolled back
abbrev pub standing : List Started → List KeyVersion → ℕ → Option ℕ
standing transactions versions row = last_below (is_standing transactions row) versions (length versions)

abbrev pub removed : ℕ → KeyVersion → KeyVersion
removed remover version = record version { remover = Some remover }

abbrev pub with_remover : ℕ → List KeyVersion → Option ℕ → List KeyVersion
with_remover x versions None = versions
with_remover x versions (Some place) =
    option_map_or (λ version. slice_set versions place (removed x version)) (slice_get versions place) versions

-- a transaction removes a row's newest version whose maker wasn't rolled back
abbrev pub left_by : List Started → ℕ → ℕ → List KeyVersion → List KeyVersion
left_by transactions x row versions = with_remover x versions (standing transactions versions row)

-- a version that was never removed, or only by transactions that were rolled back
abbrev pub is_freed : List Started → Option ℕ → Bool
is_freed transactions None = true
is_freed transactions (Some remover) = is_aborted (fate_at transactions remover)

-- a transaction may remove a version: its maker is the transaction or committed, and nobody else has removed it
abbrev pub is_changeable : List Started → ℕ → KeyVersion → Bool
is_changeable transactions x version =
    ((version.maker == x) || is_committed (fate_at transactions version.maker)) && is_freed transactions version.remover

-- it may remove a row's version under a key: there is one that it may remove; under a key with a null there is nothing to remove
abbrev pub can_leave : List Started → List Entry → List Value → ℕ → ℕ → Bool
can_leave transactions entries key row x =
    has_null key
    || option_map_or (λ place. passes (is_changeable transactions x) (slice_get (versions_in entries key) place)) (standing transactions (versions_in entries key) row) false
