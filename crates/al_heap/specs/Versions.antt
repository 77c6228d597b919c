-- The versions of rows that a heap keeps (13.2.1): oldest first, so that a version's place is its index.
use Rattle.std.specs.Prelude.{ℕ, List, Bool, true, false, cond, not, ◌&&◌, Option, Some, None, zero, suc, length, nat_eq, slice_get}
use Rattle.al_xacts.specs.declared.xact.Started.{Started}
use Rattle.al_xacts.specs.Fates.{fate_at, is_aborted}
use Rattle.al_heap.specs.declared.version.Stored.{Stored}

abbrev pub passes : (Stored → Bool) → Option Stored → Bool
passes test None = false
passes test (Some version) = test version

-- the last place below one whose version passes a test
abbrev pub last_below : (Stored → Bool) → List Stored → ℕ → Option ℕ
last_below test versions zero = None
last_below test versions (suc place) =
    cond (passes test (slice_get versions place)) (Some place) (last_below test versions place)

-- a version is one of the row
abbrev pub is_of : ℕ → Stored → Bool
is_of row version = nat_eq version.row row

-- and its maker wasn't rolled back
abbrev pub is_standing : List Started → ℕ → Stored → Bool
is_standing transactions row version = is_of row version && not (is_aborted (fate_at transactions version.maker))

-- the place of a row's newest version
abbrev pub newest : List Stored → ℕ → Option ℕ
newest versions row = last_below (is_of row) versions (length versions)

-- the place of a row's newest version whose maker wasn't rolled back
abbrev pub standing : List Started → List Stored → ℕ → Option ℕ
standing transactions versions row = last_below (is_standing transactions row) versions (length versions)
