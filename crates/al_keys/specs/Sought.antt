-- What a key's versions are to a transaction that looks for the key (13.2.1; unique keys, 5.4.3).
use Rattle.std.specs.Prelude.{◌≡◌, ◌≤◌, ℕ, List, [], ◌∷◌, Bool, true, false, cond, not, ◌&&◌, ◌||◌, ◌==◌, if◌then◌else◌, Option, Some, None, nat_lt, min, fold, slice_get, IsSome}
use Rattle.std.specs.Option.{option_map_or}
use Rattle.al_xacts.specs.declared.xact.Started.{Started}
use Rattle.al_xacts.specs.Fates.{fate_at, is_aborted, is_open}
use Rattle.al_xacts.specs.Snapshots.{Taken, sees}
use Rattle.al_keys.specs.declared.version.KeyVersion.{KeyVersion}
use Rattle.al_keys.specs.declared.version.Sought.{Sought}
use Rattle.al_keys.specs.declared.version.Sought.TheVariants.{Free, Held, Open}

-- another transaction that hasn't ended
abbrev pub is_other : List Started → ℕ → ℕ → Bool
is_other transactions x y = not (y == x) && is_open (fate_at transactions y)

-- a version that is committed or own: it is there unless somebody else is removing it, or it was removed by oneself or by a
-- committed transaction
abbrev pub of_remover : List Started → ℕ → ℕ → Option ℕ → Sought
of_remover transactions x row None = Held row
of_remover transactions x row (Some remover) =
    if is_aborted (fate_at transactions remover) then Held row
    else (if is_other transactions x remover then Open remover else Free)

-- what a version is to a transaction: nothing where its maker was rolled back; another open transaction's, which made it or
-- is removing it; or a row's that has the key
abbrev pub verdict : List Started → ℕ → KeyVersion → Sought
verdict transactions x version =
    if is_aborted (fate_at transactions version.maker) then Free
    else (if is_other transactions x version.maker then Open version.maker else of_remover transactions x version.row version.remover)

abbrev pub is_taken : Sought → Bool
is_taken Free = false
is_taken sought = true

abbrev pub is_in_way : List Started → ℕ → KeyVersion → Bool
is_in_way transactions x version = is_taken (verdict transactions x version)

-- the lesser of a row found so far and a version's, where this passes a test
abbrev pub lesser_row : (KeyVersion → Bool) → Option ℕ → KeyVersion → Option ℕ
lesser_row test found version =
    if test version then Some (option_map_or (λ other. min version.row other) found version.row) else found

-- the least row of the versions that pass a test
abbrev pub least_row : (KeyVersion → Bool) → List KeyVersion → Option ℕ
least_row test versions = fold (lesser_row test) None versions

-- the first version of a row that is in the way
abbrev pub first_of : List Started → ℕ → ℕ → List KeyVersion → Sought
first_of transactions x row [] = Free
first_of transactions x row (version ∷ versions) =
    if (version.row == row) && is_in_way transactions x version then verdict transactions x version else first_of transactions x row versions

abbrev pub sought_on : List Started → ℕ → List KeyVersion → Option ℕ → Sought
sought_on transactions x versions None = Free
sought_on transactions x versions (Some row) = first_of transactions x row versions

-- what a transaction finds that looks for a key, whose versions these are: the rows are looked at in ascending number
abbrev pub sought : List Started → ℕ → List KeyVersion → Sought
sought transactions x versions = sought_on transactions x versions (least_row (is_in_way transactions x) versions)

-- so it is free where no version is in the way, and else what a version of the least such row is
pub record IsAtLeastRow (transactions : List Started) (x : ℕ) (versions : List KeyVersion) (found : Sought) : Type 0 where
  pub place : ℕ
  pub version : KeyVersion
  pub there : slice_get versions place ≡ Some version
  pub says : verdict transactions x version ≡ found
  pub least : (other : ℕ) (behind : KeyVersion) → slice_get versions other ≡ Some behind → is_in_way transactions x behind ≡ true → version.row ≤ behind.row

abbrev pub IsSought : List Started → ℕ → List KeyVersion → Sought → Type 0
IsSought transactions x versions Free = (place : ℕ) (version : KeyVersion) → slice_get versions place ≡ Some version → is_in_way transactions x version ≡ false
IsSought transactions x versions (Held row) = IsAtLeastRow transactions x versions (Held row)
IsSought transactions x versions (Open by) = IsAtLeastRow transactions x versions (Open by)

-- ---- what a snapshot sees

abbrev pub is_removed_for : (ℕ → Bool) → Option ℕ → Bool
is_removed_for sees None = false
is_removed_for sees (Some remover) = sees remover

-- a version is there for who sees these transactions: its maker is among them, and who removed it last isn't
abbrev pub is_there_for : (ℕ → Bool) → KeyVersion → Bool
is_there_for sees version = sees version.maker && not (is_removed_for sees version.remover)

-- a snapshot sees a version
abbrev pub is_visible : Taken → List Started → KeyVersion → Bool
is_visible snapshot transactions version = is_there_for (sees snapshot transactions) version

-- the least row that gives a key in a snapshot, of whose versions these are: none where the snapshot sees none of them
pub record IsLeastGiven (snapshot : Taken) (transactions : List Started) (versions : List KeyVersion) (row : ℕ) : Type 0 where
  pub place : ℕ
  pub version : KeyVersion
  pub there : slice_get versions place ≡ Some version
  pub is_row : version.row ≡ row
  pub seen : is_visible snapshot transactions version ≡ true
  pub least : (other : ℕ) (behind : KeyVersion) → slice_get versions other ≡ Some behind → is_visible snapshot transactions behind ≡ true → row ≤ behind.row

abbrev pub IsGiven : Taken → List Started → List KeyVersion → Option ℕ → Type 0
IsGiven snapshot transactions versions None = (place : ℕ) (version : KeyVersion) → slice_get versions place ≡ Some version → is_visible snapshot transactions version ≡ false
IsGiven snapshot transactions versions (Some row) = IsLeastGiven snapshot transactions versions row
