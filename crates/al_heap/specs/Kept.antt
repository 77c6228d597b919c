-- What a heap keeps beside its versions.
use Rattle.std.specs.Prelude.{◌≡◌, ℕ, ◌<◌, ◌^◌, List, Option, Some, length, nat_eq, slice_get}
use Rattle.std.specs.Map.{lookup}
use Rattle.al_heap.specs.declared.version.Stored.{Stored}
use Rattle.al_heap.specs.Versions.{is_of, last_below, newest}

-- for each version the place of the one of its row before it
abbrev pub IsLinked : List Stored → List (Option ℕ) → Type 0
IsLinked versions earlier =
    (place : ℕ) (version : Stored) → slice_get versions place ≡ Some version → slice_get earlier place ≡ Some (last_below (is_of version.row) versions place)

-- and for each row the place of its newest version
pub record IsKept (versions : List Stored) (earlier : List (Option ℕ)) (rows : List (ℕ × ℕ)) : Type 0 where
  pub few : length versions < 2 ^ 32
  pub each : length earlier ≡ length versions
  pub linked : IsLinked versions earlier
  pub found : (row : ℕ) → lookup (nat_eq row) rows ≡ newest versions row
