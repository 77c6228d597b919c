-- How keys are kept: in ascending order, without nulls.
use Rattle.std.specs.Prelude.{◌≡◌, ◌<◌, ◌≤◌, ℕ, List, Bool, false, Option, Some, Result, Ok, Err, length, slice_get}
use Rattle.std.specs.declared.cmp.Ordering.TheVariants.{Less, Equal, Greater}
use Rattle.al_values.specs.declared.scalar.Value.{Value}
use Rattle.al_keys.specs.declared.entry.Entry.{Entry}
use Rattle.al_keys.specs.Order.{key_order, has_null}

-- each key is less than those behind it
abbrev pub IsSorted : List Entry → Type 0
IsSorted entries =
    (i j : ℕ) (entry other : Entry) → i < j → slice_get entries i ≡ Some entry → slice_get entries j ≡ Some other → key_order entry.key other.key ≡ Less

-- and none has a null
abbrev pub AreWhole : List Entry → Type 0
AreWhole entries = (i : ℕ) (entry : Entry) → slice_get entries i ≡ Some entry → has_null entry.key ≡ false

pub record IsKept (entries : List Entry) : Type 0 where
  pub sorted : IsSorted entries
  pub whole : AreWhole entries

-- the keys before a place are less than a key
abbrev pub AllLess : List Entry → List Value → ℕ → Type 0
AllLess entries key place = (i : ℕ) (entry : Entry) → i < place → slice_get entries i ≡ Some entry → key_order entry.key key ≡ Less

-- and those from it on are greater
abbrev pub AllGreater : List Entry → List Value → ℕ → Type 0
AllGreater entries key place = (i : ℕ) (entry : Entry) → place ≤ i → slice_get entries i ≡ Some entry → key_order entry.key key ≡ Greater

pub record StandsAt (entries : List Entry) (key : List Value) (place : ℕ) : Type 0 where
  pub entry : Entry
  pub there : slice_get entries place ≡ Some entry
  pub same : key_order entry.key key ≡ Equal
  pub below : AllLess entries key place

pub record WouldStandAt (entries : List Entry) (key : List Value) (place : ℕ) : Type 0 where
  pub within : place ≤ length entries
  pub below : AllLess entries key place
  pub above : AllGreater entries key place

-- a key stands at a place, or it doesn't stand here and would stand at a place
abbrev pub IsPlaceOf : List Entry → List Value → Result ℕ ℕ → Type 0
IsPlaceOf entries key (Ok place) = StandsAt entries key place
IsPlaceOf entries key (Err place) = WouldStandAt entries key place
