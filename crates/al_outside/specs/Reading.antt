-- Why a source was not read whole.
use Rattle.std.specs.Prelude.{ℕ, List, Option, ◌≡◌, ◌+◌, ◌<◌, ◌≤◌, length}
use Rattle.std.specs.Io.KnownBytes.{Consumes}
use Rattle.al_outside.specs.Faults.{Rose}
use Rattle.al_outside.specs.declared.reading.NotRead.{NotRead}
use Rattle.al_outside.specs.declared.reading.NotRead.TheVariants as causes

-- known bytes lost more at their front than the limit allows
abbrev pub IsReadPast : ℕ → Option (List ℕ) → Option (List ℕ) → Type 0
IsReadPast limit old new = (front : List ℕ) × Consumes old new front × (limit < length front)

-- more was read than the limit allows; a fault was counted; or memory was wanting, which has no cause
abbrev pub NotReadFor : ℕ → Option (List ℕ) → Option (List ℕ) → ℕ → ℕ → NotRead → Type 0
NotReadFor limit old new before now causes.TooLong = IsReadPast limit old new × (now ≡ before)
NotReadFor limit old new before now causes.Fault = (before ≤ now) × Rose before now
NotReadFor limit old new before now causes.NoMemory = now ≡ before

-- how many bytes one call reads at most
abbrev pub read_size : ℕ
read_size = 8192

-- known bytes lost some at their front: as many as the limit allows, and what one call reads beyond it, at most
abbrev pub IsReadUpTo : ℕ → Option (List ℕ) → Option (List ℕ) → Type 0
IsReadUpTo limit old new = (front : List ℕ) × Consumes old new front × (length front ≤ limit + read_size)
