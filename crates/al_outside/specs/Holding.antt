-- What a sink holds, and how a write makes it grow.
use Rattle.std.specs.Prelude.{ℕ, List, [], ◌≡◌, ◌++◌, ⊤, take, Result, MatchResult, Option, Some, None}

-- its bytes; not known from the start; or not told any more
pub data Held : Type 0 where
  Bytes : List ℕ → Held
  Unknown : Held
  Silent : Held

-- told bytes grow by bs; a sink that told them may fall silent, and never speaks again
abbrev pub Grows : Held → Held → List ℕ → Type 0
Grows (Bytes xs) (Bytes ys) bs = ys ≡ xs ++ bs
Grows (Bytes xs) Silent bs = ⊤
Grows (Bytes xs) Unknown bs = ⊥
Grows Silent Silent bs = ⊤
Grows Silent (Bytes ys) bs = ⊥
Grows Silent Unknown bs = ⊥
Grows Unknown new bs = ⊤

-- they grow by some first bytes of bs
abbrev pub GrowsByFront : Held → Held → List ℕ → Type 0
GrowsByFront old new bs = (n : ℕ) × Grows old new (take n bs)

-- a write took the first n bytes of the piece at `Ok(n)`, and nothing where it failed
abbrev pub WriteGrows : {E : Type 0} → Held → Held → Result ℕ E → List ℕ → Type 0
WriteGrows old new result piece = MatchResult result (λ n. Grows old new (take n piece)) (λ _. Grows old new [])

-- what is held by a writer of std that may tell its bytes
abbrev pub held_by : Option (List ℕ) → Held
held_by (Some bytes) = Bytes bytes
held_by None = Unknown
