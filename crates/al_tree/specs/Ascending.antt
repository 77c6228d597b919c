-- Numbers in ascending order.
use Rattle.std.specs.Prelude.{ℕ, List, [], ◌∷◌, Bool, not, ◌==◌, ◌<◌, nat_lt, if◌then◌else◌, filter}
use Rattle.std.specs.List.{list_any}

-- all are above a number
abbrev pub AllAbove : ℕ → List ℕ → Type 0
AllAbove least [] = Unit {0}
AllAbove least (n ∷ numbers) = (least < n) × AllAbove least numbers

-- they ascend, so that each stands there once
abbrev pub Ascends : List ℕ → Type 0
Ascends [] = Unit {0}
Ascends (n ∷ numbers) = AllAbove n numbers × Ascends numbers

-- whether a number is among them
abbrev pub is_among : ℕ → List ℕ → Bool
is_among n numbers = list_any (λ other. other == n) numbers

-- a number more, before the first that is above it
abbrev pub put : ℕ → List ℕ → List ℕ
put n [] = n ∷ []
put n (other ∷ numbers) = if nat_lt n other then n ∷ other ∷ numbers else other ∷ put n numbers

-- all but one
abbrev pub without : ℕ → List ℕ → List ℕ
without n numbers = filter (λ other. not (other == n)) numbers
