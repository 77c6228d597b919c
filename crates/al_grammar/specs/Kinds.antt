-- Kinds of tokens, as numbers, and lists of them.
use Rattle.std.specs.Prelude.{ℕ, zero, suc, ◌+◌, Bool, true, false, ◌||◌, ◌&&◌, not, ◌==◌, List, [], ◌∷◌}

-- a kind stands in a list
abbrev pub among : ℕ → List ℕ → Bool
among n [] = false
among n (m ∷ ms) = (n == m) || among n ms

-- no kind stands in both lists
abbrev pub apart : List ℕ → List ℕ → Bool
apart [] ms = true
apart (n ∷ ns) ms = not (among n ms) && apart ns ms

-- each kind of one list stands in another
abbrev pub within : List ℕ → List ℕ → Bool
within [] ms = true
within (n ∷ ns) ms = among n ms && within ns ms

-- Tokens begin with one of these kinds; where there is no token, the answer is what is said for that.
abbrev pub starts : {T : Type 0} → (T → ℕ) → Bool → List ℕ → List T → Bool
starts kind empty kinds [] = empty
starts kind empty kinds (t ∷ ts) = among (kind t) kinds

-- so many kinds in a row, from the least on
abbrev pub span : ℕ → ℕ → List ℕ
span low zero = []
span low (suc count) = low ∷ span (low + 1) count
