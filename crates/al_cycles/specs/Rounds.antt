-- How far each session is from the end of a walk, as it is found round by round.
use Rattle.std.specs.Prelude.{◌≡◌, ◌<◌, ◌≤◌, ℕ, zero, suc, List, ◌∷◌, Bool, false, ◌&&◌, IsTrue, Option, Some, None, length, slice_index_or, count_by}
use Rattle.std.specs.Option.{is_none}
use Rattle.al_modes.specs.declared.edge.Edge.{Edge}
use Rattle.al_cycles.specs.Blocks.{is_this}
use Rattle.al_cycles.specs.Cycles.{IsWalk, IsCycle, IsShortest, IsLeast, edges_of, sessions_of}

-- how many sessions stand between a session and the end, where that is known
abbrev pub between_of : List (Option ℕ) → ℕ → Option ℕ
between_of table session = slice_index_or table session None

-- a walk from a session to the end, with so many between them
pub record Walks (blocks : ℕ → ℕ → Bool) (sessions end session between : ℕ) : Type 0 where
  pub others : List ℕ
  pub walk : IsWalk blocks sessions end (session ∷ others)
  pub count : length others ≡ between

-- a number is known, and is at most another
abbrev pub IsKnownWithin : Option ℕ → ℕ → Type 0
IsKnownWithin None most = ⊥
IsKnownWithin (Some between) most = between ≤ most

-- after so many rounds: what is known is so, and less than the number of rounds; and each walk with fewer between is known
pub record AreRounds (blocks : ℕ → ℕ → Bool) (sessions end rounds : ℕ) (table : List (Option ℕ)) : Type 0 where
  pub len : length table ≡ sessions
  pub sound : (s d : ℕ) → between_of table s ≡ Some d → (d < rounds) × Walks blocks sessions end s d
  pub known : (s : ℕ) (others : List ℕ) → IsWalk blocks sessions end (s ∷ others) → length others < rounds
      → IsKnownWithin (between_of table s) (length others)

-- amid a round: what walks with fewer between say is known, and what those with just as many say, up to a session
pub record AreMidRound (blocks : ℕ → ℕ → Bool) (sessions end between upto : ℕ) (table : List (Option ℕ)) : Type 0 where
  pub len : length table ≡ sessions
  pub sound : (s d : ℕ) → between_of table s ≡ Some d → (d ≤ between) × Walks blocks sessions end s d
  pub known : (s : ℕ) (others : List ℕ) → IsWalk blocks sessions end (s ∷ others) → length others < between
      → IsKnownWithin (between_of table s) (length others)
  pub now : (s : ℕ) (others : List ℕ) → s < upto → IsWalk blocks sessions end (s ∷ others) → length others ≡ between
      → IsKnownWithin (between_of table s) between

-- of how many sessions it isn't known
abbrev pub unknown : List (Option ℕ) → ℕ
unknown table = count_by is_none table

-- the rounds have come to an end: the session at the end is known, or no walk leads from it to itself
pub record IsDone (blocks : ℕ → ℕ → Bool) (sessions end : ℕ) (table : List (Option ℕ)) : Type 0 where
  pub rounds : ℕ
  pub are : AreRounds blocks sessions end rounds table
  pub closed : between_of table end ≡ None → (others : List ℕ) → IsWalk blocks sessions end (end ∷ others) → ⊥

-- whether a session waits for another that is so far from the end
abbrev pub is_next : (ℕ → ℕ → Bool) → List (Option ℕ) → ℕ → ℕ → ℕ → Bool
is_next blocks table session between other = is_this (between_of table other) between && blocks session other

-- a session waits for the end, or for a session that has one fewer between
abbrev pub Reaches : (ℕ → ℕ → Bool) → ℕ → ℕ → List (Option ℕ) → ℕ → ℕ → Type 0
Reaches blocks sessions end table session zero = IsTrue (blocks session end)
Reaches blocks sessions end table session (suc fewer) =
    (other : ℕ) × (other < sessions) × IsTrue (is_next blocks table session fewer other)

-- the first number below a limit that passes a test, where there is one
abbrev pub IsFirst : (ℕ → Bool) → ℕ → Option ℕ → Type 0
IsFirst test limit None = (n : ℕ) → n < limit → test n ≡ false
IsFirst test limit (Some n) = (n < limit) × IsTrue (test n) × ((m : ℕ) → m < n → test m ≡ false)

-- edges are those of the shortest cycle through a session, and of the least such
pub record AreAnswer (blocks : ℕ → ℕ → Bool) (sessions session : ℕ) (list : List Edge) : Type 0 where
  pub edges : list ≡ edges_of session (sessions_of list)
  pub cycle : IsCycle blocks sessions session (sessions_of list)
  pub shortest : IsShortest blocks sessions session (sessions_of list)
  pub least : IsLeast blocks sessions session (sessions_of list)
