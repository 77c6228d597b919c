-- Cycles of waits (13.3.4). Who waits for whom is a relation of sessions, which count from 0.
use Rattle.std.specs.Prelude.{◌≡◌, ◌<◌, ◌≤◌, ℕ, List, [], ◌∷◌, Bool, false, ◌&&◌, ◌||◌, ◌==◌, nat_lt, IsTrue, length}
use Rattle.al_modes.specs.declared.edge.Edge.{Edge}

-- the first of a list, or the end where there is none
abbrev pub first_or : ℕ → List ℕ → ℕ
first_or end [] = end
first_or end (session ∷ others) = session

-- each session of a list waits for the next, and the last for the one at the end
abbrev pub IsWalk : (ℕ → ℕ → Bool) → ℕ → ℕ → List ℕ → Type 0
IsWalk blocks sessions end [] = Unit {0}
IsWalk blocks sessions end (session ∷ others) =
    (session < sessions) × IsTrue (blocks session (first_or end others)) × IsWalk blocks sessions end others

-- a cycle through a session: a list that begins with it, in which each waits for the next, and the last for the first
abbrev pub IsCycle : (ℕ → ℕ → Bool) → ℕ → ℕ → List ℕ → Type 0
IsCycle blocks sessions session [] = ⊥
IsCycle blocks sessions session (first ∷ others) = (first ≡ session) × IsWalk blocks sessions session (first ∷ others)

-- there is no cycle through a session, of whatever length
abbrev pub HasNoCycle : (ℕ → ℕ → Bool) → ℕ → ℕ → Type 0
HasNoCycle blocks sessions session = (cycle : List ℕ) → IsCycle blocks sessions session cycle → ⊥

-- no cycle through the session is shorter
abbrev pub IsShortest : (ℕ → ℕ → Bool) → ℕ → ℕ → List ℕ → Type 0
IsShortest blocks sessions session cycle =
    (other : List ℕ) → IsCycle blocks sessions session other → length cycle ≤ length other

-- whether a list of sessions comes before another that is as long: where they first differ, its session is less
abbrev pub comes_before : List ℕ → List ℕ → Bool
comes_before [] others = false
comes_before (session ∷ sessions) [] = false
comes_before (session ∷ sessions) (other ∷ others) =
    nat_lt session other || ((session == other) && comes_before sessions others)

-- no cycle through the session that is as long comes before it
abbrev pub IsLeast : (ℕ → ℕ → Bool) → ℕ → ℕ → List ℕ → Type 0
IsLeast blocks sessions session cycle =
    (other : List ℕ) → IsCycle blocks sessions session other → length other ≡ length cycle → comes_before other cycle ≡ false

-- the edges of a list of sessions: from each to the next, and from the last to the end
abbrev pub edges_of : ℕ → List ℕ → List Edge
edges_of end [] = []
edges_of end (session ∷ others) = record { session = session; by = first_or end others } ∷ edges_of end others

-- the sessions from which edges lead
abbrev pub sessions_of : List Edge → List ℕ
sessions_of [] = []
sessions_of (edge ∷ edges) = edge.session ∷ sessions_of edges
