-- Which session waits for which (13.3.1, 13.3.4).
use Rattle.std.specs.Prelude.{ℕ, List, Bool, false, ◌||◌, ◌==◌, Option, Some, None, slice_index_or}
use Rattle.al_queue.specs.Locks.{Kept}
use Rattle.al_queue.specs.Waits.{blocked_by}

-- the session whose end a session waits for, if any
abbrev pub whom_of : List (Option ℕ) → ℕ → Option ℕ
whom_of waits session = slice_index_or waits session None

-- whether a session that may be there is this one
abbrev pub is_this : Option ℕ → ℕ → Bool
is_this None session = false
is_this (Some other) session = other == session

-- whether a session waits for another: for its lock, for its request ahead in the queue, or for the end of its transaction
unfoldable pub blocks : Kept → List (Option ℕ) → ℕ → ℕ → Bool
blocks kept waits session other = blocked_by kept.locks session other || is_this (whom_of waits session) other
