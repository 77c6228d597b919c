-- What makes a request wait, and what becomes of a new one (13.3.1).
use Rattle.std.specs.Prelude.{ℕ, List, [], ◌∷◌, ◌++◌, Bool, not, ◌&&◌, ◌||◌, ◌==◌, if◌then◌else◌, count_by}
use Rattle.std.specs.List.{list_any}
use Rattle.al_modes.specs.Conflicts.{conflict}
use Rattle.al_queue.specs.declared.grant.Grant.{Grant}
use Rattle.al_queue.specs.declared.grant.Asked.{Asked}
use Rattle.al_queue.specs.declared.grant.Asked.TheVariants.{Granted, Queued}
use Rattle.al_queue.specs.Locks.{Locks}

-- another session's lock, or request ahead, is in the way of a request where the table is the same and the modes
-- conflict; a transaction never conflicts with itself
abbrev pub is_in_way : Grant → Grant → Bool
is_in_way request other =
    (other.table == request.table) && (not (other.session == request.session) && conflict other.mode request.mode)

-- a request waits where a lock that is held, or a request ahead of it, is in its way
abbrev pub held_up : List Grant → List Grant → Grant → Bool
held_up held ahead request = list_any (is_in_way request) held || list_any (is_in_way request) ahead

-- the waiting requests that a new request has ahead of it: all, since it enters at the end
abbrev pub ahead_of : Locks → Grant → List Grant
ahead_of locks request = locks.waiting

-- the waiting requests once it has entered
abbrev pub entered : Locks → Grant → List Grant
entered locks request = ahead_of locks request ++ request ∷ []

-- whether a new request is granted at once
abbrev pub grantable : Locks → Grant → Bool
grantable locks request = not (held_up locks.held (ahead_of locks request) request)

-- its place in the queue of its table, from 0
abbrev pub place_of : Locks → Grant → ℕ
place_of locks request = count_by (λ other. other.table == request.table) (ahead_of locks request)

-- what it is answered
abbrev pub answer : Locks → Grant → Asked
answer locks request = if grantable locks request then Granted else Queued (place_of locks request)

-- the locks after it: it is held, or it waits
abbrev pub asked : Locks → Grant → Locks
asked locks request =
    if grantable locks request then record locks { held = locks.held ++ request ∷ [] }
    else record locks { waiting = entered locks request }
