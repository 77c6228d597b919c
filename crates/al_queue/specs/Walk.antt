-- What is granted when locks or places become free.
use Rattle.std.specs.Prelude.{ℕ, List, [], ◌∷◌, ◌++◌, not, ◌==◌, nat_lt, if◌then◌else◌, filter, fold}
use Rattle.al_queue.specs.declared.grant.Grant.{Grant}
use Rattle.al_queue.specs.Locks.{Locks}
use Rattle.al_queue.specs.InWay.{held_up}

-- a grant is named behind those of the tables up to its own
abbrev pub placed : List Grant → Grant → List Grant
placed [] grant = grant ∷ []
placed (other ∷ others) grant =
    if nat_lt grant.table other.table then grant ∷ other ∷ others else other ∷ placed others grant

-- a walk comes to a waiting request: it goes on waiting where it is held up, by the locks or by a request ahead that
-- still waits, else it is granted
abbrev pub passed : Locks → Grant → Locks
passed locks request =
    if held_up locks.held locks.waiting request then record locks { waiting = locks.waiting ++ request ∷ [] }
    else record locks { held = locks.held ++ request ∷ []; granted = placed locks.granted request }

-- the queues are walked from their fronts
abbrev pub walked : Locks → Locks
walked locks = fold passed (record { held = locks.held; waiting = []; granted = [] }) locks.waiting

-- a session's claims end: its locks, and its waiting request where it has one
abbrev pub released : Locks → ℕ → Locks
released locks session = record locks {
  held = filter (λ lock. not (lock.session == session)) locks.held;
  waiting = filter (λ request. not (request.session == session)) locks.waiting;
}

-- a session's waiting request is taken back
abbrev pub withdrawn : Locks → ℕ → Locks
withdrawn locks session = record locks { waiting = filter (λ request. not (request.session == session)) locks.waiting }
