-- Which sessions a request waits for (13.3.1).
use Rattle.std.specs.Prelude.{ℕ, List, Bool, false, ◌&&◌, ◌||◌, ◌==◌, ◌≤◌, IsTrue, Option, Some, None, slice_get, take, position}
use Rattle.std.specs.List.{list_any}
use Rattle.std.specs.Option.{option_map_or}
use Rattle.al_modes.specs.declared.mode.Mode.{Mode}
use Rattle.al_modes.specs.Conflicts.{strictness}
use Rattle.al_queue.specs.declared.grant.Grant.{Grant}
use Rattle.al_queue.specs.Locks.{Locks}
use Rattle.al_queue.specs.InWay.{is_in_way, ahead_of}

-- a session's lock of a table in a mode
abbrev pub is_like : ℕ → ℕ → Mode → Grant → Bool
is_like session table mode lock =
    (lock.session == session) && ((lock.table == table) && (strictness lock.mode == strictness mode))

-- whether a session holds a lock of a table in a mode
abbrev pub holds : Locks → ℕ → ℕ → Mode → Bool
holds locks session table mode = list_any (is_like session table mode) locks.held

-- a session's lock or request is in the way of a request
abbrev pub is_in_way_of : ℕ → Grant → Grant → Bool
is_in_way_of session request other = (other.session == session) && is_in_way request other

-- a session makes a request wait by a lock that it holds, or by a request ahead
abbrev pub makes_wait : List Grant → List Grant → Grant → ℕ → Bool
makes_wait held ahead request session =
    list_any (is_in_way_of session request) held || list_any (is_in_way_of session request) ahead

-- the least number that passes a test
abbrev pub IsLeast : (ℕ → Bool) → ℕ → Type 0
IsLeast test n = IsTrue (test n) × ((other : ℕ) → IsTrue (test other) → n ≤ other)

-- the least session that would make a new request wait
abbrev pub IsLeastBefore : Locks → Grant → ℕ → Type 0
IsLeastBefore locks request = IsLeast (makes_wait locks.held (ahead_of locks request) request)

-- the place of a session's request among those that wait, where it has one
abbrev pub request_at : Locks → ℕ → Option ℕ
request_at locks session = position (λ request. request.session == session) locks.waiting

-- whether a session makes the waiting request at a place wait, where there is one
abbrev pub blocked_at : Locks → ℕ → Option ℕ → Bool
blocked_at locks other None = false
blocked_at locks other (Some place) =
    option_map_or (λ request. makes_wait locks.held (take place locks.waiting) request other) (slice_get locks.waiting place) false

-- whether a session waits, and another makes it wait
abbrev pub blocked_by : Locks → ℕ → ℕ → Bool
blocked_by locks session other = blocked_at locks other (request_at locks session)
