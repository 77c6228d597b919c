-- What holds after the queues were walked.
use Rattle.std.specs.Prelude.{◌≡◌, ℕ, ◌+◌, ◌≤◌, List, [], ◌∷◌, ◌++◌, Bool, false, IsTrue, count_by}
use Rattle.al_queue.specs.declared.grant.Grant.{Grant}
use Rattle.al_queue.specs.Locks.{Locks}
use Rattle.al_queue.specs.InWay.{held_up}

-- each request of a list is held up, by the locks, the requests before it in the list, or those ahead of the list
abbrev pub AllHeldUp : List Grant → List Grant → List Grant → Type 0
AllHeldUp held ahead [] = Unit {0}
AllHeldUp held ahead (request ∷ requests) =
    IsTrue (held_up held ahead request) × AllHeldUp held (ahead ++ request ∷ []) requests

-- no waiting request can be granted
abbrev pub IsSettled : Locks → Type 0
IsSettled locks = AllHeldUp locks.held [] locks.waiting

-- the tables of a list ascend, from a number on
abbrev pub AscendsFrom : ℕ → List Grant → Type 0
AscendsFrom least [] = Unit {0}
AscendsFrom least (grant ∷ grants) = (least ≤ grant.table) × AscendsFrom grant.table grants

-- a request that waits can be granted: no lock is in its way, and no request ahead
pub record IsNext (held waiting : List Grant) (grant : Grant) : Type 0 where
  pub ahead : List Grant
  pub behind : List Grant
  pub waits : waiting ≡ ahead ++ grant ∷ behind
  pub free : held_up held ahead grant ≡ false

-- these requests are granted one after the other, each where it can be granted by then, and the rest waits on in its order
abbrev pub Come : List Grant → List Grant → List Grant → List Grant → Type 0
Come held waiting [] rest = rest ≡ waiting
Come held waiting (grant ∷ grants) rest =
    (next : IsNext held waiting grant) × Come (held ++ grant ∷ []) (next.ahead ++ next.behind) grants rest

-- each request that waited before is granted, once, or waits still; the locks gain those that were granted; these are
-- named with their tables in ascending number; and one after the other they can be granted so
pub record HandsOn (before after : Locks) : Type 0 where
  pub once : (test : Grant → Bool) → count_by test after.granted + count_by test after.waiting ≡ count_by test before.waiting
  pub gained : (test : Grant → Bool) → count_by test after.held ≡ count_by test before.held + count_by test after.granted
  pub ascends : AscendsFrom 0 after.granted
  pub rightly : Come before.held before.waiting after.granted after.waiting
