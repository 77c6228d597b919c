-- What a lock table keeps (13.3.1).
use Rattle.std.specs.Prelude.{ℕ, List}
use Rattle.al_queue.specs.declared.grant.Grant.{Grant}

-- the locks that are held, oldest first; the requests that wait, in order, so that the queue of a table is made of those
-- for it; and what the last release or withdrawal granted
pub record Locks : Type 0 where
  pub held : List Grant
  pub waiting : List Grant
  pub granted : List Grant

-- these, and the number of sessions, which count from 0
pub record Kept : Type 0 where
  pub sessions : ℕ
  pub locks : Locks
