-- What it takes to put a block into a session's hand.
use Rattle.std.specs.Prelude.{◌≡◌, ℕ, ◌+◌, ◌<◌, ◌^◌, max, ◌∷◌, None, length}
use Rattle.al_history.specs.declared.entry.Entry.TheVariants.{Give}
use Rattle.al_history.specs.declared.statement.Terms.{Terms}
use Rattle.al_engine.specs.declared.machine.Machine.{Machine}
use Rattle.al_engine.specs.Sessions.{light, of_step}
use Rattle.al_engine.specs.Listed.{AreControlled, IsGiven, controls_at}
use Rattle.al_engine.specs.Kept.{past_in}

-- The block is in the session's hand. There are places for what is owed to all sessions, to the locks that wait and to its step; and
-- no more than before where these sufficed.
pub record IsTakenUp (terms : Terms) (old new : Machine) (s block : ℕ) : Type 0 where
  pub past : past_in new ≡ Give s block ∷ past_in old
  pub given : IsGiven old.sessions new.sessions s block (controls_at terms block)
  pub controls : AreControlled terms old.sessions → AreControlled terms new.sessions
  pub few : length (controls_at terms block) < 2 ^ 32
  pub room : new.journal.room + 1 ≡ max old.journal.room (light old.sessions.list + length old.locks.locks.waiting + 1 + of_step None (length (controls_at terms block)))
  pub tables : new.tables.items ≡ old.tables.items
  pub locks : new.locks ≡ old.locks
  pub committed : new.committed.items ≡ old.committed.items
  pub weight : new.weight ≡ old.weight
