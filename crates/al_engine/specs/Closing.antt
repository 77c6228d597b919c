-- What a session that is being closed has left behind.
use Rattle.std.specs.Prelude.{◌≡◌, ℕ, List, ◌+◌, true, Some, None, slice_get}
use Rattle.al_history.specs.declared.entry.Entry.TheVariants.{Close}
use Rattle.al_spec.specs.declared.spec.Spec.{Spec}
use Rattle.al_history.specs.declared.statement.Terms.{Terms}
use Rattle.al_history.specs.Past.{past_of}
use Rattle.al_history.specs.Hand.{hand, xact_of, closed, block_state}
use Rattle.al_history.specs.Locks.{is_settled}
use Rattle.al_history.specs.Made.{Extends}
use Rattle.al_history.specs.Tail.{owed, Follows}
use Rattle.al_history.specs.Whole.{driver, failed_setup, left, Driven}
use Rattle.al_engine.specs.declared.sessions.Session.{Session}
use Rattle.al_engine.specs.Ran.{IsAborted}
use Rattle.al_engine.specs.Sessions.{state_of, light_of, of_xact}
use Rattle.al_engine.specs.Kept.{Parts, IsAmid}

-- The open transaction of an idle session has been aborted, where it has one, and the locks that this frees are got.
pub record HasLeft (terms : Terms) (p q : Parts) (s : ℕ) (t : Session) : Type 0 where
  pub after : Session
  pub there : slice_get q.sessions s ≡ Some after
  pub step_is : after ≡ record t { wants = after.wants }
  pub light_is : light_of after ≡ 1 + of_xact t.xact
  pub amid : IsAmid terms q s (of_xact t.xact)
  pub settled : is_settled (past_of q.journal) ≡ true
  pub follows : Follows (owed terms (past_of q.journal)) (Close s)
  pub is_aborted : IsAborted t.xact (past_of p.journal) (past_of q.journal)
  pub none_open : xact_of (past_of q.journal) s ≡ None
  pub block_is : block_state (past_of q.journal) s ≡ state_of t.block
  pub extends : Extends s (past_of p.journal) (past_of q.journal)
  pub hands : (r : ℕ) → hand (past_of q.journal) r ≡ hand (past_of p.journal) r
  pub closed_same : (r : ℕ) → closed (past_of q.journal) r ≡ closed (past_of p.journal) r
  pub driven_so : driver (past_of q.journal) ≡ driver (past_of p.journal)
  pub failed : (spec : Spec) → failed_setup spec (past_of q.journal) ≡ failed_setup spec (past_of p.journal)
  pub tasks : (spec : Spec) (steps : List ℕ) → left spec steps (past_of q.journal) ≡ left spec steps (past_of p.journal)
  pub in_turn : Driven terms (past_of p.journal) → Driven terms (past_of q.journal)
