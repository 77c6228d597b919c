-- Where BEGIN, COMMIT or ROLLBACK can be done: its transaction is open, or has ended.
use Rattle.std.specs.Prelude.{◌≡◌, ℕ, ◌+◌, ◌<◌, ◌≤◌, ◌∷◌, Bool, true, false, cond, Option, Some, None, slice_get}
use Rattle.al_history.specs.declared.entry.Entry.TheVariants.{Done}
use Rattle.al_statements.specs.declared.reply.Reply.{Reply}
use Rattle.al_statements.specs.declared.reply.Reply.TheVariants as replies
use Rattle.al_statements.specs.declared.reply.Tag.TheVariants as tags
use Rattle.al_history.specs.declared.statement.Terms.{Terms}
use Rattle.al_history.specs.Past.{Past, past_of}
use Rattle.al_history.specs.Hand.{hand, dones, refused, xact_of, if_no_block, closed, block_state, block_after}
use Rattle.al_history.specs.Locks.{waiting, is_settled}
use Rattle.al_history.specs.Rules.{commit_tag}
use Rattle.al_history.specs.Legal.{MayCome}
use Rattle.al_history.specs.Whole.{driver, IsLeast}
use Rattle.al_history.proofs.Turns.{Tail}
use Rattle.al_engine.specs.declared.sessions.Session.{Session}
use Rattle.al_engine.specs.declared.sessions.Block.{Block}
use Rattle.al_engine.specs.LockTie.{asks}
use Rattle.al_engine.specs.Sessions.{IsCounted, state_of, light_of, stopped, onward}
use Rattle.al_engine.specs.Kept.{Parts, IsAmid}

-- what the session is doing by then: the transaction that is open is no implicit one once the statement is done
pub record IsLast (terms : Terms) (past : Past) (s : ℕ) (state : Session) (xact : Option ℕ) (reply : Reply) : Type 0 where
  pub block : ℕ
  pub busy : hand past s ≡ Some block
  pub hand_is : state.hand ≡ Some block
  pub dones_is : dones past s ≡ state.done
  pub counted : IsCounted terms block state.done state.left
  pub unrefused : refused past s ≡ false
  pub xact_is : xact_of past s ≡ xact
  pub block_is : block_state past s ≡ state_of state.block
  pub closed_is : closed past s ≡ state.closed
  pub none_left : state.left ≤ 1 → if_no_block (block_after reply (state_of state.block)) xact ≡ None

-- in the middle of a call that began at an old past, the statement can be done with this reply
pub record IsOver (terms : Terms) (m : Parts) (s used : ℕ) (t state : Session) (old : Past) (xact : Option ℕ) (reply : Reply) : Type 0 where
  pub amid : IsAmid terms m s used
  pub there : slice_get m.sessions s ≡ Some t
  pub like : t ≡ record state { wants = t.wants }
  pub is_last : IsLast terms (past_of m.journal) s state xact reply
  pub settled : is_settled (past_of m.journal) ≡ true
  pub unasked : asks s (waiting (past_of m.journal)) ≡ false
  pub comes : MayCome terms (past_of m.journal) (Done s reply)
  pub tail : Tail terms s old (Done s reply ∷ past_of m.journal) false (driver old) (IsLeast old s)
  pub its : (x : ℕ) → xact ≡ Some x → t.xact ≡ Some x
  pub fits : (block : Block) → light_of (stopped state xact block) + used + 2 ≤ light_of t
  pub fits_on : (block : Block) → 1 < state.left → light_of (onward state xact block) + used + 1 ≤ light_of t

-- COMMIT of a failed block rolls back
abbrev pub end_reply : Session → Bool → Reply
end_reply state commits = replies.Tag (cond commits (commit_tag (state_of state.block)) tags.Rollback) 0

-- the session has no open transaction any more, and COMMIT or ROLLBACK can be done
pub record IsEnded (terms : Terms) (m : Parts) (s : ℕ) (state : Session) (old : Past) (commits : Bool) : Type 0 where
  pub used : ℕ
  pub t : Session
  pub over : IsOver terms m s used t state old None (end_reply state commits)
