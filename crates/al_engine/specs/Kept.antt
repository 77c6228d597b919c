-- What the machine keeps true of its parts.
use Rattle.std.specs.Prelude.{◌≡◌, ℕ, ◌+◌, ◌<◌, ◌≤◌, false, List, ◌∷◌, length, slice_get, Bool, cond, nat_le, Option, Some, None, IsSome, ◌==◌, true}
use Rattle.al_history.specs.declared.statement.Terms.{Terms}
use Rattle.al_history.specs.Kept.{Kept}
use Rattle.al_history.specs.Past.{Past, past_of}
use Rattle.al_history.specs.Hand.{hand, dones, refused, xact_of, look_of, acts_of, block_state, block_after, closed, statement_of}
use Rattle.al_history.specs.Locks.{Claim, grantable, is_settled}
use Rattle.al_history.specs.Store.{store}
use Rattle.al_history.specs.Tail.{owed, Follows}
use Rattle.al_history.specs.Legal.{in_time, Legal}
use Rattle.al_history.proofs.Doings.{doing}
use Rattle.al_queue.specs.Locks.{Kept as KeptLocks}
use Rattle.al_queue.specs.Settled.{IsSettled}
use Rattle.al_engine.specs.declared.sessions.Session.{Session}
use Rattle.al_engine.specs.declared.stored.StoredTable.{StoredTable}
use Rattle.al_engine.specs.declared.machine.Machine.{Machine}
use Rattle.al_statements.specs.declared.cause.Cause.{Cause}
use Rattle.al_statements.specs.declared.cause.Cause.TheVariants as causes
use Rattle.al_statements.specs.declared.cause.RunLimit.TheVariants as limits
use Rattle.al_statements.specs.declared.reply.Reply.{Reply}
use Rattle.al_history.specs.declared.entry.Entry.TheVariants.{Refuse, End}
use Rattle.al_history.specs.Cause.{over, cause_of}
use Rattle.al_history.specs.Need.{lacking}
use Rattle.al_history.specs.Waits.{can_go_on}
use Rattle.al_history.specs.Weight.{weight}
use Rattle.al_history.specs.Rules.{Answers}
use Rattle.al_engine.specs.Ran.{IsAborted}
use Rattle.al_engine.specs.LockTie.{IsTied, WantsSo, OthersWant}
use Rattle.al_engine.specs.Sessions.{IsMirror, IsOutlined, IsCounted, state_of, light}
use Rattle.al_sessions.specs.declared.block.Control.{Control}
use Rattle.al_engine.specs.Listed.{Listed, AreControlled}
use Rattle.al_engine.specs.Stored.{all_kept, TellsCommitted}

-- The parts of a machine, as contracts see them.
pub record Parts : Type 0 where
  pub journal : Kept
  pub sessions : List Session
  pub controls : List (List Control)
  pub tables : List StoredTable
  pub locks : KeptLocks
  pub committed : List Bool
  pub weight : ℕ

abbrev pub parts_of : Machine → Parts
parts_of m = record { journal = m.journal; sessions = m.sessions.list; controls = m.sessions.controls; tables = m.tables.items; locks = m.locks; committed = m.committed.items; weight = m.weight }

abbrev pub listed_in : Parts → Listed
listed_in p = record { list = p.sessions; controls = p.controls }

abbrev pub past_in : Machine → Past
past_in m = past_of m.journal

-- The journal is legal so far, each step in hand is of its block, and each part but the records of the sessions is what it stands for; so many light entries more than
-- the sessions' records say have been used.
pub record IsSound (terms : Terms) (p : Parts) (used : ℕ) : Type 0 where
  pub legal : Legal terms (past_of p.journal)
  pub count : length p.sessions ≡ terms.scripts.sessions
  pub controlled : AreControlled terms (listed_in p)
  pub beyond : (r : ℕ) → length p.sessions ≤ r → hand (past_of p.journal) r ≡ None
  pub stored : all_kept p.tables ≡ store terms (past_of p.journal)
  pub tells : TellsCommitted (past_of p.journal) p.committed
  pub marked : (r x : ℕ) (t : Session) → slice_get p.sessions r ≡ Some t → t.xact ≡ Some x → x < length p.committed
  pub table_count : p.locks.sessions ≡ terms.scripts.sessions
  pub tied : IsTied (past_of p.journal) p.locks.locks
  pub queues : IsSettled p.locks.locks
  pub weighed : p.weight ≡ weight (past_of p.journal)
  pub reserved : light p.sessions + length p.locks.locks.waiting ≤ p.journal.room + used

-- In the middle of a call for the session s, also the records of the other sessions are what they stand for.
pub record IsAmid (terms : Terms) (p : Parts) (s used : ℕ) : Type 0 where
  pub sound : IsSound terms p used
  pub others_want : OthersWant s (past_of p.journal)
  pub others : (r : ℕ) (t : Session) → (s == r) ≡ false → slice_get p.sessions r ≡ Some t → IsMirror terms (doing (past_of p.journal) r) t

-- no statement is in its tail: nothing is owed, and no waiting request can be granted
pub record IsClear (terms : Terms) (past : Past) : Type 0 where
  pub owed_is : owed terms past ≡ None
  pub settled : is_settled past ≡ true

-- between two calls
pub record IsKept (terms : Terms) (p : Parts) : Type 0 where
  pub sound : IsSound terms p 0
  pub wants_so : WantsSo (past_of p.journal)
  pub mirrors : (r : ℕ) (t : Session) → slice_get p.sessions r ≡ Some t → IsMirror terms (doing (past_of p.journal) r) t
  pub clear : IsClear terms (past_of p.journal)

-- a call for which there was no memory: each part but the places that are reserved is as it was
pub record IsSame (old new : Parts) : Type 0 where
  pub journal : past_of new.journal ≡ past_of old.journal
  pub room : old.journal.room ≤ new.journal.room
  pub sessions : new.sessions ≡ old.sessions
  pub controls : new.controls ≡ old.controls
  pub tables : new.tables ≡ old.tables
  pub locks : new.locks ≡ old.locks
  pub committed : new.committed ≡ old.committed
  pub weight : new.weight ≡ old.weight

-- ---- how a statement goes on

-- an entry of this weight would bring what is noted so far above a limit
abbrev pub over_by : ℕ → ℕ → ℕ → Option Cause
over_by limit so_far next = cond (nat_le (so_far + next) limit) None (Some (causes.Limit limits.Journal (so_far + next)))

-- the statement in hand lacks this lock, and can ask for it, where the journal may weigh so much more
pub record Lacks (terms : Terms) (p : Parts) (s : ℕ) (t : Session) (x : ℕ) (c : Claim) : Type 0 where
  pub kept : IsKept terms p
  pub state : slice_get p.sessions s ≡ Some t
  pub goes : can_go_on (past_of p.journal) s ≡ true
  pub in_xact : t.xact ≡ Some x
  pub before_look : look_of (past_of p.journal) s ≡ None
  pub own : c.session ≡ s
  pub lacks : lacking terms (past_of p.journal) x ≡ Some c
  pub judged : cause_of terms (past_of p.journal) s ≡ over terms (past_of p.journal) (cond (grantable (past_of p.journal) c) 1 2)

-- ---- how a statement ends

-- the statement in hand has acted, or needs nothing more: it can be done with this reply, and its step and transaction go on by it
pub record CanBeDone (terms : Terms) (past : Past) (s : ℕ) (t : Session) (reply : Reply) : Type 0 where
  pub outline : IsOutlined (doing past s) (record t { wants = None })
  pub in_step : IsSome t.hand
  pub in_xact : IsSome t.xact
  pub dones_is : dones past s ≡ t.done
  pub counted : (block : ℕ) → t.hand ≡ Some block → IsCounted terms block t.done t.left
  pub none_refused : refused past s ≡ false
  pub answers : Answers (statement_of terms t.hand t.done) (acts_of past s) t.xact (state_of t.block) reply
  pub keeps_block : block_after reply (state_of t.block) ≡ state_of t.block
  pub goes : can_go_on past s ≡ true

-- how many light entries a refusal finds used: the Cancel, where the step was cancelled
abbrev pub used_by : Cause → ℕ
used_by (causes.Cancelled entry) = 1
used_by cause = 0

-- the statement in hand has to be refused for this cause
pub record CanBeRefused (terms : Terms) (past : Past) (s : ℕ) (t : Session) (cause : Cause) : Type 0 where
  pub hand_is : hand past s ≡ t.hand
  pub xact_is : xact_of past s ≡ t.xact
  pub block_is : block_state past s ≡ state_of t.block
  pub closed_is : closed past s ≡ t.closed
  pub in_step : IsSome t.hand
  pub first_true : cause_of terms past s ≡ Some cause
  pub settled : is_settled past ≡ true
  pub follows : Follows (owed terms past) (Refuse s cause)
  pub timely : in_time (owed terms past) past s ≡ true

-- the entries of a refusal: the Refuse, the Abort of an open transaction with the locks that it frees, and the End
pub record IsRefused (old new : Past) (s : ℕ) (x : Option ℕ) (cause : Cause) : Type 0 where
  pub aborted : Past
  pub is_aborted : IsAborted x (Refuse s cause ∷ old) aborted
  pub is : new ≡ End s ∷ aborted
