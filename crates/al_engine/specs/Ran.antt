-- What contracts see of the engine: the blocks of its run and the journal so far; and what its calls do to these.
use Rattle.std.specs.Prelude.{◌≡◌, ℕ, ◌<◌, ◌≤◌, ◌+◌, ◌-◌, ◌^◌, ◌⊎◌, ◌&&◌, List, [], ◌++◌, Bool, cond, length, Option, Some, None, IsSome, is_some, ◌==◌, true, false, ◌∷◌}
use Rattle.std.specs.List.{AllByRecursion}
use Rattle.al_values.specs.declared.cant.Cant.{Cant}
use Rattle.al_values.specs.declared.cant.Cant.TheVariants as cants
use Rattle.al_statements.specs.declared.cause.Cause.TheVariants as causes
use Rattle.al_history.specs.declared.entry.Entry.TheVariants.{Refuse, Abort, Cancel, End, Close}
use Rattle.al_spec.specs.declared.spec.Spec.{Spec}
use Rattle.al_history.specs.declared.statement.Statement.{Statement}
use Rattle.al_history.specs.declared.statement.Statement.TheVariants as statements
use Rattle.al_history.specs.declared.statement.ScriptBlock.{ScriptBlock}
use Rattle.al_history.specs.declared.statement.Scripts.{Scripts}
use Rattle.al_history.specs.declared.statement.Terms.{Terms}
use Rattle.al_history.specs.Past.{Past}
use Rattle.al_history.specs.Hand.{hand, refused as told_refused, xact_of, closed}
use Rattle.al_history.specs.Locks.{is_grant}
use Rattle.al_history.specs.Waits.{is_blocked}
use Rattle.al_history.specs.Made.{Extends, row_entries}
use Rattle.al_history.specs.declared.entry.Entry.{Entry}
use Rattle.al_history.specs.Legal.{Legal}
use Rattle.al_history.specs.Whole.{driver, failed_setup, or_else, of_setup, Task, closes, next_move, left_by, left, IsIdle, IsLeast, Driven}
use Rattle.al_engine.specs.declared.told.Busy.{Busy}
use Rattle.al_engine.specs.Outcomes.{is_refused}
use Rattle.al_engine.specs.declared.told.Told.{Told}
use Rattle.al_engine.specs.declared.told.Told.TheVariants as tells

pub record Ran : Type 0 where
  pub terms : Terms
  pub past : Past

-- the journal is a legal history
abbrev pub IsLegalRun : Ran → Type 0
IsLegalRun ran = Legal ran.terms ran.past

-- each block is of one of the sessions
abbrev pub IsOfSession : ℕ → ScriptBlock → Type 0
IsOfSession sessions block = block.session < sessions

abbrev pub AreOfSessions : Scripts → Type 0
AreOfSessions scripts = AllByRecursion (IsOfSession scripts.sessions) scripts.blocks

-- How many entries the journal may still get: it has fewer than 2^32. Driving ends since each turn that goes on makes this smaller.
abbrev pub places_left : Past → ℕ
places_left past = 2 ^ 32 - length past

-- a step isn't given exactly where the session has one in hand; memory is wanting only where it has none
abbrev pub IsBusyFor : Ran → ℕ → Cant Busy → Type 0
IsBusyFor ran session (cants.Why busy) = IsSome (hand ran.past session)
IsBusyFor ran session cants.NoMemory = hand ran.past session ≡ None

-- the setup block that has failed, after the step in hand was or wasn't refused
abbrev pub failed_after : Spec → Option ℕ → Option ℕ → Bool → Option ℕ
failed_after spec failed block refused = cond refused (or_else failed (of_setup spec block)) failed

-- what the driver has left to do, after the step in hand of this block was or wasn't refused: the closes alone where it was of the
-- setup part
abbrev pub left_after : Spec → Option ℕ → Bool → List Task → List Task
left_after spec block refused tasks = cond (refused && is_some (of_setup spec block)) (closes spec) tasks

-- What a call does that goes on with a session's step, by itself or by cancelling it: the entries that it makes are of the
-- session, but for locks of requests that waited; and it tells whether the step was refused. Where the session's step has come
-- to its end it has none in hand any more.
pub record GoesOn (old new : Ran) (session : ℕ) (refused : Bool) : Type 0 where
  pub terms : new.terms ≡ old.terms
  pub in_step : IsSome (hand old.past session)
  pub extends : Extends session old.past new.past
  pub own : (hand new.past session ≡ None) ⊎ (hand new.past session ≡ hand old.past session)
  pub others : (s : ℕ) → (session == s) ≡ false → hand new.past s ≡ hand old.past s
  pub closed_same : (s : ℕ) → closed new.past s ≡ closed old.past s
  pub failed : (spec : Spec) → failed_setup spec new.past ≡ failed_after spec (failed_setup spec old.past) (hand old.past session) refused
  pub told : told_refused new.past session ≡ refused

-- A turn made the entries at these places, one of a row at most. A step that was refused has come to its end. What the driver did is as it was; where the session is the least that can go on, each
-- entry came in its turn.
pub record WentOn (old new : Ran) (session from to : ℕ) (refused : Bool) : Type 0 where
  pub goes_on : GoesOn old new session refused
  pub not_blocked : is_blocked old.past session ≡ false
  pub refused_ends : refused ≡ true → hand new.past session ≡ None
  pub from_is : from ≡ length old.past
  pub to_is : to ≡ length new.past
  pub fewer_left : places_left new.past < places_left old.past
  pub left_is : (spec : Spec) (steps : List ℕ) → left spec steps new.past ≡ left_after spec (hand old.past session) refused (left spec steps old.past)
  pub one_row : row_entries new.past ≤ row_entries old.past + 1
  pub driven : driver new.past ≡ driver old.past
  pub in_turn : IsLeast old.past session → Driven old.terms old.past → Driven new.terms new.past

-- a turn waits exactly where somebody blocks the session's step in hand
pub record IsWaitingTurn (old new : Ran) (session : ℕ) : Type 0 where
  pub same : new ≡ old
  pub in_step : IsSome (hand old.past session)
  pub blocked : is_blocked old.past session ≡ true

-- a turn is idle exactly where the session has no step in hand
pub record IsIdleTurn (old new : Ran) (session : ℕ) : Type 0 where
  pub same : new ≡ old
  pub none : hand old.past session ≡ None

abbrev pub IsTurned : Ran → Ran → ℕ → Told → Type 0
IsTurned old new session (tells.Went from to outcome) = WentOn old new session from to (is_refused outcome)
IsTurned old new session tells.Waits = IsWaitingTurn old new session
IsTurned old new session tells.Idle = IsIdleTurn old new session

abbrev pub aborted_by : Option ℕ → Past → Past
aborted_by None past = past
aborted_by (Some x) past = Abort x ∷ past

-- locks of requests that waited
abbrev pub AreGrants : List Entry → Past → Type 0
AreGrants [] past = Unit {0}
AreGrants (e ∷ entries) past = (is_grant (entries ++ past) e ≡ true) × AreGrants entries past

-- the Abort of a transaction, where one is open, and then the locks that it frees
pub record IsAborted (x : Option ℕ) (old new : Past) : Type 0 where
  pub grants : List Entry
  pub are_grants : AreGrants grants (aborted_by x old)
  pub is : new ≡ grants ++ aborted_by x old
  pub none_open : x ≡ None → grants ≡ []

-- The step in hand is cancelled: the Cancel, the Refuse, the Abort of an open transaction with the locks that it frees, and the
-- End. The driver has cancelled; where no session could go on, each entry came in its turn.
pub record IsCancelled (old new : Ran) (session : ℕ) : Type 0 where
  pub goes_on : GoesOn old new session true
  pub aborted : Past
  pub is_aborted : IsAborted (xact_of old.past session) (Refuse session (causes.Cancelled (length old.past)) ∷ Cancel session ∷ old.past) aborted
  pub is : new.past ≡ End session ∷ aborted
  pub ended : hand new.past session ≡ None
  pub driven : driver new.past ≡ driver old.past ++ Cancel session ∷ []
  pub left_is : (spec : Spec) (steps : List ℕ) → left spec steps new.past ≡ left_after spec (hand old.past session) true (left_by (next_move spec old.past (left spec steps old.past)))
  pub in_turn : IsIdle old.past → Driven old.terms old.past → Driven new.terms new.past

-- an idle session stays as it is
abbrev pub Cancels : Ran → Ran → ℕ → Option ℕ → Type 0
Cancels old new session None = new ≡ old
Cancels old new session (Some block) = IsCancelled old new session

-- The session is closed, after the Abort of its open transaction with the locks that it frees.
pub record IsClosed (old new : Ran) (session : ℕ) : Type 0 where
  pub terms : new.terms ≡ old.terms
  pub aborted : Past
  pub is_aborted : IsAborted (xact_of old.past session) old.past aborted
  pub is : new.past ≡ Close session ∷ aborted
  pub extends : Extends session old.past new.past
  pub hands : (s : ℕ) → hand new.past s ≡ hand old.past s
  pub closed_now : (s : ℕ) → closed new.past s ≡ cond (session == s) true (closed old.past s)
  pub failed : (spec : Spec) → failed_setup spec new.past ≡ failed_setup spec old.past
  pub driven : driver new.past ≡ driver old.past ++ Close session ∷ []
  pub left_is : (spec : Spec) (steps : List ℕ) → left spec steps new.past ≡ left_by (next_move spec old.past (left spec steps old.past))
  pub in_turn : Driven old.terms old.past → Driven new.terms new.past

-- whether a statement ends a block
abbrev pub ends_block : Option Statement → Bool
ends_block (Some statements.Commit) = true
ends_block (Some statements.Rollback) = true
ends_block statement = false

-- the session that is ready is the least that can go on, where one can
abbrev pub IsReady : Past → Option ℕ → Type 0
IsReady past None = IsIdle past
IsReady past (Some session) = IsLeast past session
