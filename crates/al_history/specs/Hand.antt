-- What a session is doing: its step and its statement in hand, its transaction, its place, and what it has done (3.4).
use Rattle.std.specs.Prelude.{ℕ, List, [], ◌∷◌, ◌++◌, ◌+◌, ◌==◌, Bool, true, false, cond, length, Option, Some, None, slice_get, option_and_then, Result, Ok, Err}
use Rattle.al_history.specs.declared.entry.Entry.TheVariants.{Give, Start, Look, Make, Add, Read, Alter, Done, Refuse, Commit, Abort, End, Close}
use Rattle.al_statements.specs.declared.reply.Reply.{Reply}
use Rattle.al_statements.specs.declared.reply.Reply.TheVariants as replies
use Rattle.al_statements.specs.declared.reply.Tag.TheVariants as tags
use Rattle.al_history.specs.declared.statement.Statement.{Statement}
use Rattle.al_history.specs.declared.statement.ScriptBlock.{ScriptBlock}
use Rattle.al_statements.specs.declared.fault.SqlFault.{SqlFault}
use Rattle.al_history.specs.declared.statement.Terms.{Terms}
use Rattle.al_history.specs.Past.{Past}
use Rattle.al_history.specs.Fate.{is_that}

-- the block of the step in hand: the session's last Give, where no End of it stands after it
abbrev pub hand : Past → ℕ → Option ℕ
hand [] s = None
hand (Give r block ∷ past) s = cond (r == s) (Some block) (hand past s)
hand (End r ∷ past) s = cond (r == s) None (hand past s)
hand (e ∷ past) s = hand past s

-- how many statements of the step are done: the session's Dones since its last Give
abbrev pub dones : Past → ℕ → ℕ
dones [] s = 0
dones (Give r block ∷ past) s = cond (r == s) 0 (dones past s)
dones (Done r reply ∷ past) s = cond (r == s) (dones past s + 1) (dones past s)
dones (e ∷ past) s = dones past s

-- whether a statement of the step was refused
abbrev pub refused : Past → ℕ → Bool
refused [] s = false
refused (Give r block ∷ past) s = cond (r == s) false (refused past s)
refused (Refuse r cause ∷ past) s = cond (r == s) true (refused past s)
refused (e ∷ past) s = refused past s

-- the statement of a number in a script; a text that is no script has none
abbrev pub statement_in : Result (List Statement) SqlFault → ℕ → Option Statement
statement_in (Ok script) number = slice_get script number
statement_in (Err fault) number = None

-- the statement of a number in a block
abbrev pub statement_of : Terms → Option ℕ → ℕ → Option Statement
statement_of terms None number = None
statement_of terms (Some block) number = option_and_then (λ (b : ScriptBlock). statement_in b.script number) (slice_get terms.scripts.blocks block)

-- why a block's text is no script, where it is none
abbrev pub fault_in : Result (List Statement) SqlFault → Option SqlFault
fault_in (Ok script) = None
fault_in (Err fault) = Some fault

abbrev pub fault_of : Terms → Option ℕ → Option SqlFault
fault_of terms None = None
fault_of terms (Some block) = option_and_then (λ (b : ScriptBlock). fault_in b.script) (slice_get terms.scripts.blocks block)

-- the statement in hand: the one whose number in the block is the count of those done
abbrev pub in_hand : Terms → Past → ℕ → Option Statement
in_hand terms past s = statement_of terms (hand past s) (dones past s)

-- the session's open transaction, which is named by the place of its Start
abbrev pub xact_of : Past → ℕ → Option ℕ
xact_of [] s = None
xact_of (Start r level ∷ past) s = cond (r == s) (Some (length past)) (xact_of past s)
xact_of (Commit x ∷ past) s = cond (is_that (xact_of past s) x) None (xact_of past s)
xact_of (Abort x ∷ past) s = cond (is_that (xact_of past s) x) None (xact_of past s)
xact_of (e ∷ past) s = xact_of past s

-- the session of a transaction, 0 where there is no such transaction
abbrev pub session_of : Past → ℕ → ℕ
session_of [] x = 0
session_of (Start r level ∷ past) x = cond (length past == x) r (session_of past x)
session_of (e ∷ past) x = session_of past x

-- the place of the statement in hand: what stood before its Look
abbrev pub look_of : Past → ℕ → Option Past
look_of [] s = None
look_of (Give r block ∷ past) s = cond (r == s) None (look_of past s)
look_of (Done r reply ∷ past) s = cond (r == s) None (look_of past s)
look_of (Look x ∷ past) s = cond (is_that (xact_of past s) x) (Some past) (look_of past s)
look_of (e ∷ past) s = look_of past s

-- the places of what the statement in hand has done, oldest first
abbrev pub acts_of : Past → ℕ → List ℕ
acts_of [] s = []
acts_of (Give r block ∷ past) s = cond (r == s) [] (acts_of past s)
acts_of (Done r reply ∷ past) s = cond (r == s) [] (acts_of past s)
acts_of (Make x table name shape ∷ past) s = cond (is_that (xact_of past s) x) (acts_of past s ++ length past ∷ []) (acts_of past s)
acts_of (Add x table row ∷ past) s = cond (is_that (xact_of past s) x) (acts_of past s ++ length past ∷ []) (acts_of past s)
acts_of (Read x names rows ∷ past) s = cond (is_that (xact_of past s) x) (acts_of past s ++ length past ∷ []) (acts_of past s)
acts_of (Alter x table statement rewritten ∷ past) s = cond (is_that (xact_of past s) x) (acts_of past s ++ length past ∷ []) (acts_of past s)
acts_of (e ∷ past) s = acts_of past s

-- whether the session is closed
abbrev pub closed : Past → ℕ → Bool
closed [] s = false
closed (Close r ∷ past) s = cond (r == s) true (closed past s)
closed (e ∷ past) s = closed past s

-- A transaction block is none, open, or failed by a kept Refuse (3.4, and BEGIN, COMMIT, ROLLBACK in Part VI).
pub data BlockState : Type 0 where
  NoBlock : BlockState
  OpenBlock : BlockState
  FailedBlock : ℕ → BlockState

-- BEGIN opens a block, where none is
abbrev pub opened : BlockState → BlockState
opened NoBlock = OpenBlock
opened state = state

-- COMMIT and ROLLBACK end it
abbrev pub block_after : Reply → BlockState → BlockState
block_after (replies.Tag tags.Begin count) state = opened state
block_after (replies.Tag tags.Commit count) state = NoBlock
block_after (replies.Tag tags.Rollback count) state = NoBlock
block_after reply state = state

-- a refusal at this place fails an open block
abbrev pub failed_at : ℕ → BlockState → BlockState
failed_at place OpenBlock = FailedBlock place
failed_at place state = state

abbrev pub block_state : Past → ℕ → BlockState
block_state [] s = NoBlock
block_state (Done r reply ∷ past) s = cond (r == s) (block_after reply (block_state past s)) (block_state past s)
block_state (Refuse r cause ∷ past) s = cond (r == s) (failed_at (length past) (block_state past s)) (block_state past s)
block_state (e ∷ past) s = block_state past s

abbrev pub if_no_block : BlockState → Option ℕ → Option ℕ
if_no_block NoBlock x = x
if_no_block state x = None

-- the session's implicit transaction: the open one, where no block is
abbrev pub implicit_of : Past → ℕ → Option ℕ
implicit_of past s = if_no_block (block_state past s) (xact_of past s)
