-- The journal of a whole run: what the driver gives and closes, and who goes on in between (src/test/isolation/README).
use Rattle.std.specs.Prelude.{◌≡◌, ℕ, zero, suc, List, [], ◌∷◌, ◌++◌, ◌+◌, ◌<◌, ◌≤◌, Bool, true, false, cond, length, Option, Some, None, is_some, slice_get, option_map, unwrap_or, option_and_then, map, flat_map}
use Rattle.al_history.specs.declared.entry.Entry.{Entry}
use Rattle.al_history.specs.declared.entry.Entry.TheVariants.{Give, Lock, Refuse, Abort, Cancel, Close}
use Rattle.al_spec.specs.declared.spec.Block.{Block}
use Rattle.al_spec.specs.declared.spec.Part.{Part}
use Rattle.al_spec.specs.declared.spec.Part.TheVariants as parts
use Rattle.al_spec.specs.declared.spec.Spec.{Spec}
use Rattle.al_history.specs.declared.statement.Terms.{Terms}
use Rattle.al_history.specs.declared.run.Setup.{Setup}
use Rattle.al_history.specs.declared.run.Setup.TheVariants as setups
use Rattle.al_history.specs.declared.run.Run.{Run}
use Rattle.al_history.specs.Past.{Past, past_of}
use Rattle.al_history.specs.Hand.{hand, session_of, closed}
use Rattle.al_history.specs.Made.{made_by}
use Rattle.al_history.specs.Tail.{owed}
use Rattle.al_history.specs.Waits.{can_go_on}
use Rattle.al_history.specs.Locks.{is_grant}
use Rattle.al_history.specs.Legal.{Unless, IsLegal, HoldAlways}

-- the driver's entries, oldest first: the blocks that it gives, the steps that it cancels and the sessions that it closes
abbrev pub driver : Past → List Entry
driver [] = []
driver (Give s block ∷ past) = driver past ++ Give s block ∷ []
driver (Cancel s ∷ past) = driver past ++ Cancel s ∷ []
driver (Close s ∷ past) = driver past ++ Close s ∷ []
driver (e ∷ past) = driver past

-- setup blocks before the sessions, and those of sessions
abbrev pub is_setup : Part → Bool
is_setup parts.Setup = true
is_setup parts.SessionSetup = true
is_setup part = false

abbrev pub is_session_teardown : Part → Bool
is_session_teardown parts.SessionTeardown = true
is_session_teardown part = false

abbrev pub is_teardown : Part → Bool
is_teardown parts.Teardown = true
is_teardown part = false

-- the numbers of the blocks of such a part, in the file's order, where the first block has this number
abbrev pub blocks_such : (Part → Bool) → ℕ → List Block → List ℕ
blocks_such test number [] = []
blocks_such test number (b ∷ blocks) = cond (test b.part) (number ∷ blocks_such test (number + 1) blocks) (blocks_such test (number + 1) blocks)

-- the session that a block is given to; the setup blocks and the teardown block before the sessions go to the control session, which
-- is session 0
abbrev pub session_for : Spec → ℕ → ℕ
session_for spec block = unwrap_or (option_map (λ (b : Block). b.session) (slice_get spec.blocks block)) 0

abbrev pub or_else : Option ℕ → Option ℕ → Option ℕ
or_else None other = other
or_else (Some block) other = Some block

-- the block, where it is one of the setup part
abbrev pub of_setup : Spec → Option ℕ → Option ℕ
of_setup spec None = None
of_setup spec (Some block) = option_and_then (λ (b : Block). cond (is_setup b.part) (Some block) None) (slice_get spec.blocks block)

-- the setup block of the first Refuse of one
abbrev pub failed_setup : Spec → Past → Option ℕ
failed_setup spec [] = None
failed_setup spec (Refuse s cause ∷ past) = or_else (failed_setup spec past) (of_setup spec (hand past s))
failed_setup spec (e ∷ past) = failed_setup spec past

abbrev pub setup_by : Option ℕ → Setup
setup_by None = setups.Done
setup_by (Some block) = setups.Failed block

-- ---- what the driver has to do

-- so many sessions from the first on, in ascending order
abbrev pub sessions_from : ℕ → ℕ → List ℕ
sessions_from first zero = []
sessions_from first (suc count) = first ∷ sessions_from (first + 1) count

-- the sessions of the file
abbrev pub file_sessions : Spec → List ℕ
file_sessions spec = sessions_from 1 (length spec.sessions)

-- with the control session
abbrev pub all_sessions : Spec → List ℕ
all_sessions spec = 0 ∷ file_sessions spec

-- A block is given; the steps of a permutation are, in order; a step that still waits is cancelled; a session is closed.
pub data Task : Type 0 where
  GiveBlock : ℕ → Task
  GiveSteps : List ℕ → Task
  CancelIfBusy : ℕ → Task
  CloseSession : ℕ → Task

-- a setup or teardown block is given, and cancelled where it still waits
abbrev pub give_and_cancel : Spec → ℕ → List Task
give_and_cancel spec block = GiveBlock block ∷ CancelIfBusy (session_for spec block) ∷ []

abbrev pub each_block : Spec → (Part → Bool) → List Task
each_block spec test = flat_map (give_and_cancel spec) (blocks_such test 0 spec.blocks)

abbrev pub each_session : (ℕ → Task) → List ℕ → List Task
each_session task sessions = map task sessions

-- All that the driver has to do for a permutation: the setup blocks in the file's order, the main ones and then those of the sessions;
-- the steps; the cancels of the sessions that are busy then; the teardown blocks of the sessions; the closes of the file's sessions;
-- the main teardown block, in the control session; and the close of that.
abbrev pub agenda : Spec → List ℕ → List Task
agenda spec steps =
    each_block spec is_setup
    ++ (GiveSteps steps ∷ each_session CancelIfBusy (all_sessions spec))
    ++ each_block spec is_session_teardown
    ++ each_session CloseSession (file_sessions spec)
    ++ each_block spec is_teardown
    ++ (CloseSession 0 ∷ [])

-- a setup part that fails ends the run: all sessions are closed, in ascending order
abbrev pub closes : Spec → List Task
closes spec = each_session CloseSession (all_sessions spec)

-- a session is busy where it has a step in hand
abbrev pub is_busy : Past → ℕ → Bool
is_busy past s = is_some (hand past s)

-- an entry of the driver, and what it has to do after it
pub record Move : Type 0 where
  pub entry : Entry
  pub then_left : List Task

-- The first move for a task, where there is one. A step for a busy session isn't given, and ends the steps.
abbrev pub move_for : Spec → Past → Task → List Task → Option Move
move_for spec past (GiveBlock block) tasks = Some (record { entry = Give (session_for spec block) block; then_left = tasks })
move_for spec past (GiveSteps []) tasks = None
move_for spec past (GiveSteps (step ∷ steps)) tasks = cond (is_busy past (session_for spec step)) None (Some (record { entry = Give (session_for spec step) step; then_left = GiveSteps steps ∷ tasks }))
move_for spec past (CancelIfBusy s) tasks = cond (is_busy past s) (Some (record { entry = Cancel s; then_left = tasks })) None
move_for spec past (CloseSession s) tasks = Some (record { entry = Close s; then_left = tasks })

abbrev pub or_move : Option Move → Option Move → Option Move
or_move None other = other
or_move (Some move) other = Some move

-- the first move for a list of tasks; a task without one is done
abbrev pub next_move : Spec → Past → List Task → Option Move
next_move spec past [] = None
next_move spec past (task ∷ tasks) = or_move (move_for spec past task tasks) (next_move spec past tasks)

abbrev pub left_by : Option Move → List Task
left_by None = []
left_by (Some move) = move.then_left

-- what is left to do after this past, from the agenda on: what each entry of the driver leaves, and the closes alone after a refusal
-- in the setup part
abbrev pub left : Spec → List ℕ → Past → List Task
left spec steps [] = agenda spec steps
left spec steps (Give s block ∷ past) = left_by (next_move spec past (left spec steps past))
left spec steps (Cancel s ∷ past) = left_by (next_move spec past (left spec steps past))
left spec steps (Close s ∷ past) = left_by (next_move spec past (left spec steps past))
left spec steps (Refuse s cause ∷ past) = cond (is_some (of_setup spec (hand past s))) (closes spec) (left spec steps past)
left spec steps (e ∷ past) = left spec steps past

-- the driver's next entry, None where all is done
abbrev pub due : Spec → List ℕ → Past → Option Entry
due spec steps past = option_map (λ (move : Move). move.entry) (next_move spec past (left spec steps past))

-- each entry of the driver was due at its place
abbrev pub AsDue : Spec → List ℕ → Past → Type 0
AsDue spec steps [] = Unit {0}
AsDue spec steps (Give s block ∷ past) = (due spec steps past ≡ Some (Give s block)) × AsDue spec steps past
AsDue spec steps (Cancel s ∷ past) = (due spec steps past ≡ Some (Cancel s)) × AsDue spec steps past
AsDue spec steps (Close s ∷ past) = (due spec steps past ≡ Some (Close s)) × AsDue spec steps past
AsDue spec steps (e ∷ past) = AsDue spec steps past

-- no session can go on
abbrev pub IsIdle : Past → Type 0
IsIdle past = (s : ℕ) → can_go_on past s ≡ false

-- the session is the least that can go on
abbrev pub IsLeast : Past → ℕ → Type 0
IsLeast past s = (can_go_on past s ≡ true) × ((r : ℕ) → r < s → can_go_on past r ≡ false)

abbrev pub IsTurn : Option Entry → Past → ℕ → Type 0
IsTurn (Some next) past s = Unit {0}
IsTurn None past s = IsLeast past s

-- the Abort of a session with no step in hand stands before its Close
abbrev pub if_in_step : Option ℕ → Type 0 → Type 0
if_in_step None turn = Unit {0}
if_in_step (Some block) turn = turn

-- a block is given, and a step cancelled, where no session can go on; what is no part of a statement's tail, and no lock of a
-- request that waits, is of the least that can
abbrev pub InTurn : Terms → Past → Entry → Type 0
InTurn terms past (Give s block) = IsIdle past
InTurn terms past (Cancel s) = IsIdle past
InTurn terms past (Close s) = Unit {0}
InTurn terms past (Lock x table mode) = Unless (is_grant past (Lock x table mode)) (IsTurn (owed terms past) past (session_of past x))
InTurn terms past (Abort x) = if_in_step (hand past (session_of past x)) (IsTurn (owed terms past) past (session_of past x))
InTurn terms past e = IsTurn (owed terms past) past (made_by past e)

abbrev pub Driven : Terms → Past → Type 0
Driven terms [] = Unit {0}
Driven terms (e ∷ past) = InTurn terms past e × Driven terms past

-- Each entry of the driver was due, each entry came in its turn, and the driver has nothing left to do: every session is closed.
-- So each statement that was given is done or refused once, or stands after a refusal in its step.
pub record IsWhole (spec : Spec) (terms : Terms) (steps : List ℕ) (past : Past) : Type 0 where
  pub as_due : AsDue spec steps past
  pub in_turn : Driven terms past
  pub all_done : due spec steps past ≡ None
  pub all_closed : (s : ℕ) → s ≤ length spec.sessions → closed past s ≡ true

-- the run of the permutation of this number: its journal is legal and whole, each valid constraint holds throughout, and
-- the outcome of its setup part is what its journal says
pub record IsRun (spec : Spec) (terms : Terms) (number : ℕ) (steps : List ℕ) (run : Run) : Type 0 where
  pub permutation : run.permutation ≡ number
  pub legal : IsLegal terms run.history.entries
  pub whole : IsWhole spec terms steps (past_of run.history)
  pub holding : HoldAlways terms (past_of run.history)
  pub setup : run.setup ≡ setup_by (failed_setup spec (past_of run.history))

-- one run for each permutation, in order; they count from this number
abbrev pub AreRunsFrom : Spec → Terms → ℕ → List (List ℕ) → List Run → Type 0
AreRunsFrom spec terms number [] [] = Unit {0}
AreRunsFrom spec terms number (steps ∷ permutations) (run ∷ runs) = IsRun spec terms number steps run × AreRunsFrom spec terms (number + 1) permutations runs
AreRunsFrom spec terms number permutations runs = ⊥

-- the runs of a spec, whose permutations count from 1
abbrev pub AreRuns : Spec → Terms → List Run → Type 0
AreRuns spec terms runs = AreRunsFrom spec terms 1 spec.permutations runs
