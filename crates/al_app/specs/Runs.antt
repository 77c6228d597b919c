-- What the driver did to the engine.
use Rattle.std.specs.Prelude.{◌≡◌, ℕ, drop, max, ◌/◌, ◌+◌, ◌<◌, ◌≤◌, ◌&&◌, Bool, true, false, List, [], ◌∷◌, ◌++◌, length, ◌⊎◌, cond, Option, Some, None, IsSome, is_some, flat_map, slice_get}
use Rattle.al_history.specs.declared.entry.Entry.TheVariants.{Give}
use Rattle.al_history.specs.declared.run.Setup.{Setup}
use Rattle.al_history.specs.declared.run.Setup.TheVariants as setups
use Rattle.al_history.specs.declared.run.Run.{Run}
use Rattle.al_spec.specs.declared.spec.Block.{Block}
use Rattle.al_spec.specs.declared.spec.Part.{Part}
use Rattle.al_spec.specs.declared.spec.Spec.{Spec}
use Rattle.al_history.specs.declared.statement.Scripts.{Scripts}
use Rattle.al_history.specs.declared.statement.Terms.{Terms}
use Rattle.al_history.specs.Past.{Past}
use Rattle.al_history.specs.Hand.{hand, closed}
use Rattle.al_history.specs.Whole.{is_setup, is_session_teardown, is_teardown, blocks_such, session_for, or_else, of_setup, failed_setup, sessions_from, file_sessions, all_sessions, Task, GiveSteps, CancelIfBusy, CloseSession, give_and_cancel, each_block, each_session, closes, next_move, left, AsDue, IsIdle, IsRun, Driven}
use Rattle.al_engine.specs.Ran.{Ran, IsLegalRun, places_left}
use Rattle.al_app.specs.declared.runs.Teardowns.{Teardowns}
use Rattle.al_app.specs.declared.runs.Teardowns.TheVariants as teardowns
use Rattle.al_app.specs.Scripts.{AreScripts}
use Rattle.al_spec.specs.Sound.{IsSound}

-- the most that the journal of a run may weigh: the runs of a spec share what a call may hold
abbrev pub journal_weight : Spec → ℕ
journal_weight spec = 8000000 / max 4 (length spec.permutations)

-- what each run of a spec is held to
abbrev pub terms_for : Spec → Scripts → Terms
terms_for spec scripts = record { scripts = scripts; weight = journal_weight spec }

-- a spec as files have it, and its blocks
pub record IsRunnable (spec : Spec) (scripts : Scripts) : Type 0 where
  pub sound : IsSound spec
  pub are_scripts : AreScripts spec scripts

-- ---- what is left to do

-- The driver did what was due, and these tasks are left; those without a move are done.
pub record HasLeft (spec : Spec) (steps : List ℕ) (past : Past) (tasks : List Task) : Type 0 where
  pub as_due : AsDue spec steps past
  pub comes_to : next_move spec past (left spec steps past) ≡ next_move spec past tasks

-- the tasks after a step of this block was or wasn't refused, None where it is of no setup block
abbrev pub left_when : Spec → Option ℕ → Bool → List Task → List Task
left_when spec part refused tasks = cond (refused && is_some part) (closes spec) tasks

-- the tasks of such blocks, from the block of this number on
abbrev pub tasks_from : Spec → (Part → Bool) → ℕ → List Task
tasks_from spec test number = flat_map (give_and_cancel spec) (blocks_such test number (drop number spec.blocks))

abbrev pub after_closes : Spec → List Task
after_closes spec = each_block spec is_teardown ++ (CloseSession 0 ∷ [])

abbrev pub after_teardowns : Spec → List Task
after_teardowns spec = each_session CloseSession (file_sessions spec) ++ after_closes spec

abbrev pub after_cancels : Spec → List Task
after_cancels spec = each_block spec is_session_teardown ++ after_teardowns spec

abbrev pub after_steps : Spec → List Task
after_steps spec = each_session CancelIfBusy (all_sessions spec) ++ after_cancels spec

-- all after the setup part
abbrev pub after_setup : Spec → List ℕ → List Task
after_setup spec steps = GiveSteps steps ∷ after_steps spec

-- ---- what calls of the driver do

-- the driver gave, cancelled and closed nothing
pub record IsQuietly (old new : Past) : Type 0 where
  pub as_due : (spec : Spec) (steps : List ℕ) → AsDue spec steps old → AsDue spec steps new
  pub closed_same : (s : ℕ) → closed new s ≡ closed old s

-- the steps in hand are all of this block of the setup part, or none is of the setup part
abbrev pub AreOfSetup : Spec → Option ℕ → Past → Type 0
AreOfSetup spec part past = (s : ℕ) → (hand past s ≡ None) ⊎ (of_setup spec (hand past s) ≡ part)

-- the setup block that has failed, after a step of it was or wasn't refused
abbrev pub failed_by : Option ℕ → Option ℕ → Bool → Option ℕ
failed_by failed part refused = cond refused (or_else failed part) failed

-- some step has come to its end
abbrev pub HasAnyEnded : Past → Past → Type 0
HasAnyEnded old new = (s : ℕ) × IsSome (hand old s) × (hand new s ≡ None)

-- what refusals, if any, make of the setup part and of what is left to do
pub record Refuses (old new : Past) (refused : Bool) : Type 0 where
  pub failed : (spec : Spec) (part : Option ℕ) → AreOfSetup spec part old → failed_setup spec new ≡ failed_by (failed_setup spec old) part refused
  pub left_is : (spec : Spec) (steps : List ℕ) (part : Option ℕ) → AreOfSetup spec part old → left spec steps new ≡ left_when spec part refused (left spec steps old)

-- Steps in hand went on, each turn that of the least session that could go on. It is told whether one was refused.
pub record WentOnInTurn (old new : Ran) (refused : Bool) : Type 0 where
  pub terms : new.terms ≡ old.terms
  pub legal : IsLegalRun old → IsLegalRun new
  pub in_turn : Driven old.terms old.past → Driven new.terms new.past
  pub quietly : IsQuietly old.past new.past
  pub hands : (s : ℕ) → (hand new.past s ≡ None) ⊎ (hand new.past s ≡ hand old.past s)
  pub any_ended : refused ≡ true → HasAnyEnded old.past new.past
  pub refuses : Refuses old.past new.past refused

-- one turn did so, and made what driving ends by smaller
pub record HasTurned (old new : Ran) (refused : Bool) : Type 0 where
  pub went : WentOnInTurn old new refused
  pub fewer : places_left new.past < places_left old.past

-- steps in hand went on until no session could
pub record IsDriven (old new : Ran) (refused : Bool) : Type 0 where
  pub went : WentOnInTurn old new refused
  pub idle : IsIdle new.past

-- nothing can go on: the journal is legal, and each entry came in its turn
pub record IsAtRest (ran : Ran) : Type 0 where
  pub legal : IsLegalRun ran
  pub in_turn : Driven ran.terms ran.past
  pub idle : IsIdle ran.past

abbrev pub with_given : Ran → ℕ → ℕ → Ran
with_given ran session block = record ran { past = Give session block ∷ ran.past }

-- a block was given to its session, which had no step in hand, and the run was driven
pub record HasRunBlock (old new : Ran) (session block : ℕ) (refused : Bool) : Type 0 where
  pub rest : IsAtRest new
  pub idle : hand old.past session ≡ None
  pub driven : WentOnInTurn (with_given old session block) new refused

-- the session's step in hand was cancelled, and the run was driven
pub record WasCancelled (old new : Ran) (session : ℕ) : Type 0 where
  pub rest : IsAtRest new
  pub terms : new.terms ≡ old.terms
  pub in_step : IsSome (hand old.past session)
  pub closed_same : (s : ℕ) → closed new.past s ≡ closed old.past s
  pub own : hand new.past session ≡ None
  pub hands : (s : ℕ) → (hand new.past s ≡ None) ⊎ (hand new.past s ≡ hand old.past s)
  pub failed : (spec : Spec) (part : Option ℕ) → AreOfSetup spec part old.past → failed_setup spec new.past ≡ or_else (failed_setup spec old.past) part
  pub goes_on : (spec : Spec) (steps : List ℕ) (part : Option ℕ) (tasks : List Task) → AreOfSetup spec part old.past → HasLeft spec steps old.past (CancelIfBusy session ∷ tasks) → HasLeft spec steps new.past (left_when spec part true tasks)

-- a session with no step in hand stays as it is
pub record IsLeft (old new : Ran) (session : ℕ) : Type 0 where
  pub same : new ≡ old
  pub none : hand old.past session ≡ None

abbrev pub CancelsIfBusy : Ran → Ran → ℕ → Bool → Type 0
CancelsIfBusy old new session true = WasCancelled old new session
CancelsIfBusy old new session false = IsLeft old new session

-- no session is busy
abbrev pub IsNoneBusy : Past → Type 0
IsNoneBusy past = (s : ℕ) → hand past s ≡ None

-- no session is closed
abbrev pub IsAnyOpen : Past → Type 0
IsAnyOpen past = (s : ℕ) → closed past s ≡ false

-- A block was given, while no session was busy, the run was driven, and the step was cancelled where it still waited. It is told
-- whether it was refused or cancelled.
pub record HasRunWhole (old new : Ran) (session block : ℕ) (failed : Bool) : Type 0 where
  pub rest : IsAtRest new
  pub terms : new.terms ≡ old.terms
  pub none_busy : IsNoneBusy new.past
  pub closed_same : (s : ℕ) → closed new.past s ≡ closed old.past s
  pub fails : (spec : Spec) → failed_setup spec new.past ≡ failed_by (failed_setup spec old.past) (of_setup spec (Some block)) failed
  pub goes_on : (spec : Spec) (steps : List ℕ) (tasks : List Task) → session_for spec block ≡ session → HasLeft spec steps old.past (give_and_cancel spec block ++ tasks) → HasLeft spec steps new.past (left_when spec (of_setup spec (Some block)) failed tasks)

-- ---- the setup part

-- the setup blocks among the first so many blocks have been given and have ended, and none was refused
pub record SetupSoFar (spec : Spec) (ran : Ran) (count : ℕ) : Type 0 where
  pub rest : IsAtRest ran
  pub none_busy : IsNoneBusy ran.past
  pub any_open : IsAnyOpen ran.past
  pub failed : failed_setup spec ran.past ≡ None
  pub has_left : (steps : List ℕ) → HasLeft spec steps ran.past (tasks_from spec is_setup count ++ after_setup spec steps)

-- the setup part has failed at this block, which was refused or cancelled
pub record SetupFailed (spec : Spec) (ran : Ran) (block : ℕ) : Type 0 where
  pub rest : IsAtRest ran
  pub none_busy : IsNoneBusy ran.past
  pub any_open : IsAnyOpen ran.past
  pub failed : failed_setup spec ran.past ≡ Some block
  pub has_left : (steps : List ℕ) → HasLeft spec steps ran.past (closes spec)

-- the setup part went on by the block of this number, or has failed there
abbrev pub SetupGoesOn : Spec → Ran → ℕ → Bool → Type 0
SetupGoesOn spec ran number false = SetupSoFar spec ran (number + 1)
SetupGoesOn spec ran number true = SetupFailed spec ran number

-- the setup part of a run
abbrev pub SetupRan : Spec → Ran → Setup → Type 0
SetupRan spec ran setups.Done = SetupSoFar spec ran (length spec.blocks)
SetupRan spec ran (setups.Failed block) = SetupFailed spec ran block

-- ---- the steps

-- a run after its setup part, which didn't fail: no step in hand is of a setup block
pub record InSteps (spec : Spec) (steps : List ℕ) (ran : Ran) (tasks : List Task) : Type 0 where
  pub rest : IsAtRest ran
  pub any_open : IsAnyOpen ran.past
  pub failed : failed_setup spec ran.past ≡ None
  pub plain : AreOfSetup spec None ran.past
  pub none_beyond : (s : ℕ) → length spec.sessions < s → hand ran.past s ≡ None
  pub has_left : HasLeft spec steps ran.past tasks

-- the first so many steps of the permutation have been given
abbrev pub StepsSoFar : Spec → List ℕ → Ran → ℕ → Type 0
StepsSoFar spec steps ran count = InSteps spec steps ran (GiveSteps (drop count steps) ∷ after_steps spec)

-- the list of steps has come to its end
abbrev pub StepsRan : Spec → List ℕ → Ran → Type 0
StepsRan spec steps ran = InSteps spec steps ran (after_steps spec)

-- ---- the end

-- busy sessions below this one were cancelled
pub record SessionsCancelled (old new : Ran) (end : ℕ) : Type 0 where
  pub rest : IsAtRest new
  pub terms : new.terms ≡ old.terms
  pub closed_same : (s : ℕ) → closed new.past s ≡ closed old.past s
  pub none_below : (s : ℕ) → s < end → hand new.past s ≡ None
  pub hands : (s : ℕ) → (hand new.past s ≡ None) ⊎ (hand new.past s ≡ hand old.past s)
  pub failed : (spec : Spec) → AreOfSetup spec None old.past → failed_setup spec new.past ≡ failed_setup spec old.past
  pub goes_on : (spec : Spec) (steps : List ℕ) (tasks : List Task) → AreOfSetup spec None old.past → HasLeft spec steps old.past (each_session CancelIfBusy (sessions_from 0 end) ++ tasks) → HasLeft spec steps new.past tasks

-- the blocks of teardowns of such a kind
abbrev pub is_of : Teardowns → Part → Bool
is_of teardowns.OfSessions = is_session_teardown
is_of teardowns.Main = is_teardown

-- the sessions of such teardown blocks are open
abbrev pub AreOpenFor : Spec → Teardowns → Past → Type 0
AreOpenFor spec which past = (number : ℕ) (block : Block) → slice_get spec.blocks number ≡ Some block → is_of which block.part ≡ true → closed past block.session ≡ false

-- such teardown blocks were given and have ended, and these tasks came to those
pub record TeardownsRan (spec : Spec) (old new : Ran) (before after : List Task) : Type 0 where
  pub rest : IsAtRest new
  pub terms : new.terms ≡ old.terms
  pub none_busy : IsNoneBusy new.past
  pub closed_same : (s : ℕ) → closed new.past s ≡ closed old.past s
  pub failed : failed_setup spec new.past ≡ failed_setup spec old.past
  pub goes_on : (steps : List ℕ) (tasks : List Task) → HasLeft spec steps old.past (before ++ tasks) → HasLeft spec steps new.past (after ++ tasks)

-- the sessions from the first on, up to and without the end, were closed
pub record SessionsClosed (old new : Ran) (first end : ℕ) : Type 0 where
  pub rest : IsAtRest new
  pub terms : new.terms ≡ old.terms
  pub none_busy : IsNoneBusy new.past
  pub closed_now : (s : ℕ) → first ≤ s → s < end → closed new.past s ≡ true
  pub closed_same : (s : ℕ) → (s < first) ⊎ (end ≤ s) → closed new.past s ≡ closed old.past s
  pub failed : (spec : Spec) → failed_setup spec new.past ≡ failed_setup spec old.past
  pub goes_on : (spec : Spec) (steps : List ℕ) (tasks : List Task) (count : ℕ) → first + count ≡ end → HasLeft spec steps old.past (each_session CloseSession (sessions_from first count) ++ tasks) → HasLeft spec steps new.past tasks

abbrev pub failed_block : Setup → Option ℕ
failed_block setups.Done = None
failed_block (setups.Failed block) = Some block

-- the run has come to its end
pub record IsEnded (spec : Spec) (ran : Ran) (steps : List ℕ) (setup : Setup) : Type 0 where
  pub rest : IsAtRest ran
  pub has_left : HasLeft spec steps ran.past []
  pub all_closed : (s : ℕ) → s ≤ length spec.sessions → closed ran.past s ≡ true
  pub failed : failed_setup spec ran.past ≡ failed_block setup

-- one run was made, and the blocks come back
pub record HasRunOne (spec : Spec) (scripts : Scripts) (number : ℕ) (steps : List ℕ) (run : Run) (back : Scripts) : Type 0 where
  pub is_run : IsRun spec (terms_for spec scripts) number steps run
  pub same : back ≡ scripts
