-- The list of sessions: the step in hand and the block state of each, and what is kept beside (3.4).
use Rattle.std.specs.Prelude.{◌≡◌, ℕ, nat_lt, cond, false, List, [], ◌∷◌, map, length, slice_get, slice_set, get_or, Option, Some, None, IsSome, Result, Ok, Err}
use Rattle.std.specs.Option.{option_map_or}
use Rattle.al_history.specs.declared.statement.Terms.{Terms}
use Rattle.al_history.specs.declared.statement.ScriptBlock.{ScriptBlock}
use Rattle.al_statements.specs.declared.fault.SqlFault.{SqlFault}
use Rattle.al_history.specs.declared.statement.Statement.{Statement}
use Rattle.al_sessions.specs.declared.block.Control.{Control}
use Rattle.al_sessions.specs.declared.block.Control.TheVariants.{Begins, EndsBlock}
use Rattle.al_sessions.specs.declared.block.BlockState.{BlockState}
use Rattle.al_sessions.specs.declared.block.BlockState.TheVariants as states
use Rattle.al_sessions.specs.declared.step.InStep.{InStep}
use Rattle.al_sessions.specs.declared.step.Progress.{Progress}
use Rattle.al_sessions.specs.declared.step.Next.{Next}
use Rattle.al_sessions.specs.declared.step.Next.TheVariants.{Idle, Run, Finish}
use Rattle.al_sessions.specs.declared.step.How.{How}
use Rattle.al_sessions.specs.declared.step.How.TheVariants.{Done, Refused}
use Rattle.al_sessions.specs.Blocks.{controls_of}
use Rattle.al_sessions.specs.Steps.{left_of, next_of}
use Rattle.al_engine.specs.declared.sessions.Block.{Block}
use Rattle.al_engine.specs.declared.sessions.Block.TheVariants as blocks
use Rattle.al_engine.specs.declared.sessions.Session.{Session}
use Rattle.al_engine.specs.declared.sessions.Beside.{Beside}
use Rattle.al_engine.specs.Sessions.{given, passed, stopped}

-- the sessions, and what the statements of the step in hand of each do to its block
pub record Listed : Type 0 where
  pub list : List Session
  pub controls : List (List Control)

abbrev pub nothing_beside : Beside
nothing_beside = record { block = 0; refuse = 0; xact = None; looked = false; wants = None; closed = false }

abbrev pub hand_in : Next → ℕ → Option ℕ
hand_in Idle block = None
hand_in (Run n) block = Some block
hand_in Finish block = Some block

abbrev pub done_in : Next → ℕ
done_in (Run n) = n
done_in Idle = 0
done_in Finish = 0

abbrev pub block_in : BlockState → ℕ → Block
block_in states.Outside refuse = blocks.Outside
block_in states.Open refuse = blocks.Open
block_in states.Failed refuse = blocks.Failed refuse

abbrev pub refuse_of : Block → ℕ → ℕ
refuse_of (blocks.Failed refuse) before = refuse
refuse_of block before = before

-- a session, by its step and its block, and by what is kept beside
abbrev pub joined : Progress → Beside → Session
joined p b = record {
  hand = hand_in (next_of p.step) b.block;
  done = done_in (next_of p.step);
  left = option_map_or left_of p.step 0;
  xact = b.xact;
  block = block_in p.state b.refuse;
  looked = b.looked;
  wants = b.wants;
  closed = b.closed;
}

abbrev pub all_joined : List Progress → List Beside → List Session
all_joined [] bs = []
all_joined (p ∷ ps) [] = []
all_joined (p ∷ ps) (b ∷ bs) = joined p b ∷ all_joined ps bs

abbrev pub controls_in : Progress → List Control
controls_in p = option_map_or (λ (step : InStep). step.controls) p.step []

abbrev pub listed : List Progress → List Beside → Listed
listed ps bs = record { list = all_joined ps bs; controls = map controls_in ps }

-- ---- the steps are of the blocks of the run

abbrev pub controls_by : Result (List Statement) SqlFault → List Control
controls_by (Ok script) = controls_of script
controls_by (Err fault) = []

abbrev pub controls_for : Option ScriptBlock → List Control
controls_for None = []
controls_for (Some block) = controls_by block.script

-- what the statements of a block do to a transaction block; a text that is no script has none
abbrev pub controls_at : Terms → ℕ → List Control
controls_at terms block = controls_for (slice_get terms.scripts.blocks block)

abbrev pub AreControlled : Terms → Listed → Type 0
AreControlled terms l = (s block : ℕ) (t : Session) → slice_get l.list s ≡ Some t → t.hand ≡ Some block → slice_get l.controls s ≡ Some (controls_at terms block)

-- and so they stay
abbrev pub KeepsControls : Listed → Listed → Type 0
KeepsControls old new = (terms : Terms) → AreControlled terms old → AreControlled terms new

-- ---- what becomes of a session

abbrev pub IsFree : Option Session → Type 0
IsFree None = ⊥
IsFree (Some t) = t.hand ≡ None

-- it has a step in hand, of which nothing is done
pub record IsGiven (old new : Listed) (s block : ℕ) (does : List Control) : Type 0 where
  pub list : (t : Session) → slice_get old.list s ≡ Some t → new.list ≡ slice_set old.list s (given t block (length does))
  pub controls : (terms : Terms) → does ≡ controls_at terms block → AreControlled terms old → AreControlled terms new

abbrev pub HasSameStep : Option Session → Session → Type 0
HasSameStep None state = ⊥
HasSameStep (Some t) state = t ≡ record state { xact = t.xact; looked = t.looked; wants = t.wants; closed = t.closed }

-- what the statement in hand does to the transaction block; a step without one does nothing
abbrev pub control_in : List Control → Session → Option Control
control_in controls t = cond (nat_lt 0 t.left) (slice_get controls t.done) None

abbrev pub moved_block : Option Control → Block → Block
moved_block (Some Begins) blocks.Outside = blocks.Open
moved_block (Some EndsBlock) block = blocks.Outside
moved_block control block = block

-- a refusal fails an open block
abbrev pub failed_block : ℕ → Block → Block
failed_block place blocks.Open = blocks.Failed place
failed_block place block = block

-- The statement in hand is done, and the step goes on or ends; or it is refused, which ends the step.
abbrev pub IsNext : How → List Control → Session → Session → Type 0
IsNext Done controls t state = state ≡ passed (record t { xact = state.xact; block = moved_block (control_in controls t) t.block })
IsNext Refused controls t state = (place : ℕ) × (state ≡ stopped t state.xact (failed_block place t.block))

abbrev pub IsAfterwards : How → List Control → Option Session → Session → Type 0
IsAfterwards how controls None state = ⊥
IsAfterwards how controls (Some t) state = IsSome t.hand × IsNext how controls t state

abbrev pub IsAfter : How → Listed → ℕ → Session → Type 0
IsAfter how old s state = IsAfterwards how (get_or old.controls s []) (slice_get old.list s) state
