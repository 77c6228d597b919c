-- What is kept of the sessions, and what it stands for.
use Rattle.std.specs.Prelude.{◌≡◌, ℕ, ◌+◌, ◌-◌, ◌*◌, ◌^◌, max, length, Result, Ok, Err, ◌<◌, ◌&&◌, Bool, true, false, not, cond, nat_lt, List, [], ◌∷◌, map, slice_get, slice_set, Option, Some, None, is_some, option_and_then, unwrap_or}
use Rattle.std.specs.List.{list_any}
use Rattle.al_history.specs.declared.entry.Want.{Want}
use Rattle.al_history.specs.declared.entry.Want.TheVariants as wants
use Rattle.al_history.specs.declared.statement.Terms.{Terms}
use Rattle.al_history.specs.declared.statement.ScriptBlock.{ScriptBlock}
use Rattle.al_statements.specs.declared.fault.SqlFault.{SqlFault}
use Rattle.al_history.specs.declared.statement.Statement.{Statement}
use Rattle.al_history.specs.declared.statement.Statement.TheVariants as statements
use Rattle.al_history.specs.Fate.{is_that}
use Rattle.al_history.specs.Hand.{BlockState, NoBlock, OpenBlock, FailedBlock, statement_of}
use Rattle.al_history.proofs.Doings.{Doing}
use Rattle.al_queue.specs.declared.grant.Grant.{Grant}
use Rattle.al_engine.specs.declared.sessions.Block.{Block}
use Rattle.al_engine.specs.declared.sessions.Block.TheVariants as blocks
use Rattle.al_engine.specs.declared.sessions.Session.{Session}

-- an open session without a step in hand
abbrev pub idle_session : Session
idle_session = record { hand = None; done = 0; left = 0; xact = None; block = blocks.Outside; looked = false; wants = None; closed = false }

abbrev pub state_of : Block → BlockState
state_of blocks.Outside = NoBlock
state_of blocks.Open = OpenBlock
state_of (blocks.Failed refuse) = FailedBlock refuse

-- a CREATE TABLE
abbrev pub MakesTable : Option Statement → Type 0
MakesTable (Some (statements.CreateTable name columns)) = Unit {0}
MakesTable statement = ⊥

-- how many statements a block's script has; a text that is no script has none
abbrev pub length_in : Result (List Statement) SqlFault → ℕ
length_in (Ok script) = length script
length_in (Err fault) = 0

abbrev pub length_at : Option ScriptBlock → ℕ
length_at None = 0
length_at (Some block) = length_in block.script

abbrev pub script_length : Terms → ℕ → ℕ
script_length terms block = length_at (slice_get terms.scripts.blocks block)

-- so many statements of the block are done, and so many aren't; only an empty script has none left
pub record IsCounted (terms : Terms) (block done left : ℕ) : Type 0 where
  pub all : done + left ≡ script_length terms block
  pub few : done + left < 2 ^ 32
  pub some : left ≡ 0 → done ≡ 0

-- A session's step in hand is under way: so many statements of its block are done, and its statement in hand has done nothing yet.
-- Between two calls only a CREATE TABLE has looked: it waits.
pub record IsUnderway (terms : Terms) (d : Doing) (block done left : ℕ) (looked : Bool) : Type 0 where
  pub dones_is : d.dones ≡ done
  pub counted : IsCounted terms block done left
  pub none_refused : d.refused ≡ false
  pub no_acts : d.acts ≡ []
  pub look_is : is_some d.look ≡ looked
  pub only_creates : looked ≡ true → MakesTable (statement_of terms (Some block) done)

-- what a session is doing by the journal, but for its step, is what is kept of it
pub record IsOutlined (d : Doing) (t : Session) : Type 0 where
  pub hand_is : d.hand ≡ t.hand
  pub xact_is : d.xact ≡ t.xact
  pub block_is : d.block ≡ state_of t.block
  pub closed_is : d.closed ≡ t.closed
  pub wants_is : d.wants ≡ t.wants

-- what a session is doing by the journal is what is kept of it
pub record IsMirror (terms : Terms) (d : Doing) (t : Session) : Type 0 where
  pub outline : IsOutlined d t
  pub underway : (block : ℕ) → t.hand ≡ Some block → IsUnderway terms d block t.done t.left t.looked

-- what is kept of a session that is given a block of so many statements
abbrev pub given : Session → ℕ → ℕ → Session
given t block statements = record t { hand = Some block; done = 0; left = statements; looked = false; wants = None }

-- what is kept of it after its step
abbrev pub stopped : Session → Option ℕ → Block → Session
stopped state xact block = record { hand = None; done = 0; left = 0; xact = xact; block = block; looked = false; wants = None; closed = state.closed }

-- what is kept of it where its step goes on with the next statement
abbrev pub onward : Session → Option ℕ → Block → Session
onward state xact block = record { hand = state.hand; done = state.done + 1; left = state.left - 1; xact = xact; block = block; looked = false; wants = None; closed = state.closed }

-- what is kept of a session whose statement is done: its step goes on with the next one, or ends
abbrev pub passed : Session → Session
passed state = cond (nat_lt 1 state.left) (onward state state.xact state.block) (stopped state state.xact state.block)

-- the open transaction of a session
abbrev pub xact_in : List Session → ℕ → ℕ
xact_in sessions s = unwrap_or (option_and_then (λ (t : Session). t.xact) (slice_get sessions s)) 0

-- the open transactions of the sessions
abbrev pub xacts_in : List Session → List (Option ℕ)
xacts_in sessions = map (λ (t : Session). t.xact) sessions

-- ---- who can go on

-- whether one of the sessions has the transaction open
abbrev pub is_open_in : List Session → ℕ → Bool
is_open_in sessions x = list_any (λ (t : Session). is_that t.xact x) sessions

-- Whether somebody holds up what is wanted: a lock is always held up while it is waited for, since it is granted as soon as it can
-- be; the end of a transaction while one of the sessions has it open.
abbrev pub is_held_up : List Session → Option Want → Bool
is_held_up sessions None = false
is_held_up sessions (Some (wants.Table table mode)) = true
is_held_up sessions (Some (wants.Ends x)) = is_open_in sessions x

-- a session has a step in hand, and nobody holds it up
abbrev pub can_go : List Session → Session → Bool
can_go sessions t = is_some t.hand && not (is_held_up sessions t.wants)

-- none of the first so many can go on
abbrev pub AreStuck : List Session → ℕ → Type 0
AreStuck sessions count = (s : ℕ) (t : Session) → s < count → slice_get sessions s ≡ Some t → can_go sessions t ≡ false

-- the session at this place is the first that can go on
pub record IsFirstReady (sessions : List Session) (at : ℕ) : Type 0 where
  pub session : Session
  pub there : slice_get sessions at ≡ Some session
  pub goes : can_go sessions session ≡ true
  pub before : AreStuck sessions at

-- ---- light entries

-- How many entries are reserved for a session: its Close; the end of its open transaction; and for its step in hand a Cancel, the
-- End, and for each statement that is left the Start and the end of a transaction and the Refuse or Done, but for a transaction
-- that is open already. A step without a statement may be cancelled or refused too.
abbrev pub of_xact : Option ℕ → ℕ
of_xact None = 0
of_xact (Some x) = 1

abbrev pub of_step : Option ℕ → ℕ → ℕ
of_step None left = max 3 (3 * left + 2)
of_step (Some x) left = max 3 (3 * left)

abbrev pub of_hand : Option ℕ → Option ℕ → ℕ → ℕ
of_hand None xact left = 0
of_hand (Some block) xact left = of_step xact left

abbrev pub light_of : Session → ℕ
light_of t = cond t.closed 0 1 + (of_xact t.xact + of_hand t.hand t.xact t.left)

abbrev pub light : List Session → ℕ
light [] = 0
light (t ∷ sessions) = light_of t + light sessions

-- a session waits no more
abbrev pub waked : List Session → ℕ → Option Session → List Session
waked sessions s None = sessions
waked sessions s (Some t) = slice_set sessions s (record t { wants = None })

abbrev pub wakened : ℕ → List Session → List Session
wakened s sessions = waked sessions s (slice_get sessions s)

-- the session of this request waits no more
abbrev pub IsWakened : Option Grant → List Session → List Session → Type 0
IsWakened None old new = ⊥
IsWakened (Some grant) old new = new ≡ wakened grant.session old

-- the sessions of these requests wait no more
abbrev pub woken : List Grant → List Session → List Session
woken [] sessions = sessions
woken (grant ∷ grants) sessions = woken grants (wakened grant.session sessions)
