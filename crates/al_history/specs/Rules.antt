-- When an entry may stand after a past. Each rule is a record of what it asks.
use Rattle.std.specs.Prelude.{◌≡◌, ℕ, List, [], ◌∷◌, Bool, true, false, length, Option, Some, None, IsSome, slice_get, option_map, option_and_then, ◌⊎◌, ◌<◌, ◌≤◌}
use Rattle.al_values.specs.declared.scalar.Value.{Value}
use Rattle.al_modes.specs.declared.level.Level.{Level}
use Rattle.al_modes.specs.declared.mode.Mode.{Mode}
use Rattle.al_modes.specs.declared.level.Level.TheVariants as levels
use Rattle.al_statements.specs.declared.reply.Tag.{Tag}
use Rattle.al_statements.specs.declared.reply.Tag.TheVariants as tags
use Rattle.al_statements.specs.declared.reply.Reply.{Reply}
use Rattle.al_statements.specs.declared.reply.Reply.TheVariants as replies
use Rattle.al_statements.specs.declared.cause.Cause.{Cause}
use Rattle.al_history.specs.declared.entry.Rewritten.{Rewritten}
use Rattle.al_history.specs.declared.entry.Entry.{Entry}
use Rattle.al_history.specs.declared.entry.Want.{Want}
use Rattle.al_history.specs.declared.entry.Want.TheVariants as wants
use Rattle.al_history.specs.declared.entry.Entry.TheVariants.{Give, Start, Wait, Lock, Look, Make, Add, Read, Alter, Done, Refuse, Commit, Abort, Cancel, End, Close}
use Rattle.al_history.specs.declared.statement.Column.{Column}
use Rattle.al_history.specs.declared.statement.ScriptBlock.{ScriptBlock}
use Rattle.al_history.specs.declared.statement.Statement.{Statement}
use Rattle.al_history.specs.declared.statement.Statement.TheVariants as statements
use Rattle.al_history.specs.declared.statement.Terms.{Terms}
use Rattle.al_history.specs.Past.{Past}
use Rattle.al_history.specs.Database.{Table, Database, named}
use Rattle.al_history.specs.Hand.{hand, fault_of, dones, refused, in_hand, xact_of, implicit_of, session_of, look_of, acts_of, closed, BlockState, FailedBlock, block_state}
use Rattle.al_history.specs.Query.{column_names, answer}
use Rattle.al_history.specs.Change.{shape_of, filled, alteration, altered, Passes}
use Rattle.al_history.specs.View.{latest}
use Rattle.al_history.specs.Locks.{Claim, claim, grantable, is_waiting}
use Rattle.al_history.specs.Waits.{can_go_on}
use Rattle.al_history.specs.Need.{has_place, lacking, makers, first_open, name_taker}
use Rattle.al_history.specs.Cause.{cause_of}

-- a block is given to its session, which isn't closed and has no step in hand
pub record GiveRule (terms : Terms) (past : Past) (s block : ℕ) : Type 0 where
  pub known : s < terms.scripts.sessions
  pub of_session : option_map (λ (b : ScriptBlock). b.session) (slice_get terms.scripts.blocks block) ≡ Some s
  pub not_closed : closed past s ≡ false
  pub idle : hand past s ≡ None

-- whether a statement needs a transaction: in a failed block none does, and COMMIT and ROLLBACK need none
abbrev pub starts : BlockState → Statement → Bool
starts (FailedBlock refuse) statement = false
starts state statements.Commit = false
starts state statements.Rollback = false
starts state statement = true

-- a transaction begins for a statement in hand that needs one, where none is open, READ COMMITTED
pub record StartRule (terms : Terms) (past : Past) (s : ℕ) (level : Level) : Type 0 where
  pub statement : option_map (starts (block_state past s)) (in_hand terms past s) ≡ Some true
  pub none_open : xact_of past s ≡ None
  pub read_committed : level ≡ levels.ReadCommitted

-- A statement waits where nobody holds it up yet: before its Look for the first lock that it lacks, where this can't be
-- granted, and after it for the end of the open transaction that is in the way of its new table's name.
abbrev pub WaitsFor : Terms → Past → ℕ → Want → Option Past → Type 0
WaitsFor terms past x (wants.Table table mode) look =
    (look ≡ None) × (lacking terms past x ≡ Some (claim past x table mode)) × (grantable past (claim past x table mode) ≡ false)
WaitsFor terms past x (wants.Ends y) look = IsSome look × (option_and_then (name_taker past x) (in_hand terms past (session_of past x)) ≡ Some y) × (acts_of past (session_of past x) ≡ [])

pub record WaitRule (terms : Terms) (past : Past) (x : ℕ) (want : Want) : Type 0 where
  pub open_xact : xact_of past (session_of past x) ≡ Some x
  pub in_step : can_go_on past (session_of past x) ≡ true
  pub waits_for : WaitsFor terms past x want (look_of past (session_of past x))
  pub not_refused : cause_of terms past (session_of past x) ≡ None

-- a lock is got that can be granted: the one that the transaction waits for, or the first that its statement lacks before its
-- Look
pub record LacksLock (terms : Terms) (past : Past) (x : ℕ) (request : Claim) : Type 0 where
  pub not_waiting : is_waiting past request ≡ false
  pub lacks : lacking terms past x ≡ Some request
  pub before_look : look_of past (session_of past x) ≡ None
  pub not_refused : cause_of terms past (session_of past x) ≡ None

-- granted locks come by ascending table number
abbrev pub Ascends : Past → ℕ → Type 0
Ascends (Lock y before mode ∷ past) table = before ≤ table
Ascends past table = Unit {0}

pub record WaitsForLock (past : Past) (request : Claim) : Type 0 where
  pub waits : is_waiting past request ≡ true
  pub ascends : Ascends past request.table

pub record LockRule (terms : Terms) (past : Past) (x table : ℕ) (mode : Mode) : Type 0 where
  pub open_xact : xact_of past (session_of past x) ≡ Some x
  pub can_be : grantable past (claim past x table mode) ≡ true
  pub asked : WaitsForLock past (claim past x table mode) ⊎ LacksLock terms past x (claim past x table mode)

-- the statement in hand of an open transaction gets its place, once, where the table that it uses is there and its locks are
-- held
pub record LookRule (terms : Terms) (past : Past) (x : ℕ) : Type 0 where
  pub open_xact : xact_of past (session_of past x) ≡ Some x
  pub statement : option_map has_place (in_hand terms past (session_of past x)) ≡ Some true
  pub first : look_of past (session_of past x) ≡ None
  pub locked : lacking terms past x ≡ None
  pub not_refused : cause_of terms past (session_of past x) ≡ None

-- what the statement does is of an open transaction that has looked and holds its locks, comes first, and no cause of refusal
-- is true
pub record ActRule (terms : Terms) (past : Past) (x : ℕ) : Type 0 where
  pub open_xact : xact_of past (session_of past x) ≡ Some x
  pub looked : IsSome (look_of past (session_of past x))
  pub first : acts_of past (session_of past x) ≡ []
  pub locked : lacking terms past x ≡ None
  pub not_refused : cause_of terms past (session_of past x) ≡ None

-- the database at the statement's Look, for its transaction
abbrev pub looked_at : Terms → Option Past → ℕ → Database
looked_at terms None x = []
looked_at terms (Some look) x = latest terms look x

-- CREATE TABLE makes a table of its name and columns
abbrev pub Creates : Option Statement → List ℕ → List Column → Type 0
Creates (Some (statements.CreateTable table columns)) name shape = (name ≡ table) × (shape ≡ shape_of columns)
Creates statement name shape = ⊥

pub record MakeRule (terms : Terms) (past : Past) (x table : ℕ) (name : List ℕ) (shape : List Column) : Type 0 where
  pub act : ActRule terms past x
  pub free : first_open past x (makers past name) ≡ None
  pub creates : Creates (in_hand terms past (session_of past x)) name shape
  pub number : table ≡ length past

-- INSERT adds its row, with the defaults of the columns that it has no value for
abbrev pub IsFilled : Option Table → List Value → ℕ → List Value → Type 0
IsFilled None written table row = ⊥
IsFilled (Some t) written table row = (table ≡ t.number) × (row ≡ filled t.columns written)

abbrev pub Inserts : Option Statement → Database → ℕ → List Value → Type 0
Inserts (Some (statements.Insert name written)) db table row = IsFilled (named db name) written table row
Inserts statement db table row = ⊥

pub record AddRule (terms : Terms) (past : Past) (x table : ℕ) (row : List Value) : Type 0 where
  pub act : ActRule terms past x
  pub inserts : Inserts (in_hand terms past (session_of past x)) (latest terms past x) table row

-- SELECT reads the names of the columns and all rows, as at its Look
abbrev pub IsAnswer : Option Table → List (List ℕ) → List (List Value) → Type 0
IsAnswer None names rows = ⊥
IsAnswer (Some t) names rows = (names ≡ column_names t) × (rows ≡ answer t)

abbrev pub Selects : Option Statement → Database → List (List ℕ) → List (List Value) → Type 0
Selects (Some (statements.Select name)) db names rows = IsAnswer (named db name) names rows
Selects statement db names rows = ⊥

pub record ReadRule (terms : Terms) (past : Past) (x : ℕ) (names : List (List ℕ)) (rows : List (List Value)) : Type 0 where
  pub act : ActRule terms past x
  pub selects : Selects (in_hand terms past (session_of past x)) (looked_at terms (look_of past (session_of past x)) x) names rows

-- ALTER TABLE alters the table of its name, where its shape isn't refused and its tests hold; adding a column rewrites no
-- table
abbrev pub IsAltered : Option Table → Column → Database → ℕ → Type 0
IsAltered None column db table = ⊥
IsAltered (Some t) column db table = (table ≡ t.number) × Passes (alteration column t) (altered (Some (statements.AddColumn t.name column)) table db)

abbrev pub Alters : Option Statement → Database → ℕ → Type 0
Alters (Some (statements.AddColumn name column)) db table = IsAltered (named db name) column db table
Alters statement db table = ⊥

pub record AlterRule (terms : Terms) (past : Past) (x table statement : ℕ) (rewritten : List Rewritten) : Type 0 where
  pub act : ActRule terms past x
  pub alters : Alters (in_hand terms past (session_of past x)) (latest terms past x) table
  pub number : statement ≡ dones past (session_of past x)
  pub none_rewritten : rewritten ≡ []

-- COMMIT of a failed block rolls back
abbrev pub commit_tag : BlockState → Tag
commit_tag (FailedBlock refuse) = tags.Rollback
commit_tag state = tags.Commit

-- A statement is done once it has acted, with its tag and the count of its rows, or with the place of its Read. BEGIN is
-- done where a transaction is open, COMMIT and ROLLBACK where none is any more.
abbrev pub Answers : Option Statement → List ℕ → Option ℕ → BlockState → Reply → Type 0
Answers (Some statements.Begin) [] (Some x) state reply = reply ≡ replies.Tag tags.Begin 0
Answers (Some statements.Commit) [] None state reply = reply ≡ replies.Tag (commit_tag state) 0
Answers (Some statements.Rollback) [] None state reply = reply ≡ replies.Tag tags.Rollback 0
Answers (Some (statements.CreateTable name columns)) (act ∷ []) x state reply = reply ≡ replies.Tag tags.CreateTable 0
Answers (Some (statements.Insert name written)) (act ∷ []) x state reply = reply ≡ replies.Tag tags.Insert 1
Answers (Some (statements.Select name)) (act ∷ []) x state reply = reply ≡ replies.Rows act
Answers (Some (statements.AddColumn name column)) (act ∷ []) x state reply = reply ≡ replies.Tag tags.AlterTable 0
Answers statement acts x state reply = ⊥

pub record DoneRule (terms : Terms) (past : Past) (s : ℕ) (reply : Reply) : Type 0 where
  pub answers : Answers (in_hand terms past s) (acts_of past s) (xact_of past s) (block_state past s) reply

-- a statement is refused for the first cause that is true
pub record RefuseRule (terms : Terms) (past : Past) (s : ℕ) (cause : Cause) : Type 0 where
  pub first_true : cause_of terms past s ≡ Some cause

-- an implicit transaction commits with its step, once each statement is done; COMMIT commits the open one
pub record CommitRule (terms : Terms) (past : Past) (x : ℕ) : Type 0 where
  pub open_xact : xact_of past (session_of past x) ≡ Some x
  pub in_step : IsSome (hand past (session_of past x))
  pub none_refused : refused past (session_of past x) ≡ false
  pub ends : ((in_hand terms past (session_of past x) ≡ None) × (implicit_of past (session_of past x) ≡ Some x)) ⊎ (in_hand terms past (session_of past x) ≡ Some statements.Commit)

-- a transaction aborts after a refusal, by ROLLBACK, or before its idle session is closed
pub record AbortRule (terms : Terms) (past : Past) (x : ℕ) : Type 0 where
  pub open_xact : xact_of past (session_of past x) ≡ Some x
  pub refused_or_idle : ((refused past (session_of past x) ≡ true) ⊎ (hand past (session_of past x) ≡ None)) ⊎ (in_hand terms past (session_of past x) ≡ Some statements.Rollback)

-- a step in hand is cancelled
pub record CancelRule (terms : Terms) (past : Past) (s : ℕ) : Type 0 where
  pub in_step : IsSome (hand past s)

-- a step ends when its text is a script of which no statement is left, or when it was refused, and its implicit transaction has ended
pub record HasNoMore (terms : Terms) (past : Past) (s : ℕ) : Type 0 where
  pub is_script : fault_of terms (hand past s) ≡ None
  pub none_left : in_hand terms past s ≡ None

pub record EndRule (terms : Terms) (past : Past) (s : ℕ) : Type 0 where
  pub in_step : IsSome (hand past s)
  pub over : HasNoMore terms past s ⊎ (refused past s ≡ true)
  pub none_implicit : implicit_of past s ≡ None

-- an idle session without a transaction is closed, once
pub record CloseRule (terms : Terms) (past : Past) (s : ℕ) : Type 0 where
  pub known : s < terms.scripts.sessions
  pub idle : hand past s ≡ None
  pub not_closed : closed past s ≡ false
  pub none_open : xact_of past s ≡ None

abbrev pub Rule : Terms → Past → Entry → Type 0
Rule terms past (Give s block) = GiveRule terms past s block
Rule terms past (Start s level) = StartRule terms past s level
Rule terms past (Wait x want) = WaitRule terms past x want
Rule terms past (Lock x table mode) = LockRule terms past x table mode
Rule terms past (Look x) = LookRule terms past x
Rule terms past (Make x table name shape) = MakeRule terms past x table name shape
Rule terms past (Add x table row) = AddRule terms past x table row
Rule terms past (Read x names rows) = ReadRule terms past x names rows
Rule terms past (Alter x table statement rewritten) = AlterRule terms past x table statement rewritten
Rule terms past (Done s reply) = DoneRule terms past s reply
Rule terms past (Refuse s cause) = RefuseRule terms past s cause
Rule terms past (Commit x) = CommitRule terms past x
Rule terms past (Abort x) = AbortRule terms past x
Rule terms past (Cancel s) = CancelRule terms past s
Rule terms past (End s) = EndRule terms past s
Rule terms past (Close s) = CloseRule terms past s
