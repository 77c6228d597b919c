-- Why a statement is refused (Appendix A; CREATE TABLE, INSERT, SELECT, ALTER TABLE in Part VI).
use Rattle.std.specs.Prelude.{ℕ, List, [], ◌∷◌, ◌++◌, ◌+◌, ◌==◌, Bool, true, false, cond, length, nat_lt, nat_le, Option, Some, None, is_some, option_map, option_and_then, Result, Ok, Err}
use Rattle.std.specs.List.{list_any}
use Rattle.al_values.specs.declared.scalar.Value.{Value}
use Rattle.al_statements.specs.declared.cause.RunLimit.TheVariants as limits
use Rattle.al_statements.specs.declared.cause.Cause.{Cause}
use Rattle.al_statements.specs.declared.cause.Cause.TheVariants as causes
use Rattle.al_history.specs.declared.entry.Entry.TheVariants.{Make, Cancel}
use Rattle.al_history.specs.declared.statement.Column.{Column}
use Rattle.al_statements.specs.declared.fault.SqlFault.{SqlFault}
use Rattle.al_statements.specs.declared.fault.SqlFault.TheVariants as faults
use Rattle.al_history.specs.declared.statement.Statement.{Statement}
use Rattle.al_history.specs.declared.statement.Statement.TheVariants as statements
use Rattle.al_history.specs.declared.statement.Terms.{Terms}
use Rattle.al_history.specs.Past.{Past}
use Rattle.al_history.specs.Limits.{most_tables, most_columns}
use Rattle.al_history.specs.Database.{Table, Database, same_name, named}
use Rattle.al_history.specs.Hand.{hand, fault_of, in_hand, xact_of, session_of, look_of, acts_of, BlockState, FailedBlock, block_state}
use Rattle.al_history.specs.Change.{Alteration, alteration, filled}
use Rattle.al_history.specs.Query.{column_names, answer}
use Rattle.al_history.specs.View.{latest}
use Rattle.al_history.specs.Locks.{Claim, grantable}
use Rattle.al_history.specs.Waits.{is_blocked}
use Rattle.al_history.specs.Need.{has_place, lacking, name_taker}
use Rattle.al_history.specs.Weight.{row_weight, read_weight, weight}

-- the table that the statement uses, where it uses one that has to be there
abbrev pub used_name : Statement → Option (List ℕ)
used_name statements.Begin = None
used_name statements.Commit = None
used_name statements.Rollback = None
used_name (statements.CreateTable name columns) = None
used_name (statements.Insert name values) = Some name
used_name (statements.Select name) = Some name
used_name (statements.AddColumn name column) = Some name

abbrev pub if_missing : Database → Option (List ℕ) → Option Cause
if_missing db None = None
if_missing db (Some name) = cond (is_some (named db name)) None (Some (causes.NoTable name))

-- Before its Look: the table that the statement uses isn't there.
abbrev pub name_cause : Statement → Database → Option Cause
name_cause statement db = if_missing db (used_name statement)

-- whether the name is among these
abbrev pub is_among : List (List ℕ) → List ℕ → Bool
is_among names name = list_any (λ (n : List ℕ). same_name n name) names

-- the columns in written order: the first whose name stood before, or that is one too many
abbrev pub columns_cause : List (List ℕ) → List (List ℕ) → Option Cause
columns_cause before [] = None
columns_cause before (name ∷ names) =
    cond (is_among before name) (Some (causes.TwiceColumn name)) (cond (nat_lt (length before) most_columns) (columns_cause (before ++ name ∷ []) names) (Some (causes.Limit limits.Columns (length before + 1))))

-- the new table's name is there already, which comes first, or its columns have a cause. Where an open transaction of
-- another is in the way of the name, it isn't known yet whether the name is there.
abbrev pub create_cause : List ℕ → List (List ℕ) → Option ℕ → Database → Option Cause
create_cause name columns None db = cond (is_some (named db name)) (Some (causes.TwiceTable name)) (columns_cause [] columns)
create_cause name columns (Some taker) db = columns_cause [] columns

-- an INSERT has more values than its table has columns
abbrev pub count_cause : ℕ → Option Table → Option Cause
count_cause got None = None
count_cause got (Some t) = cond (nat_lt (length t.columns) got) (Some (causes.Count (length t.columns) got)) None

abbrev pub refusal : Result Alteration Cause → Option Cause
refusal (Ok alteration) = None
refusal (Err cause) = Some cause

-- the shape refusal of an ALTER TABLE
abbrev pub alter_cause : Column → Option Table → Option Cause
alter_cause column None = None
alter_cause column (Some t) = refusal (alteration column t)

-- After its Look: a new table's name is judged on the latest database, all else on what the Look found. Once a statement
-- of these has acted, nothing is left to refuse.
abbrev pub look_cause : Statement → List ℕ → Option ℕ → Database → Database → Option Cause
look_cause statement (act ∷ acts) taker now looked = None
look_cause statements.Begin [] taker now looked = None
look_cause statements.Commit [] taker now looked = None
look_cause statements.Rollback [] taker now looked = None
look_cause (statements.CreateTable name columns) [] taker now looked = create_cause name columns taker now
look_cause (statements.Insert name values) [] taker now looked = count_cause (length values) (named looked name)
look_cause (statements.Select name) [] taker now looked = None
look_cause (statements.AddColumn name column) [] taker now looked = alter_cause column (named looked name)

-- ---- the limits of a run

-- how many tables have been made so far
abbrev pub tables_made : Past → ℕ
tables_made [] = 0
tables_made (Make x table name shape ∷ past) = tables_made past + 1
tables_made (e ∷ past) = tables_made past

-- a table would be made that is one too many
abbrev pub tables_cause : Statement → List ℕ → Option ℕ → ℕ → Option Cause
tables_cause (statements.CreateTable name columns) [] None made = cond (nat_lt made most_tables) None (Some (causes.Limit limits.Tables (made + 1)))
tables_cause statement acts taker made = None

-- ---- the weight of a run's journal is limited

-- What the next entry weighs, where it isn't light. Before the Look it is the lock that the statement lacks, or the wait for it,
-- and then the Look.
abbrev pub weight_before : Past → Bool → Option Claim → Option ℕ
weight_before past false lacks = None
weight_before past true (Some c) = Some (cond (grantable past c) 1 2)
weight_before past true None = Some 1

abbrev pub added_weight : List Value → Table → ℕ
added_weight written t = 1 + row_weight (filled t.columns written)

abbrev pub answered_weight : Table → ℕ
answered_weight t = read_weight (column_names t) (answer t)

-- After it, it is what the statement does, or its wait for a name.
abbrev pub weight_after : Statement → List ℕ → Option ℕ → Database → Database → Option ℕ
weight_after statement (act ∷ acts) taker now looked = None
weight_after statements.Begin [] taker now looked = None
weight_after statements.Commit [] taker now looked = None
weight_after statements.Rollback [] taker now looked = None
weight_after (statements.CreateTable name columns) [] None now looked = Some (1 + length columns)
weight_after (statements.CreateTable name columns) [] (Some other) now looked = Some 2
weight_after (statements.Insert name written) [] taker now looked = option_map (added_weight written) (named now name)
weight_after (statements.Select name) [] taker now looked = option_map answered_weight (named looked name)
weight_after (statements.AddColumn name column) [] taker now looked = Some 1

-- an entry of this weight would bring the journal above its limit
abbrev pub over : Terms → Past → ℕ → Option Cause
over terms past next = cond (nat_le (weight past + next) terms.weight) None (Some (causes.Limit limits.Journal (weight past + next)))

-- who is blocked makes no entry
abbrev pub limit_cause : Terms → Past → ℕ → Option ℕ → Option Cause
limit_cause terms past x next = cond (is_blocked past (session_of past x)) None (option_and_then (over terms past) next)

-- ---- the first cause

abbrev pub first_of : Option Cause → Option Cause → Option Cause
first_of None cause = cause
first_of (Some first) cause = Some first

-- a statement with an open transaction: what its name or its Look finds comes first, and then the limit of the journal
abbrev pub cause_at : Terms → Past → ℕ → Statement → List ℕ → Option Past → Option Cause
cause_at terms past x statement acts None =
    first_of (name_cause statement (latest terms past x)) (limit_cause terms past x (weight_before past (has_place statement) (lacking terms past x)))
cause_at terms past x statement acts (Some look) =
    first_of (look_cause statement acts (name_taker past x statement) (latest terms past x) (latest terms look x)) (first_of (tables_cause statement acts (name_taker past x statement) (tables_made past)) (limit_cause terms past x (weight_after statement acts (name_taker past x statement) (latest terms past x) (latest terms look x))))

-- what is said of the statement in hand, whatever else is true, right after its step was cancelled
abbrev pub cancel_cause : Past → ℕ → Option Cause
cancel_cause (Cancel r ∷ past) s = cond (r == s) (Some (causes.Cancelled (length past))) None
cancel_cause past s = None

-- in a failed block every statement is refused but the two that end it
abbrev pub block_cause : BlockState → Statement → Option Cause
block_cause (FailedBlock refuse) statements.Commit = None
block_cause (FailedBlock refuse) statements.Rollback = None
block_cause (FailedBlock refuse) statement = Some (causes.BlockFailed refuse)
block_cause state statement = None

-- a text that is no script is refused as a whole
abbrev pub text_cause : Option SqlFault → Option Cause
text_cause None = None
text_cause (Some (faults.Syntax at)) = Some (causes.Syntax at)
text_cause (Some (faults.NotInProfile at)) = Some (causes.NotInProfile at)

-- the first cause that is true of the statement in hand: that of the block first, then those of a statement with an open
-- transaction
abbrev pub statement_cause : Terms → Past → ℕ → Option Cause
statement_cause terms past s =
    option_and_then (λ statement. first_of (block_cause (block_state past s) statement) (option_and_then (λ x. cause_at terms past x statement (acts_of past s) (look_of past s)) (xact_of past s))) (in_hand terms past s)

-- that of the text comes before: then no statement is in hand
abbrev pub judged_cause : Terms → Past → ℕ → Option Cause
judged_cause terms past s = first_of (text_cause (fault_of terms (hand past s))) (statement_cause terms past s)

-- the cause for which the step in hand has to be refused
abbrev pub cause_of : Terms → Past → ℕ → Option Cause
cause_of terms past s = first_of (cancel_cause past s) (judged_cause terms past s)
