-- A whole run, entry by entry: a table is made and filled by the control session, and a session adds a column and reads.
use Rattle.std.specs.Prelude.{◌≡◌, ℕ, zero, suc, List, [], ◌∷◌, ◌++◌, ◌<◌, ◌≤◌, ◌==◌, Bool, true, false, cond, Some, None, reverse, length, codes, pos, refl, Ok}
use Rattle.std.proofs.Common.{arith, inl}
use Rattle.al_values.specs.declared.scalar.Value.{Value}
use Rattle.al_values.specs.declared.scalar.Value.TheVariants as values
use Rattle.al_modes.specs.declared.level.Level.TheVariants as levels
use Rattle.al_modes.specs.declared.mode.Mode.TheVariants.{AccessShare, RowExclusive, AccessExclusive}
use Rattle.al_statements.specs.declared.reply.Tag.TheVariants as tags
use Rattle.al_statements.specs.declared.reply.Reply.TheVariants as replies
use Rattle.al_history.specs.declared.entry.Entry.{Entry}
use Rattle.al_history.specs.declared.entry.Entry.TheVariants.{Give, Start, Lock, Look, Make, Add, Read, Alter, Done, Commit, End, Close}
use Rattle.al_spec.specs.declared.spec.Part.TheVariants as parts
use Rattle.al_spec.specs.declared.spec.Spec.{Spec}
use Rattle.al_history.specs.declared.statement.Column.{Column}
use Rattle.al_history.specs.declared.statement.Statement.{Statement}
use Rattle.al_history.specs.declared.statement.Statement.TheVariants as statements
use Rattle.al_history.specs.declared.statement.ScriptBlock.{ScriptBlock}
use Rattle.al_history.specs.declared.statement.Terms.{Terms}
use Rattle.al_history.specs.Past.{Past}
use Rattle.al_history.specs.Hand.{hand, closed}
use Rattle.al_history.specs.View.{committed}
use Rattle.al_history.specs.Legal.{IsLegal}
use Rattle.al_history.specs.Whole.{IsIdle, Driven, IsWhole, failed_setup}
use Rattle.al_history.proofs.Worked.Rules.{◌▸◌, in_turn_seven, in_turn_eight, may_give, may_start, may_lock, may_look, may_act, may_make, may_add, may_read, may_alter, may_be_done, may_commit, may_end, may_close, no_more}

-- names are bytes
abbrev pub name_t : List ℕ
name_t = codes "t"

abbrev pub name_a : List ℕ
name_a = codes "a"

abbrev pub name_b : List ℕ
name_b = codes "b"

-- an integer
abbrev pub int : ℕ → Value
int n = values.Int (pos n)

-- a column without a default, and one with the default 5
abbrev pub column_a : Column
column_a = record { name = name_a; default = values.Null }

abbrev pub column_b : Column
column_b = record { name = name_b; default = int 5 }

-- CREATE TABLE t (a integer)
abbrev pub create : Statement
create = statements.CreateTable name_t (name_a ∷ [])

-- INSERT INTO t VALUES (1)
abbrev pub insert : Statement
insert = statements.Insert name_t (int 1 ∷ [])

-- ALTER TABLE t ADD COLUMN b integer DEFAULT 5
abbrev pub add_column : Statement
add_column = statements.AddColumn name_t column_b

-- SELECT * FROM t
abbrev pub select : Statement
select = statements.Select name_t

-- a block of one statement
abbrev pub alone : ℕ → Statement → ScriptBlock
alone s statement = record { session = s; script = Ok (statement ∷ []) }

-- these blocks for so many sessions, whose journal may weigh 100
abbrev pub terms_of : ℕ → List ScriptBlock → Terms
terms_of sessions blocks = record { scripts = record { sessions = sessions; blocks = blocks }; weight = 100 }

-- two sessions: block 0 makes the table, and more blocks follow it
abbrev pub terms_with : List ScriptBlock → Terms
terms_with more = terms_of 2 (alone 0 create ∷ more)

-- block 1 adds its row, and more blocks follow it
abbrev pub filled_with : List ScriptBlock → Terms
filled_with more = terms_with (alone 0 insert ∷ more)

-- two setup blocks, and two steps of session 1
abbrev pub steps : List ScriptBlock
steps = alone 1 add_column ∷ alone 1 select ∷ []

abbrev pub terms : Terms
terms = filled_with steps

-- a spec of one session, with two setup blocks and two steps: these are the texts of the second block and the first step
abbrev pub spec_with : List ℕ → List ℕ → Spec
spec_with second first_step = record {
  sessions = codes "s1" ∷ [];
  blocks =
      record { part = parts.Setup; session = 0; name = []; text = codes "CREATE TABLE t (a integer)" }
      ∷ record { part = parts.Setup; session = 0; name = []; text = second }
      ∷ record { part = parts.Step; session = 1; name = codes "add"; text = first_step }
      ∷ record { part = parts.Step; session = 1; name = codes "sel"; text = codes "SELECT * FROM t;" }
      ∷ [];
  permutations = (2 ∷ 3 ∷ []) ∷ [];
}

abbrev pub spec : Spec
spec = spec_with (codes "INSERT INTO t VALUES (1)") (codes "ALTER TABLE t ADD COLUMN b integer DEFAULT 5;")

-- The prefixes of the journal, from which wrong journals are made too. First the table is made:
abbrev pub given_create : List Entry
given_create = Give 0 0 ∷ []

abbrev pub started_create : List Entry
started_create = given_create ++ Start 0 levels.ReadCommitted ∷ []

abbrev pub looked_create : List Entry
looked_create = started_create ++ Look 1 ∷ []

abbrev pub acted_create : List Entry
acted_create = looked_create ++ Make 1 3 name_t (column_a ∷ []) ∷ []

abbrev pub done_create : List Entry
done_create = acted_create ++ Done 0 (replies.Tag tags.CreateTable 0) ∷ []

abbrev pub ended_create : List Entry
ended_create = done_create ++ Commit 1 ∷ End 0 ∷ []

-- then its row is added,
abbrev pub looked_insert : List Entry
looked_insert = ended_create ++ Give 0 1 ∷ Start 0 levels.ReadCommitted ∷ Lock 8 3 RowExclusive ∷ Look 8 ∷ []

abbrev pub acted_insert : List Entry
acted_insert = looked_insert ++ Add 8 3 (int 1 ∷ []) ∷ []

abbrev pub done_insert : List Entry
done_insert = acted_insert ++ Done 0 (replies.Tag tags.Insert 1) ∷ []

abbrev pub ended_insert : List Entry
ended_insert = done_insert ++ Commit 8 ∷ End 0 ∷ []

-- then the column,
abbrev pub looked_alter : List Entry
looked_alter = ended_insert ++ Give 1 2 ∷ Start 1 levels.ReadCommitted ∷ Lock 16 3 AccessExclusive ∷ Look 16 ∷ []

abbrev pub ended_alter : List Entry
ended_alter = looked_alter ++ Alter 16 3 0 [] ∷ Done 1 (replies.Tag tags.AlterTable 0) ∷ Commit 16 ∷ End 1 ∷ []

-- and all is read.
abbrev pub looked_select : List Entry
looked_select = ended_alter ++ Give 1 3 ∷ Start 1 levels.ReadCommitted ∷ Lock 24 3 AccessShare ∷ Look 24 ∷ []

abbrev pub acted_select : List Entry
acted_select = looked_select ++ Read 24 (name_a ∷ name_b ∷ []) ((int 1 ∷ int 5 ∷ []) ∷ []) ∷ []

abbrev pub ended_select : List Entry
ended_select = acted_select ++ Done 1 (replies.Rows 27) ∷ Commit 24 ∷ End 1 ∷ []

-- the journal of the whole run
abbrev pub journal : List Entry
journal = ended_select ++ Close 1 ∷ Close 0 ∷ []

-- a table is made in a step of its own, whatever blocks follow
pub create_is_legal : (more : List ScriptBlock) → IsLegal (terms_with more) ended_create
create_is_legal more =
    tt
    ▸ may_give (omega arith) refl refl refl refl tt
    ▸ may_start refl refl refl refl tt
    ▸ may_look refl refl refl refl refl refl refl tt tt
    ▸ may_make refl (may_act refl refl refl refl refl) refl (refl, refl) refl refl tt
    ▸ may_be_done refl refl refl tt
    ▸ may_commit refl refl refl refl refl refl refl
    ▸ may_end refl refl (inl (no_more refl refl)) refl refl refl

-- its row is added in another
pub insert_is_legal : (more : List ScriptBlock) → IsLegal (filled_with more) ended_insert
insert_is_legal more =
    create_is_legal (alone 0 insert ∷ more)
    ▸ may_give (omega arith) refl refl refl refl tt
    ▸ may_start refl refl refl refl tt
    ▸ may_lock refl refl refl refl refl refl refl refl tt tt
    ▸ may_look refl refl refl refl refl refl refl tt tt
    ▸ may_add refl (may_act refl refl refl refl refl) (refl, refl) refl tt tt
    ▸ may_be_done refl refl refl tt
    ▸ may_commit refl refl refl refl refl refl refl
    ▸ may_end refl refl (inl (no_more refl refl)) refl refl refl

-- another session adds a column
pub alter_is_legal : IsLegal terms ended_alter
alter_is_legal =
    insert_is_legal steps
    ▸ may_give (omega arith) refl refl refl refl tt
    ▸ may_start refl refl refl refl tt
    ▸ may_lock refl refl refl refl refl refl refl refl tt tt
    ▸ may_look refl refl refl refl refl refl refl tt refl
    ▸ may_alter refl (may_act refl refl refl refl refl) (refl, λ c there. absurd c.demand) refl refl tt refl
    ▸ may_be_done refl refl refl tt
    ▸ may_commit refl refl refl refl refl refl refl
    ▸ may_end refl refl (inl (no_more refl refl)) refl refl refl

-- and reads the row with the default in the new column
pub select_is_legal : IsLegal terms ended_select
select_is_legal =
    alter_is_legal
    ▸ may_give (omega arith) refl refl refl refl tt
    ▸ may_start refl refl refl refl tt
    ▸ may_lock refl refl refl refl refl refl refl refl tt tt
    ▸ may_look refl refl refl refl refl refl refl tt tt
    ▸ may_read refl (may_act refl refl refl refl refl) (refl, refl) refl tt tt
    ▸ may_be_done refl refl refl tt
    ▸ may_commit refl refl refl refl refl refl refl
    ▸ may_end refl refl (inl (no_more refl refl)) refl refl refl

-- the whole journal is legal
pub journal_is_legal : IsLegal terms journal
journal_is_legal =
    select_is_legal
    ▸ may_close (omega arith) refl refl refl refl tt
    ▸ may_close (omega arith) refl refl refl refl tt

-- the journal has thirty-three entries
pub journal_length : length journal ≡ 33
journal_length = refl

-- no setup block failed
pub none_failed : failed_setup spec (reverse journal) ≡ None
none_failed = refl

-- what is committed at its end: the table with its two columns, and its one row
pub committed_at_end : committed terms (reverse journal) ≡ record { number = 3; name = name_t; columns = column_a ∷ column_b ∷ []; constraints = []; rows = record { number = 11; version = 11; values = int 1 ∷ int 5 ∷ [] } ∷ [] } ∷ []
committed_at_end = refl

-- no session has a step in hand
abbrev pub IsAtRest : Past → Type 0
IsAtRest past = (r : ℕ) → hand past r ≡ None

-- where no session had a step in hand, none has after a whole step
pub at_rest : (past : Past) (s block : ℕ) → IsAtRest past → (r : ℕ) → cond (s == r) None (cond (s == r) (Some block) (hand past r)) ≡ None
at_rest past s block rest r = by_test (s == r) where
  by_test : (b : Bool) → cond b None (cond b (Some block) (hand past r)) ≡ None
  by_test true = refl
  by_test false = rest r

-- and where none has one, none can go on
pub idle : (past : Past) → IsAtRest past → IsIdle past
idle past rest r = rw (rest r) refl

-- no session is below the control session
pub none_below : (A : ℕ → Type 0) (r : ℕ) → r < 0 → A r
none_below A r lt = absurd (omega arith)

-- the control session alone is below session 1
pub zero_below : (P : ℕ → Bool) → P 0 ≡ false → (r : ℕ) → r < 1 → P r ≡ false
zero_below P at_zero zero lt = at_zero
zero_below P at_zero (suc r) lt = absurd (omega arith)

-- no session has a step in hand before the first block is given
pub rest_at_first : IsAtRest []
rest_at_first r = refl

-- nor has one after the first setup block
pub rest_after_create : IsAtRest (reverse ended_create)
rest_after_create r = at_rest [] 0 0 rest_at_first r

-- nor after the second
pub rest_after_insert : IsAtRest (reverse ended_insert)
rest_after_insert r = at_rest (reverse ended_create) 0 1 rest_after_create r

-- nor after the first step
rest_after_alter : IsAtRest (reverse ended_alter)
rest_after_alter r = at_rest (reverse ended_insert) 1 2 rest_after_insert r

-- the first setup block is given at rest, and each entry of it is of the control session
pub driven_create : (more : List ScriptBlock) → Driven (terms_with more) (reverse ended_create)
driven_create more = in_turn_seven tt tt (refl, none_below _) (refl, none_below _) (refl, none_below _) (refl, none_below _) (idle [] rest_at_first) tt

-- so is the second
pub driven_insert : (more : List ScriptBlock) → Driven (filled_with more) (reverse ended_insert)
driven_insert more = in_turn_eight tt tt (refl, none_below _) (refl, none_below _) (refl, none_below _) (refl, none_below _) (refl, none_below _) (idle (reverse ended_create) rest_after_create) (driven_create (alone 0 insert ∷ more))

-- so is the first step, whose entries are of session 1
driven_alter : Driven terms (reverse ended_alter)
driven_alter = in_turn_eight tt tt (refl, zero_below _ refl) (refl, zero_below _ refl) (refl, zero_below _ refl) (refl, zero_below _ refl) (refl, zero_below _ refl) (idle (reverse ended_insert) rest_after_insert) (driven_insert steps)

-- and the second step
driven_select : Driven terms (reverse ended_select)
driven_select = in_turn_eight tt tt (refl, zero_below _ refl) (refl, zero_below _ refl) (refl, zero_below _ refl) (refl, zero_below _ refl) (refl, zero_below _ refl) (idle (reverse ended_alter) rest_after_alter) driven_alter

-- both sessions are closed at its end
both_closed : (s : ℕ) → s ≤ 1 → closed (reverse journal) s ≡ true
both_closed zero le = refl
both_closed (suc zero) le = refl
both_closed (suc (suc s)) le = absurd (omega arith)

-- the journal is that of a whole run of its permutation
pub journal_is_whole : IsWhole spec terms (2 ∷ 3 ∷ []) (reverse journal)
journal_is_whole = record { as_due = (refl, (refl, (refl, (refl, (refl, (refl, tt)))))); in_turn = (tt, (tt, driven_select)); all_done = refl; all_closed = both_closed }
