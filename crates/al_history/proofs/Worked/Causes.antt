-- Statements that are refused, one for each cause, and a block of two statements.
use Rattle.std.specs.Prelude.{◌≡◌, ℕ, zero, suc, List, [], ◌∷◌, ◌++◌, ◌≤◌, true, Some, reverse, codes, refl, Ok}
use Rattle.std.proofs.Common.{arith, inl, inr}
use Rattle.al_values.specs.declared.scalar.Value.TheVariants as values
use Rattle.al_modes.specs.declared.level.Level.TheVariants as levels
use Rattle.al_modes.specs.declared.mode.Mode.TheVariants.{RowExclusive, AccessExclusive}
use Rattle.al_statements.specs.declared.reply.Tag.TheVariants as tags
use Rattle.al_statements.specs.declared.reply.Reply.TheVariants as replies
use Rattle.al_statements.specs.declared.cause.Cause.TheVariants as causes
use Rattle.al_history.specs.declared.entry.Entry.{Entry}
use Rattle.al_history.specs.declared.entry.Entry.TheVariants.{Give, Start, Lock, Look, Make, Add, Done, Refuse, Commit, Abort, End, Close}
use Rattle.al_spec.specs.declared.spec.Spec.{Spec}
use Rattle.al_history.specs.declared.statement.Statement.{Statement}
use Rattle.al_history.specs.declared.statement.Statement.TheVariants as statements
use Rattle.al_history.specs.declared.statement.Terms.{Terms}
use Rattle.al_history.specs.Hand.{closed}
use Rattle.al_history.specs.View.{latest, committed}
use Rattle.al_history.specs.Legal.{IsLegal}
use Rattle.al_history.specs.Whole.{IsWhole, failed_setup}
use Rattle.al_history.proofs.Worked.Journals.{terms_of, name_t, name_a, name_b, int, column_a, insert, add_column, select, alone, steps, terms_with, spec_with, ended_create, create_is_legal, none_below, idle, rest_after_create, driven_create}
use Rattle.al_history.proofs.Worked.Rules.{◌▸◌, in_turn_six, may_give, may_start, may_lock, may_look, may_act, may_make, may_add, may_be_done, may_refuse, may_commit, may_abort, may_end, may_close, no_more}

-- the name u
abbrev pub name_u : List ℕ
name_u = codes "u"

-- two sessions, and one block
abbrev pub one_block : Statement → Terms
one_block statement = terms_of 2 (alone 0 statement ∷ [])

-- CREATE TABLE t (b integer)
abbrev pub create_again : Statement
create_again = statements.CreateTable name_t (name_b ∷ [])

-- its block is the second setup block
abbrev pub again : Terms
again = terms_with (alone 0 create_again ∷ steps)

abbrev pub spec_again : Spec
spec_again = spec_with (codes "CREATE TABLE t (b integer)") (codes "ALTER TABLE t ADD COLUMN b integer DEFAULT 5;")

abbrev pub looked_again : List Entry
looked_again = ended_create ++ Give 0 1 ∷ Start 0 levels.ReadCommitted ∷ Look 8 ∷ []

abbrev pub refused_again : List Entry
refused_again = looked_again ++ Refuse 0 (causes.TwiceTable name_t) ∷ []

abbrev pub ended_again : List Entry
ended_again = refused_again ++ Abort 8 ∷ End 0 ∷ []

-- the journal of the whole run, which ends with the setup block that failed
abbrev pub failed : List Entry
failed = ended_again ++ Close 0 ∷ Close 1 ∷ []

-- a table is made twice, and the second is refused
pub again_is_legal : IsLegal again ended_again
again_is_legal =
    create_is_legal (alone 0 create_again ∷ steps)
    ▸ may_give (omega arith) refl refl refl refl tt
    ▸ may_start refl refl refl refl tt
    ▸ may_look refl refl refl refl refl refl refl tt tt
    ▸ may_refuse refl refl refl tt
    ▸ may_abort refl refl (inl refl) refl refl
    ▸ may_end refl refl (inr refl) refl refl refl

-- then the sessions may be closed
pub failed_is_legal : IsLegal again failed
failed_is_legal = again_is_legal ▸ may_close (omega arith) refl refl refl refl tt ▸ may_close (omega arith) refl refl refl refl tt

-- the setup block that failed is the second
pub second_failed : failed_setup spec_again (reverse failed) ≡ Some 1
second_failed = refl

-- both sessions are closed at its end
both_closed : (s : ℕ) → s ≤ 1 → closed (reverse failed) s ≡ true
both_closed zero le = refl
both_closed (suc zero) le = refl
both_closed (suc (suc s)) le = absurd (omega arith)

-- a run whose setup fails is whole without the steps of its permutation
pub failed_is_whole : IsWhole spec_again again (2 ∷ 3 ∷ []) (reverse failed)
failed_is_whole = record {
  as_due = (refl, (refl, (refl, (refl, tt))));
  all_done = refl;
  in_turn = (tt, (tt, in_turn_six tt tt (refl, none_below _) (refl, none_below _) (refl, none_below _) (idle (reverse ended_create) rest_after_create) (driven_create (alone 0 create_again ∷ steps))));
  all_closed = both_closed;
}

-- the table stays as the first CREATE TABLE made it
pub committed_after_failure : committed again (reverse failed) ≡ record { number = 3; name = name_t; columns = column_a ∷ []; constraints = []; rows = [] } ∷ []
committed_after_failure = refl

-- CREATE TABLE t (a integer, b integer, b integer, a integer)
abbrev pub create_twice : Statement
create_twice = statements.CreateTable name_t (name_a ∷ name_b ∷ name_b ∷ name_a ∷ [])

abbrev pub looked_twice : List Entry
looked_twice = Give 0 0 ∷ Start 0 levels.ReadCommitted ∷ Look 1 ∷ []

-- a new table has a column twice: the first name that stood before is told
pub created_twice_is_legal : IsLegal (one_block create_twice) (looked_twice ++ Refuse 0 (causes.TwiceColumn name_b) ∷ Abort 1 ∷ End 0 ∷ [])
created_twice_is_legal =
    tt
    ▸ may_give (omega arith) refl refl refl refl tt
    ▸ may_start refl refl refl refl tt
    ▸ may_look refl refl refl refl refl refl refl tt tt
    ▸ may_refuse refl refl refl tt
    ▸ may_abort refl refl (inl refl) refl refl
    ▸ may_end refl refl (inr refl) refl refl refl

-- ALTER TABLE t ADD COLUMN a integer, in session 1
abbrev pub add_again : Statement
add_again = statements.AddColumn name_t column_a

abbrev pub added_again : Terms
added_again = terms_with (alone 1 add_again ∷ [])

abbrev pub looked_added : List Entry
looked_added = ended_create ++ Give 1 1 ∷ Start 1 levels.ReadCommitted ∷ Lock 8 3 AccessExclusive ∷ Look 8 ∷ []

-- a column is added that is there already
pub added_again_is_legal : IsLegal added_again (looked_added ++ Refuse 1 (causes.TwiceColumn name_a) ∷ Abort 8 ∷ End 1 ∷ [])
added_again_is_legal =
    create_is_legal (alone 1 add_again ∷ [])
    ▸ may_give (omega arith) refl refl refl refl tt
    ▸ may_start refl refl refl refl tt
    ▸ may_lock refl refl refl refl refl refl refl refl tt tt
    ▸ may_look refl refl refl refl refl refl refl tt refl
    ▸ may_refuse refl refl refl tt
    ▸ may_abort refl refl (inl refl) refl refl
    ▸ may_end refl refl (inr refl) refl refl refl

abbrev pub started_one : List Entry
started_one = Give 0 0 ∷ Start 0 levels.ReadCommitted ∷ []

abbrev pub no_table : List Entry
no_table = started_one ++ Refuse 0 (causes.NoTable name_t) ∷ Abort 1 ∷ End 0 ∷ []

-- a row is added to a table that isn't there, which is refused before a Look
pub insert_nowhere_is_legal : IsLegal (one_block insert) no_table
insert_nowhere_is_legal =
    tt
    ▸ may_give (omega arith) refl refl refl refl tt
    ▸ may_start refl refl refl refl tt
    ▸ may_refuse refl refl refl tt
    ▸ may_abort refl refl (inl refl) refl refl
    ▸ may_end refl refl (inr refl) refl refl refl

-- a table is read that isn't there
pub select_nowhere_is_legal : IsLegal (one_block select) no_table
select_nowhere_is_legal =
    tt
    ▸ may_give (omega arith) refl refl refl refl tt
    ▸ may_start refl refl refl refl tt
    ▸ may_refuse refl refl refl tt
    ▸ may_abort refl refl (inl refl) refl refl
    ▸ may_end refl refl (inr refl) refl refl refl

-- a table is altered that isn't there
pub alter_nowhere_is_legal : IsLegal (one_block add_column) no_table
alter_nowhere_is_legal =
    tt
    ▸ may_give (omega arith) refl refl refl refl tt
    ▸ may_start refl refl refl refl tt
    ▸ may_refuse refl refl refl tt
    ▸ may_abort refl refl (inl refl) refl refl
    ▸ may_end refl refl (inr refl) refl refl refl

-- INSERT INTO t VALUES (1, 5)
abbrev pub insert_two : Statement
insert_two = statements.Insert name_t (int 1 ∷ int 5 ∷ [])

abbrev pub counted : Terms
counted = terms_with (alone 0 insert_two ∷ [])

abbrev pub looked_counted : List Entry
looked_counted = ended_create ++ Give 0 1 ∷ Start 0 levels.ReadCommitted ∷ Lock 8 3 RowExclusive ∷ Look 8 ∷ []

-- a row has more values than the table has columns
pub count_is_legal : IsLegal counted (looked_counted ++ Refuse 0 (causes.Count 1 2) ∷ Abort 8 ∷ End 0 ∷ [])
count_is_legal =
    create_is_legal (alone 0 insert_two ∷ [])
    ▸ may_give (omega arith) refl refl refl refl tt
    ▸ may_start refl refl refl refl tt
    ▸ may_lock refl refl refl refl refl refl refl refl tt tt
    ▸ may_look refl refl refl refl refl refl refl tt tt
    ▸ may_refuse refl refl refl tt
    ▸ may_abort refl refl (inl refl) refl refl
    ▸ may_end refl refl (inr refl) refl refl refl

-- CREATE TABLE t (a integer, b integer); and a second statement, in one block
abbrev pub create_two : Statement
create_two = statements.CreateTable name_t (name_a ∷ name_b ∷ [])

abbrev pub pair : Statement → Terms
pair second = terms_of 2 (record { session = 0; script = Ok (create_two ∷ second ∷ []) } ∷ [])

abbrev pub made_two : List Entry
made_two = looked_twice ++ Make 1 3 name_t (column_a ∷ record { name = name_b; default = values.Null } ∷ []) ∷ []

abbrev pub done_first : List Entry
done_first = made_two ++ Done 0 (replies.Tag tags.CreateTable 0) ∷ []

abbrev pub looked_second : List Entry
looked_second = done_first ++ Lock 1 3 RowExclusive ∷ Look 1 ∷ []

abbrev pub acted_second : List Entry
acted_second = looked_second ++ Add 1 3 (int 1 ∷ values.Null ∷ []) ∷ []

abbrev pub done_second : List Entry
done_second = acted_second ++ Done 0 (replies.Tag tags.Insert 1) ∷ []

-- the first statement of a block, whatever the second
pub first_is_legal : (second : Statement) → IsLegal (pair second) done_first
first_is_legal second =
    tt
    ▸ may_give (omega arith) refl refl refl refl tt
    ▸ may_start refl refl refl refl tt
    ▸ may_look refl refl refl refl refl refl refl tt tt
    ▸ may_make refl (may_act refl refl refl refl refl) refl (refl, refl) refl refl tt
    ▸ may_be_done refl refl refl tt

-- the statements of a block are one transaction: the second finds what the first made, and they are committed together.
-- The column that has no value gets its default, Null.
pub pair_is_legal : IsLegal (pair insert) (done_second ++ Commit 1 ∷ End 0 ∷ [])
pair_is_legal =
    first_is_legal insert
    ▸ may_lock refl refl refl refl refl refl refl refl tt tt
    ▸ may_look refl refl refl refl refl refl refl tt tt
    ▸ may_add refl (may_act refl refl refl refl refl) (refl, refl) refl tt tt
    ▸ may_be_done refl refl refl tt
    ▸ may_commit refl refl refl refl refl refl refl
    ▸ may_end refl refl (inl (no_more refl refl)) refl refl refl

-- before the Commit nobody else finds the table
pub nothing_committed : committed (pair insert) (reverse done_second) ≡ []
nothing_committed = refl

-- it finds the row too, which has the number of its Add
pub found_inside : latest (pair insert) (reverse done_second) 1 ≡ record { number = 3; name = name_t; columns = column_a ∷ record { name = name_b; default = values.Null } ∷ []; constraints = []; rows = record { number = 7; version = 7; values = int 1 ∷ values.Null ∷ [] } ∷ [] } ∷ []
found_inside = refl

-- INSERT INTO u VALUES (1)
abbrev pub insert_u : Statement
insert_u = statements.Insert name_u (int 1 ∷ [])

abbrev pub undone : List Entry
undone = done_first ++ Refuse 0 (causes.NoTable name_u) ∷ Abort 1 ∷ End 0 ∷ []

-- the second statement of a block is refused,
pub undone_is_legal : IsLegal (pair insert_u) undone
undone_is_legal =
    first_is_legal insert_u
    ▸ may_refuse refl refl refl tt
    ▸ may_abort refl refl (inl refl) refl refl
    ▸ may_end refl refl (inr refl) refl refl refl

-- so what the first did is undone with it
pub undone_is_empty : committed (pair insert_u) (reverse undone) ≡ []
undone_is_empty = refl
