-- What readers find: rows of others from their Commit on, defaults, changes of an own transaction, older readers.
use Rattle.std.specs.Prelude.{◌≡◌, List, [], ◌∷◌, ◌++◌, None, reverse, refl, Ok}
use Rattle.std.proofs.Common.{arith, inl, inr}
use Rattle.al_modes.specs.declared.level.Level.TheVariants as levels
use Rattle.al_modes.specs.declared.mode.Mode.TheVariants.{AccessShare, RowExclusive, AccessExclusive}
use Rattle.al_statements.specs.declared.reply.Tag.TheVariants as tags
use Rattle.al_statements.specs.declared.reply.Reply.TheVariants as replies
use Rattle.al_statements.specs.declared.cause.Cause.TheVariants as causes
use Rattle.al_history.specs.declared.entry.Entry.{Entry}
use Rattle.al_history.specs.declared.entry.Entry.TheVariants.{Give, Start, Lock, Look, Add, Read, Alter, Done, Refuse, Commit, Abort, End}
use Rattle.al_history.specs.declared.statement.Statement.{Statement}
use Rattle.al_history.specs.declared.statement.Statement.TheVariants as statements
use Rattle.al_history.specs.declared.statement.ScriptBlock.{ScriptBlock}
use Rattle.al_history.specs.declared.statement.Terms.{Terms}
use Rattle.al_history.specs.Database.{Table, VersionedRow}
use Rattle.al_history.specs.Fate.{fate, Open, Committed, Aborted}
use Rattle.al_history.specs.View.{view, latest, committed}
use Rattle.al_history.specs.Legal.{IsLegal}
use Rattle.al_history.proofs.Worked.Journals.{terms_of, name_t, name_a, name_b, int, column_a, column_b, insert, add_column, select, alone, terms_with, terms, done_create, ended_create, ended_insert, journal, create_is_legal}
use Rattle.al_history.proofs.Worked.Causes.{failed}
use Rattle.al_history.proofs.Worked.Rules.{◌▸◌, may_give, may_start, may_lock, may_look, may_act, may_add, may_read, may_alter, may_be_done, may_refuse, may_commit, may_abort, may_end, no_more}

-- the table t with a column a, and with the column b too
abbrev pub narrow : List VersionedRow → Table
narrow rows = record { number = 3; name = name_t; columns = column_a ∷ []; constraints = []; rows = rows }

abbrev pub wide : List VersionedRow → Table
wide rows = record { number = 3; name = name_t; columns = column_a ∷ column_b ∷ []; constraints = []; rows = rows }

-- a transaction is open until its Commit
open_at_first : fate (reverse done_create) 1 ≡ Open
open_at_first = refl

-- is committed by it
committed_at_last : fate (reverse ended_create) 1 ≡ Committed
committed_at_last = refl

-- and aborted by its Abort
aborted_at_last : fate (reverse failed) 8 ≡ Aborted
aborted_at_last = refl

-- a reader that has seen nothing finds the columns that are committed, and no row
blind_reader : view terms (reverse journal) [] None ≡ wide [] ∷ []
blind_reader = refl

-- a reader that has seen the row, but not the new column, finds the row with the new column's default
older_reader : view terms (reverse journal) (reverse ended_insert) None ≡ wide (record { number = 11; version = 11; values = int 1 ∷ int 5 ∷ [] } ∷ []) ∷ []
older_reader = refl

-- Session 0 adds a row, and session 1 reads.
abbrev reading : List ScriptBlock
reading = alone 0 insert ∷ alone 1 select ∷ []

abbrev read : Terms
read = terms_with reading

-- session 1 looks before session 0 commits,
abbrev looked_early : List Entry
looked_early = ended_create ++ Give 0 1 ∷ Start 0 levels.ReadCommitted ∷ Lock 8 3 RowExclusive ∷ Look 8 ∷ Add 8 3 (int 1 ∷ []) ∷ Give 1 2 ∷ Start 1 levels.ReadCommitted ∷ Lock 13 3 AccessShare ∷ Look 13 ∷ Done 0 (replies.Tag tags.Insert 1) ∷ Commit 8 ∷ End 0 ∷ []

-- or after it
abbrev looked_late : List Entry
looked_late = ended_create ++ Give 0 1 ∷ Start 0 levels.ReadCommitted ∷ Lock 8 3 RowExclusive ∷ Look 8 ∷ Add 8 3 (int 1 ∷ []) ∷ Give 1 2 ∷ Start 1 levels.ReadCommitted ∷ Done 0 (replies.Tag tags.Insert 1) ∷ Commit 8 ∷ End 0 ∷ Lock 13 3 AccessShare ∷ Look 13 ∷ []

-- both may come,
looked_early_is_legal : IsLegal read looked_early
looked_early_is_legal =
    create_is_legal reading
    ▸ may_give (omega arith) refl refl refl refl tt
    ▸ may_start refl refl refl refl tt
    ▸ may_lock refl refl refl refl refl refl refl refl tt tt
    ▸ may_look refl refl refl refl refl refl refl tt tt
    ▸ may_add refl (may_act refl refl refl refl refl) (refl, refl) refl tt tt
    ▸ may_give (omega arith) refl refl refl refl tt
    ▸ may_start refl refl refl refl tt
    ▸ may_lock refl refl refl refl refl refl refl refl tt tt
    ▸ may_look refl refl refl refl refl refl refl tt tt
    ▸ may_be_done refl refl refl tt
    ▸ may_commit refl refl refl refl refl refl refl
    ▸ may_end refl refl (inl (no_more refl refl)) refl refl refl

-- since sessions may take turns inside their steps
looked_late_is_legal : IsLegal read looked_late
looked_late_is_legal =
    create_is_legal reading
    ▸ may_give (omega arith) refl refl refl refl tt
    ▸ may_start refl refl refl refl tt
    ▸ may_lock refl refl refl refl refl refl refl refl tt tt
    ▸ may_look refl refl refl refl refl refl refl tt tt
    ▸ may_add refl (may_act refl refl refl refl refl) (refl, refl) refl tt tt
    ▸ may_give (omega arith) refl refl refl refl tt
    ▸ may_start refl refl refl refl tt
    ▸ may_be_done refl refl refl tt
    ▸ may_commit refl refl refl refl refl refl refl
    ▸ may_end refl refl (inl (no_more refl refl)) refl refl refl
    ▸ may_lock refl refl refl refl refl refl refl refl tt tt
    ▸ may_look refl refl refl refl refl refl refl tt tt

-- a SELECT that looked before the Commit of a row doesn't read it,
early_reads_none : IsLegal read (looked_early ++ Read 13 (name_a ∷ []) [] ∷ [])
early_reads_none = looked_early_is_legal ▸ may_read refl (may_act refl refl refl refl refl) (refl, refl) refl tt tt

-- (it can't read it)
early_reads_row : IsLegal read (looked_early ++ Read 13 (name_a ∷ []) ((int 1 ∷ []) ∷ []) ∷ []) → ⊥
early_reads_row l = cc l.0.rule.selects.1

-- and one that looked after it does, though its transaction began before
late_reads_row : IsLegal read (looked_late ++ Read 13 (name_a ∷ []) ((int 1 ∷ []) ∷ []) ∷ [])
late_reads_row = looked_late_is_legal ▸ may_read refl (may_act refl refl refl refl refl) (refl, refl) refl tt tt

-- (it can't miss it)
late_reads_none : IsLegal read (looked_late ++ Read 13 (name_a ∷ []) [] ∷ []) → ⊥
late_reads_none l = cc l.0.rule.selects.1

-- A block of four statements after the CREATE TABLE: the column is added between two rows, and all is read.
-- INSERT INTO t VALUES (2)
abbrev insert_more : Statement
insert_more = statements.Insert name_t (int 2 ∷ [])

abbrev four : List ScriptBlock
four = record { session = 0; script = Ok (insert ∷ add_column ∷ insert_more ∷ select ∷ []) } ∷ []

abbrev looked_four : List Entry
looked_four = ended_create ++ Give 0 1 ∷ Start 0 levels.ReadCommitted
    ∷ Lock 8 3 RowExclusive ∷ Look 8 ∷ Add 8 3 (int 1 ∷ []) ∷ Done 0 (replies.Tag tags.Insert 1)
    ∷ Lock 8 3 AccessExclusive ∷ Look 8 ∷ Alter 8 3 1 [] ∷ Done 0 (replies.Tag tags.AlterTable 0)
    ∷ Look 8 ∷ Add 8 3 (int 2 ∷ int 5 ∷ []) ∷ Done 0 (replies.Tag tags.Insert 1)
    ∷ Lock 8 3 AccessShare ∷ Look 8 ∷ []

-- each statement finds what those before it did; the second row needs no lock that isn't held already
looked_four_is_legal : IsLegal (terms_with four) looked_four
looked_four_is_legal =
    create_is_legal four
    ▸ may_give (omega arith) refl refl refl refl tt
    ▸ may_start refl refl refl refl tt
    ▸ may_lock refl refl refl refl refl refl refl refl tt tt
    ▸ may_look refl refl refl refl refl refl refl tt tt
    ▸ may_add refl (may_act refl refl refl refl refl) (refl, refl) refl tt tt
    ▸ may_be_done refl refl refl tt
    ▸ may_lock refl refl refl refl refl refl refl refl tt tt
    ▸ may_look refl refl refl refl refl refl refl tt refl
    ▸ may_alter refl (may_act refl refl refl refl refl) (refl, λ c there. absurd c.demand) refl refl tt refl
    ▸ may_be_done refl refl refl tt
    ▸ may_look refl refl refl refl refl refl refl tt refl
    ▸ may_add refl (may_act refl refl refl refl refl) (refl, refl) refl tt refl
    ▸ may_be_done refl refl refl tt
    ▸ may_lock refl refl refl refl refl refl refl refl tt refl
    ▸ may_look refl refl refl refl refl refl refl tt refl

-- the transaction reads both rows in the order in which they came, each with the default of the new column
four_is_legal : IsLegal (terms_with four) (looked_four ++ Read 8 (name_a ∷ name_b ∷ []) ((int 1 ∷ int 5 ∷ []) ∷ (int 2 ∷ int 5 ∷ []) ∷ []) ∷ Done 0 (replies.Rows 22) ∷ Commit 8 ∷ End 0 ∷ [])
four_is_legal =
    looked_four_is_legal
    ▸ may_read refl (may_act refl refl refl refl refl) (refl, refl) refl tt refl
    ▸ may_be_done refl refl refl tt
    ▸ may_commit refl refl refl refl refl refl refl
    ▸ may_end refl refl (inl (no_more refl refl)) refl refl refl

-- not in another order
rows_swapped : IsLegal (terms_with four) (looked_four ++ Read 8 (name_a ∷ name_b ∷ []) ((int 2 ∷ int 5 ∷ []) ∷ (int 1 ∷ int 5 ∷ []) ∷ []) ∷ []) → ⊥
rows_swapped l = cc l.0.rule.selects.1

-- nobody else finds any of it before the Commit
four_hidden : committed (terms_with four) (reverse looked_four) ≡ narrow [] ∷ []
four_hidden = refl

-- the second row has the number of its own Add
four_found : latest (terms_with four) (reverse looked_four) 8 ≡ wide (record { number = 11; version = 11; values = int 1 ∷ int 5 ∷ [] } ∷ record { number = 18; version = 18; values = int 2 ∷ int 5 ∷ [] } ∷ []) ∷ []
four_found = refl

-- A block adds the column twice.
abbrev twice : List ScriptBlock
twice = record { session = 0; script = Ok (add_column ∷ add_column ∷ []) } ∷ []

abbrev twice_added : List Entry
twice_added = ended_create ++ Give 0 1 ∷ Start 0 levels.ReadCommitted ∷ Lock 8 3 AccessExclusive ∷ Look 8 ∷ Alter 8 3 0 [] ∷ Done 0 (replies.Tag tags.AlterTable 0) ∷ Look 8 ∷ Refuse 0 (causes.TwiceColumn name_b) ∷ Abort 8 ∷ End 0 ∷ []

-- the second is refused,
twice_added_is_legal : IsLegal (terms_with twice) twice_added
twice_added_is_legal =
    create_is_legal twice
    ▸ may_give (omega arith) refl refl refl refl tt
    ▸ may_start refl refl refl refl tt
    ▸ may_lock refl refl refl refl refl refl refl refl tt tt
    ▸ may_look refl refl refl refl refl refl refl tt refl
    ▸ may_alter refl (may_act refl refl refl refl refl) (refl, λ c there. absurd c.demand) refl refl tt refl
    ▸ may_be_done refl refl refl tt
    ▸ may_look refl refl refl refl refl refl refl tt refl
    ▸ may_refuse refl refl refl tt
    ▸ may_abort refl refl (inl refl) refl refl
    ▸ may_end refl refl (inr refl) refl refl refl

-- and the first is undone with it
first_undone : committed (terms_with twice) (reverse twice_added) ≡ narrow [] ∷ []
first_undone = refl

-- a block without statements ends at once, without a transaction
empty_block : IsLegal (terms_of 1 (record { session = 0; script = Ok ([]) } ∷ [])) (Give 0 0 ∷ End 0 ∷ [])
empty_block = tt ▸ may_give (omega arith) refl refl refl refl tt ▸ may_end refl refl (inl (no_more refl refl)) refl refl tt
