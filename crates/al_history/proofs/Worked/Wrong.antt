-- Journals that aren't legal, each a small change of a right one.
use Rattle.std.specs.Prelude.{◌≡◌, ℕ, List, [], ◌∷◌, ◌++◌, ◌<◌, slice_index}
use Rattle.std.proofs.Common.{inl, inr, arith, ap}
use Rattle.al_values.specs.declared.scalar.Value.TheVariants as values
use Rattle.al_modes.specs.declared.level.Level.TheVariants as levels
use Rattle.al_statements.specs.declared.reply.Tag.TheVariants as tags
use Rattle.al_statements.specs.declared.reply.Reply.{Reply}
use Rattle.al_statements.specs.declared.reply.Reply.TheVariants as replies
use Rattle.al_history.specs.declared.entry.Entry.TheVariants.{Give, Start, Look, Make, Add, Read, Alter, Done, Commit, End, Close}
use Rattle.al_history.specs.Legal.{IsLegal}
use Rattle.al_history.proofs.Worked.Journals.{terms_of, name_t, name_a, name_b, int, column_a, column_b, insert, alone, terms, given_create, started_create, looked_create, acted_create, done_create, ended_create, looked_insert, acted_insert, done_insert, looked_alter, looked_select, acted_select, ended_select}
use Rattle.al_history.proofs.Worked.Causes.{name_u, pair, added_again, looked_added, done_first, looked_second}
use Rattle.al_history.proofs.Worked.Rules.{false_true, none_some, some_none, true_false}

-- An entry is dropped.

-- a statement begins in a session that was given no block
give_dropped : IsLegal terms (Start 0 levels.ReadCommitted ∷ []) → ⊥
give_dropped l = none_some l.0.rule.statement

-- a statement looks without a transaction
start_dropped : IsLegal terms (given_create ++ Look 1 ∷ []) → ⊥
start_dropped l = none_some l.0.rule.open_xact

-- a statement acts without its Look
look_dropped : IsLegal terms (started_create ++ Make 1 2 name_t (column_a ∷ []) ∷ []) → ⊥
look_dropped l = false_true l.0.rule.act.looked

-- a CREATE TABLE is done without making its table
make_dropped : IsLegal terms (looked_create ++ Done 0 (replies.Tag tags.CreateTable 0) ∷ []) → ⊥
make_dropped l = l.0.rule.answers

-- an INSERT is done without adding its row
add_dropped : IsLegal terms (looked_insert ++ Done 0 (replies.Tag tags.Insert 1) ∷ []) → ⊥
add_dropped l = l.0.rule.answers

-- a SELECT is done without reading
read_dropped : IsLegal terms (looked_select ++ Done 1 (replies.Rows 26) ∷ []) → ⊥
read_dropped l = l.0.rule.answers

-- a transaction commits whose statement isn't done
done_dropped : IsLegal terms (acted_create ++ Commit 1 ∷ []) → ⊥
done_dropped l = elim l.0.rule.ends [ inl last ↦ cc last.0 | inr commit ↦ cc commit ]

-- a step ends whose transaction is open
commit_dropped : IsLegal terms (done_create ++ End 0 ∷ []) → ⊥
commit_dropped l = cc l.0.follows

-- a block is given to a session whose step hasn't ended
end_dropped : IsLegal terms (done_create ++ Commit 1 ∷ Give 0 1 ∷ []) → ⊥
end_dropped l = cc l.0.follows

-- An entry is doubled.

-- a block is given to a session that has one in hand
given_busy : IsLegal terms (given_create ++ Give 0 1 ∷ []) → ⊥
given_busy l = some_none l.0.rule.idle

-- a transaction begins while one is open
start_doubled : IsLegal terms (started_create ++ Start 0 levels.ReadCommitted ∷ []) → ⊥
start_doubled l = some_none l.0.rule.none_open

-- a statement looks twice
look_doubled : IsLegal terms (looked_create ++ Look 1 ∷ []) → ⊥
look_doubled l = some_none l.0.rule.first

-- a CREATE TABLE makes two tables
make_doubled : IsLegal terms (acted_create ++ Make 1 4 name_t (column_a ∷ []) ∷ []) → ⊥
make_doubled l = cc l.0.rule.act.first

-- an INSERT of one row adds it twice
add_doubled : IsLegal terms (acted_insert ++ Add 8 3 (int 1 ∷ []) ∷ []) → ⊥
add_doubled l = cc l.0.rule.act.first

-- a SELECT reads twice
read_doubled : IsLegal terms (acted_select ++ Read 24 (name_a ∷ name_b ∷ []) ((int 1 ∷ int 5 ∷ []) ∷ []) ∷ []) → ⊥
read_doubled l = cc l.0.rule.act.first

-- the last statement of a step is done twice
done_doubled : IsLegal terms (done_insert ++ Done 0 (replies.Tag tags.Insert 1) ∷ []) → ⊥
done_doubled l = cc l.0.follows

-- the first of two statements is done twice
first_done_doubled : IsLegal (pair insert) (done_first ++ Done 0 (replies.Tag tags.CreateTable 0) ∷ []) → ⊥
first_done_doubled l = l.0.rule.answers

-- a transaction commits twice
commit_doubled : IsLegal terms (done_create ++ Commit 1 ∷ Commit 1 ∷ []) → ⊥
commit_doubled l = cc l.0.follows

-- a step ends twice
end_doubled : IsLegal terms (ended_create ++ End 0 ∷ []) → ⊥
end_doubled l = false_true l.0.rule.in_step

-- a session is closed twice
close_doubled : IsLegal terms (ended_select ++ Close 1 ∷ Close 1 ∷ []) → ⊥
close_doubled l = true_false l.0.rule.not_closed

-- An entry is moved.

-- a step ends before its transaction commits
end_before_commit : IsLegal terms (done_create ++ End 0 ∷ Commit 1 ∷ []) → ⊥
end_before_commit l = cc l.1.0.follows

-- a transaction commits between the statements of its block
commit_between : IsLegal (pair insert) (done_first ++ Commit 1 ∷ []) → ⊥
commit_between l = elim l.0.rule.ends [ inl last ↦ cc last.0 | inr commit ↦ cc commit ]

-- a session is closed before its step ends
close_before_end : IsLegal terms (given_create ++ Close 0 ∷ []) → ⊥
close_before_end l = some_none l.0.rule.idle

-- a block is given to a session that is closed
give_after_close : IsLegal terms (ended_create ++ Close 0 ∷ Give 0 1 ∷ []) → ⊥
give_after_close l = true_false l.0.rule.not_closed

-- An entry is of the wrong session, transaction, table or block.

-- a block is given to another session than its own
other_session : IsLegal terms (Give 1 0 ∷ []) → ⊥
other_session l = cc l.0.rule.of_session

-- a block is given that isn't there
no_block : IsLegal terms (Give 0 4 ∷ []) → ⊥
no_block l = none_some l.0.rule.of_session

-- a block is given to a session that isn't there
no_session : IsLegal (terms_of 1 (alone 1 insert ∷ [])) (Give 1 0 ∷ []) → ⊥
no_session l = let known : 1 < 1 = l.0.rule.known in omega arith

-- another session than the one of the block begins
other_start : IsLegal terms (given_create ++ Start 1 levels.ReadCommitted ∷ []) → ⊥
other_start l = none_some l.0.rule.statement

-- a statement looks for a transaction that isn't there
look_of_none : IsLegal terms (started_create ++ Look 0 ∷ []) → ⊥
look_of_none l = cc l.0.rule.open_xact

-- a row is added by a transaction that has committed
add_of_ended : IsLegal terms (looked_insert ++ Add 1 3 (int 1 ∷ []) ∷ []) → ⊥
add_of_ended l = cc l.0.rule.act.open_xact

-- a row is added to another table
add_elsewhere : IsLegal terms (looked_insert ++ Add 8 4 (int 1 ∷ []) ∷ []) → ⊥
add_elsewhere l = cc l.0.rule.inserts.0

-- another table is altered
alter_elsewhere : IsLegal terms (looked_alter ++ Alter 16 4 0 [] ∷ []) → ⊥
alter_elsewhere l = cc l.0.rule.alters.0

-- a transaction commits that isn't the session's
commit_of_none : IsLegal terms (done_create ++ Commit 0 ∷ []) → ⊥
commit_of_none l = cc l.0.rule.open_xact

-- another session's step ends
end_of_other : IsLegal terms (done_create ++ Commit 1 ∷ End 1 ∷ []) → ⊥
end_of_other l = false_true l.0.rule.in_step

-- a session is closed that isn't there
close_of_none : IsLegal terms (ended_select ++ Close 2 ∷ []) → ⊥
close_of_none l = let known : 2 < 2 = l.0.rule.known in omega arith

-- An entry has the wrong words.

-- a transaction begins at another level
other_level : IsLegal terms (given_create ++ Start 0 levels.RepeatableRead ∷ []) → ⊥
other_level l = cc l.0.rule.read_committed

-- a table is made of another name
other_name : IsLegal terms (looked_create ++ Make 1 3 name_u (column_a ∷ []) ∷ []) → ⊥
other_name l = let first : ◌≡◌ {A = ℕ} 117 116 = ap (λ (name : List ℕ). slice_index name 0) l.0.rule.creates.0 in omega arith

-- a table is made of other columns
other_columns : IsLegal terms (looked_create ++ Make 1 3 name_t (column_a ∷ column_b ∷ []) ∷ []) → ⊥
other_columns l = cc l.0.rule.creates.1

-- a table has another number than the place of its Make
other_number : IsLegal terms (looked_create ++ Make 1 4 name_t (column_a ∷ []) ∷ []) → ⊥
other_number l = cc l.0.rule.number

-- a row has another value
other_value : IsLegal terms (looked_insert ++ Add 8 3 (int 2 ∷ []) ∷ []) → ⊥
other_value l = cc l.0.rule.inserts.1

-- a row lacks the default of its second column
row_too_short : IsLegal (pair insert) (looked_second ++ Add 1 3 (int 1 ∷ []) ∷ []) → ⊥
row_too_short l = cc l.0.rule.inserts.1

-- a row has another value in place of the default
other_default : IsLegal (pair insert) (looked_second ++ Add 1 3 (int 1 ∷ int 1 ∷ []) ∷ []) → ⊥
other_default l = cc l.0.rule.inserts.1

-- an INSERT is done with the reply of an ALTER TABLE
other_reply : IsLegal terms (acted_insert ++ Done 0 (replies.Tag tags.AlterTable 0) ∷ []) → ⊥
other_reply l = cc l.0.rule.answers

-- an INSERT of one row tells two
other_count : IsLegal terms (acted_insert ++ Done 0 (replies.Tag tags.Insert 2) ∷ []) → ⊥
other_count l = cc l.0.rule.answers

abbrev place_of : Reply → ℕ
place_of (replies.Tag tag count) = 0
place_of (replies.Rows place) = place

-- a SELECT tells another place than that of its Read
other_place : IsLegal terms (acted_select ++ Done 1 (replies.Rows 26) ∷ []) → ⊥
other_place l = let place : ◌≡◌ {A = ℕ} 26 27 = ap place_of l.0.rule.answers in omega arith

-- a SELECT answers with a tag
tag_of_select : IsLegal terms (acted_select ++ Done 1 (replies.Tag tags.Insert 1) ∷ []) → ⊥
tag_of_select l = cc l.0.rule.answers

-- a SELECT misses a row
row_missed : IsLegal terms (looked_select ++ Read 24 (name_a ∷ name_b ∷ []) [] ∷ []) → ⊥
row_missed l = cc l.0.rule.selects.1

-- a SELECT reads a row twice
row_doubled : IsLegal terms (looked_select ++ Read 24 (name_a ∷ name_b ∷ []) ((int 1 ∷ int 5 ∷ []) ∷ (int 1 ∷ int 5 ∷ []) ∷ []) ∷ []) → ⊥
row_doubled l = cc l.0.rule.selects.1

-- a SELECT reads the row as it was before the ALTER TABLE
row_unmapped : IsLegal terms (looked_select ++ Read 24 (name_a ∷ name_b ∷ []) ((int 1 ∷ []) ∷ []) ∷ []) → ⊥
row_unmapped l = cc l.0.rule.selects.1

-- a SELECT finds Null where the new column's default is 5
default_missed : IsLegal terms (looked_select ++ Read 24 (name_a ∷ name_b ∷ []) ((int 1 ∷ values.Null ∷ []) ∷ []) ∷ []) → ⊥
default_missed l = cc l.0.rule.selects.1

-- a SELECT misses the new column's name
name_missed : IsLegal terms (looked_select ++ Read 24 (name_a ∷ []) ((int 1 ∷ int 5 ∷ []) ∷ []) ∷ []) → ⊥
name_missed l = cc l.0.rule.selects.0

-- a SELECT reads the columns in another order
names_swapped : IsLegal terms (looked_select ++ Read 24 (name_b ∷ name_a ∷ []) ((int 5 ∷ int 1 ∷ []) ∷ []) ∷ []) → ⊥
names_swapped l = cc l.0.rule.selects.1

-- an ALTER TABLE adds a column that is there already
column_there : IsLegal added_again (looked_added ++ Alter 8 3 0 [] ∷ []) → ⊥
column_there l = some_none l.0.rule.act.not_refused

-- an ALTER TABLE is told as the second statement of its block
other_statement : IsLegal terms (looked_alter ++ Alter 16 3 1 [] ∷ []) → ⊥
other_statement l = cc l.0.rule.number

-- adding a column rewrites a table
rewritten : IsLegal terms (looked_alter ++ Alter 16 3 0 (record { table = 3; rows = record { number = 11; values = int 1 ∷ int 5 ∷ [] } ∷ [] } ∷ []) ∷ []) → ⊥
rewritten l = cc l.0.rule.none_rewritten

-- An entry is of another statement.

-- an INSERT makes a table
make_for_insert : IsLegal terms (looked_insert ++ Make 8 11 name_t (column_a ∷ []) ∷ []) → ⊥
make_for_insert l = l.0.rule.creates

-- a SELECT adds a row
add_for_select : IsLegal terms (looked_select ++ Add 24 3 (int 1 ∷ int 5 ∷ []) ∷ []) → ⊥
add_for_select l = l.0.rule.inserts

-- an ALTER TABLE reads
read_for_alter : IsLegal terms (looked_alter ++ Read 16 (name_a ∷ []) ((int 1 ∷ []) ∷ []) ∷ []) → ⊥
read_for_alter l = l.0.rule.selects
