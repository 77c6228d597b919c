-- Journals with refusals that aren't legal.
use Rattle.std.specs.Prelude.{◌≡◌, ℕ, [], ◌∷◌, ◌++◌, Option, Some, slice_index}
use Rattle.std.proofs.Common.{arith, ap, inl, inr}
use Rattle.al_values.specs.declared.scalar.Value.TheVariants as values
use Rattle.al_modes.specs.declared.level.Level.TheVariants as levels
use Rattle.al_statements.specs.declared.reply.Tag.TheVariants as tags
use Rattle.al_statements.specs.declared.reply.Reply.TheVariants as replies
use Rattle.al_statements.specs.declared.cause.Cause.{Cause}
use Rattle.al_statements.specs.declared.cause.Cause.TheVariants as causes
use Rattle.al_history.specs.declared.entry.Entry.TheVariants.{Give, Start, Look, Make, Add, Done, Refuse, Commit, Abort, End}
use Rattle.al_history.specs.declared.statement.Statement.{Statement}
use Rattle.al_history.specs.declared.statement.Statement.TheVariants as statements
use Rattle.al_history.specs.declared.statement.Terms.{Terms}
use Rattle.al_history.specs.Legal.{IsLegal}
use Rattle.al_history.proofs.Worked.Rules.{none_some, some_none}
use Rattle.al_history.proofs.Worked.Journals.{name_t, name_a, name_b, int, column_a, insert, alone, terms, terms_with, looked_create, acted_create, done_create, ended_create}
use Rattle.al_history.proofs.Worked.Causes.{name_u, one_block, again, looked_again, refused_again, create_twice, looked_twice, started_one, counted, looked_counted}

-- a statement is refused for a cause that isn't true
refused_for_nothing : IsLegal terms (looked_create ++ Refuse 0 (causes.TwiceTable name_t) ∷ []) → ⊥
refused_for_nothing l = none_some l.0.rule.first_true

-- the first byte of the name that a cause tells
abbrev letter : Option Cause → ℕ
letter (Some (causes.NoTable name)) = slice_index name 0
letter (Some (causes.TwiceTable name)) = slice_index name 0
letter (Some (causes.TwiceColumn name)) = slice_index name 0
letter cause = 0

-- a statement is refused for a name that isn't the one in the way
refused_for_other_name : IsLegal again (looked_again ++ Refuse 0 (causes.TwiceTable name_u) ∷ []) → ⊥
refused_for_other_name l = let told : ◌≡◌ {A = ℕ} 116 117 = ap letter l.0.rule.first_true in omega arith

-- CREATE TABLE t (b integer, b integer), where t is there already
abbrev pub create_both : Statement
create_both = statements.CreateTable name_t (name_b ∷ name_b ∷ [])

abbrev pub both : Terms
both = terms_with (alone 0 create_both ∷ [])

-- the column is told where the table comes first
later_cause : IsLegal both (looked_again ++ Refuse 0 (causes.TwiceColumn name_b) ∷ []) → ⊥
later_cause l = cc l.0.rule.first_true

-- of two columns that stand twice the later is told
later_column : IsLegal (one_block create_twice) (looked_twice ++ Refuse 0 (causes.TwiceColumn name_a) ∷ []) → ⊥
later_column l = let told : ◌≡◌ {A = ℕ} 98 97 = ap letter l.0.rule.first_true in omega arith

-- the columns and the values are counted the wrong way round
counts_swapped : IsLegal counted (looked_counted ++ Refuse 0 (causes.Count 2 1) ∷ []) → ⊥
counts_swapped l = cc l.0.rule.first_true

-- a statement is refused before its transaction begins
refused_before_start : IsLegal (one_block insert) (Give 0 0 ∷ Refuse 0 (causes.NoTable name_t) ∷ []) → ⊥
refused_before_start l = none_some l.0.rule.first_true

-- a table in the way is told before the statement's Look
refused_before_look : IsLegal again (ended_create ++ Give 0 1 ∷ Start 0 levels.ReadCommitted ∷ Refuse 0 (causes.TwiceTable name_t) ∷ []) → ⊥
refused_before_look l = none_some l.0.rule.first_true

-- another session is refused
refused_elsewhere : IsLegal again (looked_again ++ Refuse 1 (causes.TwiceTable name_t) ∷ []) → ⊥
refused_elsewhere l = none_some l.0.rule.first_true

-- a statement is refused that has acted
refused_after_act : IsLegal terms (acted_create ++ Refuse 0 (causes.TwiceTable name_t) ∷ []) → ⊥
refused_after_act l = none_some l.0.rule.first_true

-- a statement looks whose table isn't there
look_for_nothing : IsLegal (one_block insert) (started_one ++ Look 1 ∷ []) → ⊥
look_for_nothing l = some_none l.0.rule.not_refused

-- a table is made whose name is there
made_again : IsLegal again (looked_again ++ Make 8 10 name_t (record { name = name_b; default = values.Null } ∷ []) ∷ []) → ⊥
made_again l = some_none l.0.rule.act.not_refused

-- a table is made with a column that stands twice
made_twice : IsLegal (one_block create_twice) (looked_twice ++ Make 1 3 name_t (column_a ∷ []) ∷ []) → ⊥
made_twice l = some_none l.0.rule.act.not_refused

-- a row is added that has too many values
added_too_long : IsLegal counted (looked_counted ++ Add 8 3 (int 1 ∷ int 5 ∷ []) ∷ []) → ⊥
added_too_long l = some_none l.0.rule.act.not_refused

-- a statement is done that has to be refused
done_anyway : IsLegal again (looked_again ++ Done 0 (replies.Tag tags.CreateTable 0) ∷ []) → ⊥
done_anyway l = l.0.rule.answers

-- a step ends after a refusal while its transaction is open
abort_dropped : IsLegal again (refused_again ++ End 0 ∷ []) → ⊥
abort_dropped l = cc l.0.follows

-- a transaction commits after a refusal
commit_for_abort : IsLegal again (refused_again ++ Commit 8 ∷ []) → ⊥
commit_for_abort l = cc l.0.follows

-- a statement goes on after its refusal
done_after_refusal : IsLegal again (refused_again ++ Done 0 (replies.Tag tags.CreateTable 0) ∷ []) → ⊥
done_after_refusal l = l.0.rule.answers

-- a statement is refused twice
refused_doubled : IsLegal again (refused_again ++ Refuse 0 (causes.TwiceTable name_t) ∷ []) → ⊥
refused_doubled l = cc l.0.follows

-- another transaction aborts
abort_of_other : IsLegal again (refused_again ++ Abort 1 ∷ []) → ⊥
abort_of_other l = cc l.0.rule.open_xact

-- a step goes on after its transaction aborted
start_after_abort : IsLegal again (refused_again ++ Abort 8 ∷ Start 0 levels.ReadCommitted ∷ []) → ⊥
start_after_abort l = cc l.0.follows

-- a transaction aborts in its step, where nothing was refused
abort_for_nothing : IsLegal terms (looked_create ++ Abort 1 ∷ []) → ⊥
abort_for_nothing l = elim l.0.rule.refused_or_idle [ inl was ↦ elim was [ inl refused ↦ cc refused | inr idle ↦ cc idle ] | inr rollback ↦ cc rollback ]

-- a transaction aborts in place of its Commit
abort_for_commit : IsLegal terms (done_create ++ Abort 1 ∷ []) → ⊥
abort_for_commit l = cc l.0.follows
