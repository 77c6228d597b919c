-- Worked reports, by computation.
use Rattle.std.proofs.Common.{◌≡◌, ◌≢◌, ℕ, List, [], ◌∷◌, ◌++◌, codes, pos, refl, true, false}
use Rattle.std.specs.Fmt.{digits}
use Rattle.al_values.specs.declared.scalar.Value.TheVariants as values
use Rattle.al_modes.specs.declared.level.Level.TheVariants as levels
use Rattle.al_modes.specs.declared.mode.Mode.TheVariants as modes
use Rattle.al_statements.specs.declared.cause.Cause.TheVariants as causes
use Rattle.al_history.specs.declared.entry.Entry.{Entry}
use Rattle.al_history.specs.declared.entry.Entry.TheVariants as entries
use Rattle.al_statements.specs.declared.reply.Reply.TheVariants as replies
use Rattle.al_statements.specs.declared.cause.RunLimit.TheVariants as limits
use Rattle.al_statements.specs.declared.reply.Tag.TheVariants as tags
use Rattle.al_history.specs.declared.entry.Want.TheVariants as wants
use Rattle.al_history.specs.declared.run.Run.{Run}
use Rattle.al_history.specs.declared.run.Setup.{Setup}
use Rattle.al_history.specs.declared.run.Setup.TheVariants as setups
use Rattle.al_spec.specs.declared.spec.Block.{Block}
use Rattle.al_spec.specs.declared.spec.Part.TheVariants as parts
use Rattle.al_spec.specs.declared.spec.Spec.{Spec}
use Rattle.al_app.specs.Report.{report, run_text, blocked_text, name_text, step_text, row_count_text, waits}
use Rattle.al_app.specs.Causes.{cause_text}
use Rattle.al_spec.specs.Tokens.{word_of}

-- one session, two setup blocks, two steps and the permutation of both
abbrev spec_with : List ℕ → Spec
spec_with second = record {
  sessions = codes "s1" ∷ [];
  blocks =
      record { part = parts.Setup; session = 0; name = []; text = codes "CREATE TABLE t (a integer)" }
      ∷ record { part = parts.Setup; session = 0; name = []; text = second }
      ∷ record { part = parts.Step; session = 1; name = codes "add"; text = codes "ALTER TABLE t ADD COLUMN b integer;" }
      ∷ record { part = parts.Step; session = 1; name = codes "sel"; text = codes "SELECT * FROM t;" }
      ∷ [];
  permutations = (2 ∷ 3 ∷ []) ∷ [];
}

abbrev run_with : Setup → List Entry → Run
run_with setup journal = record { permutation = 1; setup = setup; history = record { entries = journal; room = 0 } }

whole_run :
    report (spec_with (codes "INSERT INTO t VALUES (1)"))
    (run_with setups.Done
    (entries.Give 0 0 ∷ entries.Done 0 (replies.Tag tags.CreateTable 0) ∷ entries.End 0
    ∷ entries.Give 0 1 ∷ entries.Done 0 (replies.Tag tags.Insert 1) ∷ entries.End 0
    ∷ entries.Give 1 2 ∷ entries.Done 1 (replies.Tag tags.AlterTable 0) ∷ entries.End 1
    ∷ entries.Give 1 3
    ∷ entries.Read 10 (codes "a" ∷ codes "b" ∷ []) ((values.Int (pos 1) ∷ values.Null ∷ []) ∷ [])
    ∷ entries.Done 1 (replies.Rows 10) ∷ entries.End 1 ∷ []) ∷ [])
    ≡ codes "Parsed test spec with 1 sessions\n\nstarting permutation: add sel\nsetup 1\nCREATE TABLE\nsetup 2\nINSERT 0 1\nstep add: ALTER TABLE t ADD COLUMN b integer;\nALTER TABLE\nstep sel: SELECT * FROM t;\na|b\n1|\n(1 row)\n"
unfolding report run_text blocked_text name_text word_of step_text digits
whole_run = refl

failed_setup :
    report (spec_with (codes "CREATE TABLE t (b integer)"))
    (run_with (setups.Failed 1)
    (entries.Give 0 0 ∷ entries.Done 0 (replies.Tag tags.CreateTable 0) ∷ entries.End 0
    ∷ entries.Give 0 1 ∷ entries.Refuse 0 (causes.TwiceTable (codes "t")) ∷ entries.End 0 ∷ []) ∷ [])
    ≡ codes "Parsed test spec with 1 sessions\n\nstarting permutation: add sel\nsetup 1\nCREATE TABLE\nsetup 2\nERROR: 42P07: table \"t\" already exists\nsetup failed\n"
unfolding report run_text blocked_text name_text word_of step_text digits
failed_setup = refl

-- what isn't there has no text: a permutation, a block, a Read
missing :
    report (spec_with [])
    (record { permutation = 2; setup = setups.Done; history = record { entries = entries.Give 1 9 ∷ entries.Done 1 (replies.Rows 0) ∷ []; room = 0 } } ∷ [])
    ≡ codes "Parsed test spec with 1 sessions\n\nstarting permutation: \n"
unfolding report run_text blocked_text name_text word_of step_text digits
missing = refl

no_rows : row_count_text 0 ≡ codes "(0 rows)\n"
unfolding digits
no_rows = refl

one_row_is_no_plural : row_count_text 1 ≢ codes "(1 rows)\n"
one_row_is_no_plural e = cc e

-- ---- sessions that wait

abbrev step : ℕ → List ℕ → List ℕ → Block
step session name text = record { part = parts.Step; session = session; name = name; text = text }

-- a table with a row, made by two setup blocks, and steps of three sessions
abbrev waiting_spec : List ℕ → Spec
waiting_spec steps = record {
  sessions = codes "s1" ∷ codes "s2" ∷ codes "s3" ∷ [];
  blocks =
      record { part = parts.Setup; session = 0; name = []; text = codes "CREATE TABLE t (a integer)" }
      ∷ record { part = parts.Setup; session = 0; name = []; text = codes "INSERT INTO t VALUES (1)" }
      ∷ step 1 (codes "b") (codes "BEGIN")
      ∷ step 1 (codes "x") (codes "ALTER TABLE t ADD COLUMN b integer")
      ∷ step 1 (codes "e") (codes "ROLLBACK")
      ∷ step 2 (codes "r") (codes "SELECT * FROM t")
      ∷ step 3 (codes "y") (codes "ALTER TABLE t ADD COLUMN b integer")
      ∷ [];
  permutations = steps ∷ [];
}

-- the setup part, whose table is number 3, and the ALTER TABLE of an open block, whose transaction is number 16
abbrev altered_journal : List Entry
altered_journal =
    entries.Give 0 0 ∷ entries.Start 0 levels.ReadCommitted ∷ entries.Look 1 ∷ entries.Make 1 3 (codes "t") []
    ∷ entries.Done 0 (replies.Tag tags.CreateTable 0) ∷ entries.Commit 1 ∷ entries.End 0
    ∷ entries.Give 0 1 ∷ entries.Start 0 levels.ReadCommitted ∷ entries.Lock 8 3 modes.RowExclusive ∷ entries.Look 8
    ∷ entries.Add 8 3 (values.Int (pos 1) ∷ []) ∷ entries.Done 0 (replies.Tag tags.Insert 1) ∷ entries.Commit 8 ∷ entries.End 0
    ∷ entries.Give 1 2 ∷ entries.Start 1 levels.ReadCommitted ∷ entries.Done 1 (replies.Tag tags.Begin 0) ∷ entries.End 1
    ∷ entries.Give 1 3 ∷ entries.Lock 16 3 modes.AccessExclusive ∷ entries.Look 16 ∷ entries.Alter 16 3 0 []
    ∷ entries.Done 1 (replies.Tag tags.AlterTable 0) ∷ entries.End 1 ∷ []

abbrev altered_text : List ℕ → List ℕ → List ℕ
altered_text names later =
    codes "Parsed test spec with 3 sessions\n\nstarting permutation: " ++ names
    ++ codes "\nsetup 1\nCREATE TABLE\nsetup 2\nINSERT 0 1\nstep b: BEGIN\nBEGIN\nstep x: ALTER TABLE t ADD COLUMN b integer\nALTER TABLE\n"
    ++ later

-- a reader waits for the block's end, and is completed after the step that ends it
reader_waits :
    report (waiting_spec (2 ∷ 3 ∷ 5 ∷ 4 ∷ []))
    (run_with setups.Done
    (altered_journal
    ++ entries.Give 2 5 ∷ entries.Start 2 levels.ReadCommitted ∷ entries.Wait 26 (wants.Table 3 modes.AccessShare)
    ∷ entries.Give 1 4 ∷ entries.Abort 16 ∷ entries.Lock 26 3 modes.AccessShare
    ∷ entries.Done 1 (replies.Tag tags.Rollback 0) ∷ entries.End 1
    ∷ entries.Look 26 ∷ entries.Read 26 (codes "a" ∷ []) ((values.Int (pos 1) ∷ []) ∷ [])
    ∷ entries.Done 2 (replies.Rows 34) ∷ entries.Commit 26 ∷ entries.End 2
    ∷ entries.Close 1 ∷ entries.Close 2 ∷ entries.Close 3 ∷ entries.Close 0 ∷ []) ∷ [])
    ≡ altered_text (codes "b x r e") (codes "step r: SELECT * FROM t <waiting ...>\nstep e: ROLLBACK\nROLLBACK\nstep r: <... completed>\na\n1\n(1 row)\n")
unfolding report run_text blocked_text name_text word_of step_text digits
reader_waits = refl

-- two steps that wait, and are completed in the order of their Ends
two_completed :
    report (waiting_spec (2 ∷ 3 ∷ 6 ∷ 5 ∷ 4 ∷ []))
    (run_with setups.Done
    (altered_journal
    ++ entries.Give 3 6 ∷ entries.Start 3 levels.ReadCommitted ∷ entries.Wait 26 (wants.Table 3 modes.AccessExclusive)
    ∷ entries.Give 2 5 ∷ entries.Start 2 levels.ReadCommitted ∷ entries.Wait 29 (wants.Table 3 modes.AccessShare)
    ∷ entries.Give 1 4 ∷ entries.Abort 16 ∷ entries.Lock 26 3 modes.AccessExclusive
    ∷ entries.Done 1 (replies.Tag tags.Rollback 0) ∷ entries.End 1
    ∷ entries.Look 26 ∷ entries.Alter 26 3 0 [] ∷ entries.Done 3 (replies.Tag tags.AlterTable 0) ∷ entries.Commit 26
    ∷ entries.Lock 29 3 modes.AccessShare ∷ entries.End 3
    ∷ entries.Look 29 ∷ entries.Read 29 (codes "a" ∷ codes "b" ∷ []) ((values.Int (pos 1) ∷ values.Null ∷ []) ∷ [])
    ∷ entries.Done 2 (replies.Rows 43) ∷ entries.Commit 29 ∷ entries.End 2
    ∷ entries.Close 1 ∷ entries.Close 2 ∷ entries.Close 3 ∷ entries.Close 0 ∷ []) ∷ [])
    ≡ altered_text (codes "b x y r e") (codes "step y: ALTER TABLE t ADD COLUMN b integer <waiting ...>\nstep r: SELECT * FROM t <waiting ...>\nstep e: ROLLBACK\nROLLBACK\nstep y: <... completed>\nALTER TABLE\nstep r: <... completed>\na|b\n1|\n(1 row)\n")
unfolding report run_text blocked_text name_text word_of step_text digits
two_completed = refl

-- a step for a session that waits isn't given, and none after it; then the steps that wait are cancelled
blocked_step :
    report (waiting_spec (2 ∷ 3 ∷ 6 ∷ 5 ∷ 5 ∷ 4 ∷ []))
    (run_with setups.Done
    (altered_journal
    ++ entries.Give 3 6 ∷ entries.Start 3 levels.ReadCommitted ∷ entries.Wait 26 (wants.Table 3 modes.AccessExclusive)
    ∷ entries.Give 2 5 ∷ entries.Start 2 levels.ReadCommitted ∷ entries.Wait 29 (wants.Table 3 modes.AccessShare)
    ∷ entries.Cancel 2 ∷ entries.Refuse 2 (causes.Cancelled 31) ∷ entries.Abort 29 ∷ entries.End 2
    ∷ entries.Cancel 3 ∷ entries.Refuse 3 (causes.Cancelled 35) ∷ entries.Abort 26 ∷ entries.End 3
    ∷ entries.Abort 16 ∷ entries.Close 1 ∷ entries.Close 2 ∷ entries.Close 3 ∷ entries.Close 0 ∷ []) ∷ [])
    ≡ altered_text (codes "b x y r r e") (codes "step y: ALTER TABLE t ADD COLUMN b integer <waiting ...>\nstep r: SELECT * FROM t <waiting ...>\nstep r: not given, session s2 is blocked\nstep r: <... completed>\nERROR: 57014: cancelled\nstep y: <... completed>\nERROR: 57014: cancelled\n")
unfolding report run_text blocked_text name_text word_of step_text digits
blocked_step = refl

-- a part begins with its own step, also where another ends before it; a step that is named twice waits once
own_step_first :
    report (waiting_spec (5 ∷ 4 ∷ 5 ∷ []))
    (run_with setups.Done
    (entries.Give 2 5
    ∷ entries.Give 1 4 ∷ entries.Done 2 (replies.Tag tags.Begin 0) ∷ entries.End 2
    ∷ entries.Done 1 (replies.Tag tags.Rollback 0) ∷ entries.End 1
    ∷ entries.Give 2 5 ∷ entries.Done 2 (replies.Tag tags.Commit 0) ∷ entries.End 2 ∷ []) ∷ [])
    ≡ codes "Parsed test spec with 3 sessions\n\nstarting permutation: r e r\nstep r: SELECT * FROM t <waiting ...>\nstep e: ROLLBACK\nROLLBACK\nstep r: <... completed>\nBEGIN\nstep r: SELECT * FROM t\nCOMMIT\n"
unfolding report run_text blocked_text name_text word_of step_text digits
own_step_first = refl

-- the replies of a setup block follow its head, also where it is cancelled, and no step was to be given after it
cancelled_setup :
    report (waiting_spec (2 ∷ []))
    (run_with (setups.Failed 0)
    (entries.Give 0 0 ∷ entries.Cancel 0 ∷ entries.Refuse 0 (causes.Cancelled 1) ∷ entries.End 0
    ∷ entries.Close 0 ∷ entries.Close 1 ∷ entries.Close 2 ∷ entries.Close 3 ∷ []) ∷ [])
    ≡ codes "Parsed test spec with 3 sessions\n\nstarting permutation: b\nsetup 1\nERROR: 57014: cancelled\nsetup failed\n"
unfolding report run_text blocked_text name_text word_of step_text digits
cancelled_setup = refl

-- a limit of the run is told without the count
journal_limit : cause_text (causes.Limit limits.Journal 2000001) ≡ codes "54000: limit of journal passed"
journal_limit = refl

journal_limit_is_no_cancel : cause_text (causes.Limit limits.Journal 2000001) ≢ codes "57014: cancelled"
journal_limit_is_no_cancel e = cc e

-- an End that comes after the next Give is in a later part, one of another session is none of the step's
late_end_waits : waits parts.Step 2 (entries.Give 1 4 ∷ entries.End 2 ∷ []) ≢ false
late_end_waits e = cc e

end_of_another_waits : waits parts.Step 2 (entries.End 1 ∷ entries.Close 1 ∷ []) ≢ false
end_of_another_waits e = cc e

end_in_part_is_no_wait : waits parts.Step 2 (entries.End 1 ∷ entries.End 2 ∷ entries.Close 1 ∷ []) ≢ true
end_in_part_is_no_wait e = cc e

-- ---- names

plain_names :
    (name_text (codes "s1") ∷ name_text (codes "_a$9") ∷ name_text (codes "é") ∷ name_text (codes "steps") ∷ [])
    ≡ codes "s1" ∷ codes "_a$9" ∷ codes "é" ∷ codes "steps" ∷ []
unfolding name_text word_of
plain_names = refl

quoted_names :
    (name_text (codes "s 1") ∷ name_text (codes "9a") ∷ name_text (codes "$") ∷ name_text (codes "step") ∷ name_text (codes "a\"b") ∷ name_text [] ∷ [])
    ≡ codes "\"s 1\"" ∷ codes "\"9a\"" ∷ codes "\"$\"" ∷ codes "\"step\"" ∷ codes "\"a\"\"b\"" ∷ codes "\"\"" ∷ []
unfolding name_text word_of
quoted_names = refl

quoted_in_a_line : blocked_text (codes "s1" ∷ codes "my session" ∷ []) (step 2 (codes "session") []) ≡ codes "step \"session\": not given, session \"my session\" is blocked\n"
unfolding blocked_text step_text name_text word_of
quoted_in_a_line = refl

-- ---- the heads of all parts

abbrev whole_spec : Spec
whole_spec = record {
  sessions = codes "s1" ∷ codes "s 2" ∷ [];
  blocks =
      record { part = parts.Setup; session = 0; name = []; text = codes "BEGIN" }
      ∷ record { part = parts.Teardown; session = 0; name = []; text = codes "COMMIT" }
      ∷ record { part = parts.SessionSetup; session = 1; name = []; text = codes "BEGIN" }
      ∷ record { part = parts.Step; session = 1; name = codes "x"; text = codes "SELEC" }
      ∷ record { part = parts.SessionTeardown; session = 2; name = []; text = codes "ROLLBACK; BEGIN" }
      ∷ [];
  permutations = (3 ∷ []) ∷ [];
}

all_heads :
    report whole_spec
    (run_with setups.Done
    (entries.Give 0 0 ∷ entries.Done 0 (replies.Tag tags.Begin 0) ∷ entries.End 0
    ∷ entries.Give 1 2 ∷ entries.Refuse 1 (causes.NotInProfile 0) ∷ entries.End 1
    ∷ entries.Give 1 3 ∷ entries.Refuse 1 (causes.Syntax 5) ∷ entries.End 1
    ∷ entries.Give 2 4 ∷ entries.Done 2 (replies.Tag tags.Rollback 0) ∷ entries.Done 2 (replies.Tag tags.Begin 0) ∷ entries.End 2
    ∷ entries.Close 1 ∷ entries.Close 2
    ∷ entries.Give 0 1 ∷ entries.Cancel 0 ∷ entries.Refuse 0 (causes.Cancelled 17) ∷ entries.End 0 ∷ entries.Close 0 ∷ []) ∷ [])
    ≡ codes "Parsed test spec with 2 sessions\n\nstarting permutation: x\nsetup 1\nBEGIN\nsession s1 setup\nERROR: 0A000: not supported at byte 0\nstep x: SELEC\nERROR: 42601: syntax error at byte 5\nsession \"s 2\" teardown\nROLLBACK\nBEGIN\nteardown\nERROR: 57014: cancelled\n"
unfolding report run_text blocked_text name_text word_of step_text digits
all_heads = refl

tables_limit : cause_text (causes.Limit limits.Tables 501) ≡ codes "54000: limit of tables passed"
tables_limit = refl

columns_limit : cause_text (causes.Limit limits.Columns 201) ≡ codes "54000: limit of columns passed"
columns_limit = refl
