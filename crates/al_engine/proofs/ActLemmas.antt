-- INSERT, SELECT and ALTER TABLE act on the table that they have locked.
use Rattle.std.proofs.Common.{◌≡◌, ℕ, ◌+◌, List, [], ◌∷◌, ◌++◌, length, refl, sym, ap, cond, true, false, Bool, Option, Some, None, arith, ◌∙◌, slice_get, slice_set, option_map, map}
use Rattle.std.specs.Prelude.{nat_lt}
use Rattle.al_values.specs.declared.scalar.Value.{Value}
use Rattle.al_modes.specs.declared.mode.Mode.TheVariants.{AccessShare, RowExclusive, AccessExclusive}
use Rattle.al_queue.specs.Waits.{holds}
use Rattle.al_history.specs.Constraint.{Constraint}
use Rattle.al_statements.specs.declared.cause.Cause.{Cause}
use Rattle.al_statements.specs.declared.cause.Cause.TheVariants as causes
use Rattle.al_statements.specs.declared.cause.RunLimit.TheVariants as limits
use Rattle.al_history.specs.declared.entry.Entry.TheVariants.{Look, Add, Read, Alter}
use Rattle.al_statements.specs.declared.reply.Reply.TheVariants as replies
use Rattle.al_statements.specs.declared.reply.Tag.TheVariants as tags
use Rattle.al_history.specs.declared.statement.Column.{Column}
use Rattle.al_history.specs.declared.statement.Statement.TheVariants as statements
use Rattle.al_history.specs.declared.statement.Terms.{Terms}
use Rattle.al_history.specs.Past.{past_of}
use Rattle.al_history.specs.Cause.{count_cause, alter_cause, refusal, added_weight, answered_weight, first_of, cause_at}
use Rattle.al_history.specs.Weight.{row_weight, read_weight}
use Rattle.al_history.proofs.Clear.{first_clear}
use Rattle.al_history.specs.Change.{filled, alteration, Passes, column_cause, unless_refused, Alteration}
use Rattle.al_history.specs.Database.{Table, Database, named, has_column}
use Rattle.al_history.specs.Hand.{hand, session_of, statement_of}
use Rattle.al_history.specs.Query.{column_names, answer}
use Rattle.al_history.specs.Store.{shown_columns, shown_table, shown, spread}
use Rattle.al_history.specs.View.{latest}
use Rattle.al_history.specs.Legal.{MayCome}
use Rattle.al_history.proofs.Comes.{comes_add, comes_read, comes_alter}
use Rattle.al_history.proofs.Doings.{Doing}
use Rattle.al_history.proofs.Turns.{Stage, stage_on, step_add, step_read, step_alter}
use Rattle.al_engine.specs.declared.sessions.Session.{Session}
use Rattle.al_engine.specs.declared.stored.StoredColumn.{StoredColumn}
use Rattle.al_engine.specs.declared.stored.StoredRow.{StoredRow}
use Rattle.al_engine.specs.declared.stored.StoredTable.{StoredTable}
use Rattle.al_engine.specs.Kept.{Parts, over_by, used_by}
use Rattle.al_engine.proofs.AskLemmas.{over_uncut, first_uncut}
use Rattle.al_engine.specs.Using.{Uses}
use Rattle.al_engine.specs.Stored.{slot_of, kept_of, all_kept, seen_by, of_columns, with_stored_row, with_stored_column}
use Rattle.al_engine.proofs.StatementLemmas.{at_work, acted_goes, can_be_done, StaysBut, amid_after, clear_after}
use Rattle.al_engine.proofs.StoredLemmas.{counts_by_columns, alters_by_columns, store_after_insert, store_after_alter}
use Rattle.al_engine.proofs.UseLemmas.{judged_after, HasActed, HasFailed, done_still, found_so, looked_works, looked_stage, acts_by, look_fails, looked_goes}
use Rattle.al_history.specs.Limits.{most_columns}

count_uncut : (got : ℕ) (v : Table) (cause : Cause) → Some cause ≡ count_cause got (Some v) → used_by cause ≡ 0
count_uncut got v cause is = by_test (nat_lt (length v.columns) got) is where
  by_test : (b : Bool) → Some cause ≡ cond b (Some (causes.Count (length v.columns) got)) None → used_by cause ≡ 0
  by_test true is = let one : cause ≡ causes.Count (length v.columns) got = cc in rw one refl
  by_test false is = absurd cc

column_uncut : (name : List ℕ) (columns : List Column) (cause : Cause) → Some cause ≡ column_cause name columns → used_by cause ≡ 0
column_uncut name columns cause is = by_test (has_column columns name) (nat_lt (length columns) most_columns) is where
  by_test : (a b : Bool) → Some cause ≡ cond a (Some (causes.TwiceColumn name)) (cond b None (Some (causes.Limit limits.Columns (length columns + 1)))) → used_by cause ≡ 0
  by_test true b is = let one : cause ≡ causes.TwiceColumn name = cc in rw one refl
  by_test false true is = absurd cc
  by_test false false is = let one : cause ≡ causes.Limit limits.Columns (length columns + 1) = cc in rw one refl

-- a refusal is the cause that stands in the way
refusal_is : (o : Option Cause) (alteration : Alteration) → refusal (unless_refused o alteration) ≡ o
refusal_is None alteration = refl
refusal_is (Some cause) alteration = refl

alter_uncut : (column : Column) (v : Table) (cause : Cause) → Some cause ≡ alter_cause column (Some v) → used_by cause ≡ 0
alter_uncut column v cause is = column_uncut column.name v.columns cause (is ∙ refusal_is (column_cause column.name v.columns) _)

-- the first of two causes that were worked out
pub first_both : (told first second a b : Option Cause) → told ≡ first_of a b → a ≡ first → b ≡ second → told ≡ first_of first second
first_both told first second a b is one two = rw (one, two) at is

-- ---- how they act

module _ (terms : Terms) (p : Parts) (s : ℕ) (t : Session) (x : ℕ) (name : List ℕ) (at : ℕ) (table : StoredTable) (found : option_map (λ (v : StoredTable). shown_table (seen_by (Some x) p.committed) (kept_of v)) (slice_get p.tables at) ≡ named (shown (seen_by (Some x) p.committed) (all_kept p.tables)) name) (there : slice_get p.tables at ≡ Some table) where
  -- ---- INSERT

  module _ (written : List Value) (u : Uses terms p s t x (statements.Insert name written) name RowExclusive) (locked : holds p.locks.locks s table.number RowExclusive ≡ true) (looks : over_by terms.weight p.weight 1 ≡ None) (columns : List Column) (columns_are : columns ≡ shown_columns (seen_by (Some x) p.committed) (kept_of table).slots) where
    insert_found : named (latest terms (Look x ∷ past_of p.journal) x) name ≡ Some (shown_table (seen_by (Some x) p.committed) (kept_of table))
    insert_found = found_so terms p s t x (statements.Insert name written) name RowExclusive u at table found there

    insert_cause : cause_at terms (Look x ∷ past_of p.journal) x (statements.Insert name written) [] (Some (past_of p.journal)) ≡ first_of (count_cause (length written) (Some (of_columns columns))) (over_by terms.weight (p.weight + 1) (1 + row_weight (filled columns written)))
    insert_cause = judged_after terms p s t x (statements.Insert name written) name RowExclusive u at table found there locked looks (count_cause (length written) (Some (of_columns columns))) (1 + row_weight (filled columns written))
        (ap (λ (o : Option Table). count_cause (length written) o) insert_found ∙ sym (counts_by_columns columns (length written) (shown_table (seen_by (Some x) p.committed) (kept_of table)) columns_are))
        (ap (λ (o : Option Table). option_map (added_weight written) o) insert_found ∙ ap (λ (cs : List Column). Some (1 + row_weight (filled cs written))) (sym columns_are))

    -- it has too many values, or too much to add
    pub insert_fails : (cause : Cause) (q : Parts) → Some cause ≡ first_of (count_cause (length written) (Some (of_columns columns))) (over_by terms.weight (p.weight + 1) (1 + row_weight (filled columns written))) → StaysBut p q → q.tables ≡ p.tables → past_of q.journal ≡ Look x ∷ past_of p.journal → HasFailed terms p q s t cause
    insert_fails cause q is stays tables past_is = look_fails terms p s t x (statements.Insert name written) name RowExclusive u at table found there locked looks cause q (first_uncut _ _ cause (λ c h. count_uncut (length written) (of_columns columns) c h) (λ c h. over_uncut _ _ _ c h) is) (insert_cause ∙ sym is) stays tables past_is

    -- it adds its row
    module _ (fits : first_of (count_cause (length written) (Some (of_columns columns))) (over_by terms.weight (p.weight + 1) (1 + row_weight (filled columns written))) ≡ None) (row : List Value) (row_is : row ≡ filled columns written) where
      add_may : MayCome terms (Look x ∷ past_of p.journal) (Add x table.number row)
      add_may =
          let w = looked_works terms p s t x (statements.Insert name written) name RowExclusive u at table found there locked looks in
          comes_add terms (Look x ∷ past_of p.journal) s (at_work (record t { wants = None }) x (Some (past_of p.journal))) w.legal w.doing_is w.settled x w.by table.number row
          (acts_by terms p s t x (statements.Insert name written) name RowExclusive u at table found there locked looks (insert_cause ∙ fits))
          (rw (w.statement_is, insert_found) (refl, row_is ∙ ap (λ (cs : List Column). filled cs written) columns_are)) refl (looked_goes terms p s t x (statements.Insert name written) name RowExclusive u at table found there locked looks)

      add_stage : Stage terms s (past_of p.journal) (Add x table.number row ∷ Look x ∷ past_of p.journal) 1
      add_stage =
          let w = looked_works terms p s t x (statements.Insert name written) name RowExclusive u at table found there locked looks in
          stage_on terms s (past_of p.journal) (Look x ∷ past_of p.journal) 0 1 (Add x table.number row) (looked_stage terms p s t x (statements.Insert name written) name RowExclusive u at table found there locked looks) (step_add x table.number row) w.by add_may w.settled refl
          (acted_goes terms (Look x ∷ past_of p.journal) s (record t { wants = None }) x (statements.Insert name written) (Some (past_of p.journal)) w (Add x table.number row) w.by (λ d. refl) w.settled add_may) refl

      pub insert_acts : (r : StoredRow) (q : Parts) → r.number ≡ length (past_of p.journal) + 1 → r.maker ≡ x → r.values ≡ spread (seen_by (Some x) p.committed) (map slot_of table.columns) row → StaysBut p q → q.tables ≡ slice_set p.tables at (with_stored_row r table) → past_of q.journal ≡ Add x table.number row ∷ Look x ∷ past_of p.journal → HasActed terms p q s t (replies.Tag tags.Insert 1) 1
      insert_acts r q number maker values stays tables past_is =
          let w = looked_works terms p s t x (statements.Insert name written) name RowExclusive u at table found there locked looks in
          let place : r.number ≡ length (Look x ∷ past_of p.journal) = omega (arith, number) in
          let stage : Stage terms s (past_of p.journal) (past_of q.journal) 1 = rw past_is add_stage in
          record {
            amid = amid_after terms p q s 1 u.kept stage stays (rw (tables, past_is) (store_after_insert terms (Look x ∷ past_of p.journal) p.tables x p.committed at table r row w.legal u.kept.sound.stored u.kept.sound.tells there place maker values));
            clear = clear_after terms p q s 1 u.kept stage stays;
            done = rw past_is (done_still terms _ s t _ (can_be_done terms (Look x ∷ past_of p.journal) s (record t { wants = None }) x (statements.Insert name written) (Some (past_of p.journal)) w (Add x table.number row) w.by (λ d. refl) (acted_goes terms (Look x ∷ past_of p.journal) s (record t { wants = None }) x (statements.Insert name written) (Some (past_of p.journal)) w (Add x table.number row) w.by (λ d. refl) w.settled add_may) (replies.Tag tags.Insert 1) refl refl));
            stage = stage;
            more = rw past_is (omega arith);
          }

  -- ---- SELECT

  module _ (u : Uses terms p s t x (statements.Select name) name AccessShare) (locked : holds p.locks.locks s table.number AccessShare ≡ true) (looks : over_by terms.weight p.weight 1 ≡ None) (names : List (List ℕ)) (rows : List (List Value)) (names_are : names ≡ column_names (shown_table (seen_by (Some x) p.committed) (kept_of table))) (rows_are : rows ≡ answer (shown_table (seen_by (Some x) p.committed) (kept_of table))) where
    select_cause : cause_at terms (Look x ∷ past_of p.journal) x (statements.Select name) [] (Some (past_of p.journal)) ≡ over_by terms.weight (p.weight + 1) (read_weight names rows)
    select_cause = judged_after terms p s t x (statements.Select name) name AccessShare u at table found there locked looks None (read_weight names rows) refl
        (ap (λ (o : Option Table). option_map answered_weight o) (found_so terms p s t x (statements.Select name) name AccessShare u at table found there)
        ∙ (ap (λ (ns : List (List ℕ)). Some (read_weight ns (answer (shown_table (seen_by (Some x) p.committed) (kept_of table))))) (sym names_are)
        ∙ ap (λ (rs : List (List Value)). Some (read_weight names rs)) (sym rows_are)))

    -- it has too much to read
    pub select_fails : (cause : Cause) (q : Parts) → Some cause ≡ over_by terms.weight (p.weight + 1) (read_weight names rows) → StaysBut p q → q.tables ≡ p.tables → past_of q.journal ≡ Look x ∷ past_of p.journal → HasFailed terms p q s t cause
    select_fails cause q is stays tables past_is = look_fails terms p s t x (statements.Select name) name AccessShare u at table found there locked looks cause q (over_uncut _ _ _ cause is) (select_cause ∙ sym is) stays tables past_is

    read_may : over_by terms.weight (p.weight + 1) (read_weight names rows) ≡ None → MayCome terms (Look x ∷ past_of p.journal) (Read x names rows)
    read_may fits =
        let w = looked_works terms p s t x (statements.Select name) name AccessShare u at table found there locked looks in
        let is = found_so terms p s t x (statements.Select name) name AccessShare u at table found there in
        comes_read terms (Look x ∷ past_of p.journal) s (at_work (record t { wants = None }) x (Some (past_of p.journal))) w.legal w.doing_is w.settled x w.by names rows
        (acts_by terms p s t x (statements.Select name) name AccessShare u at table found there locked looks (select_cause ∙ fits))
        (rw (w.statement_is, is) (names_are, rows_are)) refl (looked_goes terms p s t x (statements.Select name) name AccessShare u at table found there locked looks)

    pub select_acts : (entry : ℕ) (q : Parts) → over_by terms.weight (p.weight + 1) (read_weight names rows) ≡ None → entry ≡ length (Look x ∷ past_of p.journal) → StaysBut p q → q.tables ≡ p.tables → past_of q.journal ≡ Read x names rows ∷ Look x ∷ past_of p.journal → HasActed terms p q s t (replies.Rows entry) 0
    select_acts entry q fits place stays tables past_is =
        let w = looked_works terms p s t x (statements.Select name) name AccessShare u at table found there locked looks in
        let stage : Stage terms s (past_of p.journal) (past_of q.journal) 0 = rw past_is (stage_on terms s (past_of p.journal) (Look x ∷ past_of p.journal) 0 0 (Read x names rows) (looked_stage terms p s t x (statements.Select name) name AccessShare u at table found there locked looks) (step_read x names rows) w.by (read_may fits) w.settled refl
        (acted_goes terms (Look x ∷ past_of p.journal) s (record t { wants = None }) x (statements.Select name) (Some (past_of p.journal)) w (Read x names rows) w.by (λ d. refl) w.settled (read_may fits)) (omega arith)) in
        record {
          amid = amid_after terms p q s 0 u.kept stage stays (rw (tables, past_is) u.kept.sound.stored);
          clear = clear_after terms p q s 0 u.kept stage stays;
          done = rw past_is (done_still terms _ s t _ (can_be_done terms (Look x ∷ past_of p.journal) s (record t { wants = None }) x (statements.Select name) (Some (past_of p.journal)) w (Read x names rows) w.by (λ d. refl) (acted_goes terms (Look x ∷ past_of p.journal) s (record t { wants = None }) x (statements.Select name) (Some (past_of p.journal)) w (Read x names rows) w.by (λ d. refl) w.settled (read_may fits)) (replies.Rows entry) (ap replies.Rows place) refl));
          stage = stage;
          more = rw past_is (omega arith);
        }

  -- ---- ALTER TABLE

  module _ (column : Column) (u : Uses terms p s t x (statements.AddColumn name column) name AccessExclusive) (locked : holds p.locks.locks s table.number AccessExclusive ≡ true) (looks : over_by terms.weight p.weight 1 ≡ None) (columns : List Column) (columns_are : columns ≡ shown_columns (seen_by (Some x) p.committed) (kept_of table).slots) where
    alter_found : named (latest terms (Look x ∷ past_of p.journal) x) name ≡ Some (shown_table (seen_by (Some x) p.committed) (kept_of table))
    alter_found = found_so terms p s t x (statements.AddColumn name column) name AccessExclusive u at table found there

    alter_refused : cause_at terms (Look x ∷ past_of p.journal) x (statements.AddColumn name column) [] (Some (past_of p.journal)) ≡ first_of (alter_cause column (Some (of_columns columns))) (over_by terms.weight (p.weight + 1) 1)
    alter_refused = judged_after terms p s t x (statements.AddColumn name column) name AccessExclusive u at table found there locked looks (alter_cause column (Some (of_columns columns))) 1
        (ap (λ (o : Option Table). alter_cause column o) alter_found ∙ sym (alters_by_columns columns column (shown_table (seen_by (Some x) p.committed) (kept_of table)) columns_are)) refl

    -- it has the column already, or the journal no place
    pub alter_fails : (cause : Cause) (q : Parts) → Some cause ≡ first_of (alter_cause column (Some (of_columns columns))) (over_by terms.weight (p.weight + 1) 1) → StaysBut p q → q.tables ≡ p.tables → past_of q.journal ≡ Look x ∷ past_of p.journal → HasFailed terms p q s t cause
    alter_fails cause q is stays tables past_is = look_fails terms p s t x (statements.AddColumn name column) name AccessExclusive u at table found there locked looks cause q (first_uncut _ _ cause (λ c h. alter_uncut column (of_columns columns) c h) (λ c h. over_uncut _ _ _ c h) is) (alter_refused ∙ sym is) stays tables past_is

    passes : (v : Table) (db : Database) → alter_cause column (Some v) ≡ None → Passes (alteration column v) db
    passes v db none = by_cause (column_cause column.name v.columns) (sym (refusal_is (column_cause column.name v.columns) _) ∙ none) where
      by_cause : (o : Option Cause) → o ≡ None → Passes (unless_refused o (record { columns = v.columns ++ column ∷ []; row_map = λ (row : List Value). row ++ column.default ∷ []; tests = [] })) db
      by_cause (Some cause) none = absurd cc
      by_cause None none = λ (c : Constraint) among v there same. absurd c.demand

    -- it adds the column
    module _ (fits : first_of (alter_cause column (Some (of_columns columns))) (over_by terms.weight (p.weight + 1) 1) ≡ None) where
      shape_fits : alter_cause column (Some (of_columns columns)) ≡ None
      shape_fits = first_clear (alter_cause column (Some (of_columns columns))) _ fits

      alter_may : MayCome terms (Look x ∷ past_of p.journal) (Alter x table.number t.done [])
      alter_may =
          let w = looked_works terms p s t x (statements.AddColumn name column) name AccessExclusive u at table found there locked looks in
          comes_alter terms (Look x ∷ past_of p.journal) s (at_work (record t { wants = None }) x (Some (past_of p.journal))) w.legal w.doing_is w.settled x w.by table.number
          (acts_by terms p s t x (statements.AddColumn name column) name AccessExclusive u at table found there locked looks (alter_refused ∙ fits))
          (rw (w.statement_is, alter_found) (refl, passes (shown_table (seen_by (Some x) p.committed) (kept_of table)) _ (sym (alters_by_columns columns column (shown_table (seen_by (Some x) p.committed) (kept_of table)) columns_are) ∙ shape_fits))) refl (looked_goes terms p s t x (statements.AddColumn name column) name AccessExclusive u at table found there locked looks)

      pub alter_acts : (c : StoredColumn) (q : Parts) → c.maker ≡ x → c.column ≡ column → StaysBut p q → q.tables ≡ slice_set p.tables at (with_stored_column c table) → past_of q.journal ≡ Alter x table.number t.done [] ∷ Look x ∷ past_of p.journal → HasActed terms p q s t (replies.Tag tags.AlterTable 0) 0
      alter_acts c q maker column_is stays tables past_is =
          let w = looked_works terms p s t x (statements.AddColumn name column) name AccessExclusive u at table found there locked looks in
          let stage : Stage terms s (past_of p.journal) (past_of q.journal) 0 = rw past_is (stage_on terms s (past_of p.journal) (Look x ∷ past_of p.journal) 0 0 (Alter x table.number t.done []) (looked_stage terms p s t x (statements.AddColumn name column) name AccessExclusive u at table found there locked looks) (step_alter x table.number t.done []) w.by alter_may w.settled refl
          (acted_goes terms (Look x ∷ past_of p.journal) s (record t { wants = None }) x (statements.AddColumn name column) (Some (past_of p.journal)) w (Alter x table.number t.done []) w.by (λ d. refl) w.settled alter_may) (omega arith)) in
          let hand_so : hand (Look x ∷ past_of p.journal) s ≡ t.hand = ap (λ (d : Doing). d.hand) w.doing_is in
          let in_hand_so : statement_of terms (hand (Look x ∷ past_of p.journal) (session_of (Look x ∷ past_of p.journal) x)) t.done ≡ Some (statements.AddColumn name column) = rw (w.by.session, hand_so) w.statement_is in
          record {
            amid = amid_after terms p q s 0 u.kept stage stays (rw (tables, past_is) (store_after_alter terms (Look x ∷ past_of p.journal) p.tables x at table c t.done [] name column w.legal u.kept.sound.stored there in_hand_so maker column_is));
            clear = clear_after terms p q s 0 u.kept stage stays;
            done = rw past_is (done_still terms _ s t _ (can_be_done terms (Look x ∷ past_of p.journal) s (record t { wants = None }) x (statements.AddColumn name column) (Some (past_of p.journal)) w (Alter x table.number t.done []) w.by (λ d. refl) (acted_goes terms (Look x ∷ past_of p.journal) s (record t { wants = None }) x (statements.AddColumn name column) (Some (past_of p.journal)) w (Alter x table.number t.done []) w.by (λ d. refl) w.settled alter_may) (replies.Tag tags.AlterTable 0) refl refl));
            stage = stage;
            more = rw past_is (omega arith);
          }
