-- A whole run with a statement that waits: session 2 reads a table that session 1 alters in a block.
use Rattle.std.specs.Prelude.{◌≡◌, ℕ, zero, suc, List, [], ◌∷◌, ◌++◌, ◌<◌, ◌≤◌, ◌==◌, Bool, true, false, None, reverse, codes, refl}
use Rattle.std.proofs.Common.{arith, inl}
use Rattle.std.proofs.lemmas.Bool.{eqb-true}
use Rattle.al_modes.specs.declared.level.Level.TheVariants as levels
use Rattle.al_modes.specs.declared.mode.Mode.TheVariants.{AccessShare, AccessExclusive}
use Rattle.al_statements.specs.declared.reply.Tag.TheVariants as tags
use Rattle.al_statements.specs.declared.reply.Reply.TheVariants as replies
use Rattle.al_history.specs.declared.entry.Want.TheVariants as wants
use Rattle.al_history.specs.declared.entry.Entry.{Entry}
use Rattle.al_history.specs.declared.entry.Entry.TheVariants.{Give, Start, Wait, Lock, Look, Read, Alter, Done, Commit, Abort, Cancel, End, Close}
use Rattle.al_spec.specs.declared.spec.Block.{Block}
use Rattle.al_spec.specs.declared.spec.Part.TheVariants as parts
use Rattle.al_spec.specs.declared.spec.Spec.{Spec}
use Rattle.al_history.specs.declared.run.Setup.TheVariants as setups
use Rattle.al_history.specs.declared.statement.Statement.TheVariants as statements
use Rattle.al_history.specs.declared.statement.Terms.{Terms}
use Rattle.al_history.specs.Past.{Past}
use Rattle.al_history.specs.Hand.{hand, closed}
use Rattle.al_history.specs.Waits.{can_go_on}
use Rattle.al_history.specs.Legal.{IsLegal}
use Rattle.al_history.specs.Whole.{IsIdle, Driven, AreRuns}
use Rattle.al_history.proofs.Worked.Journals.{terms_of, name_a, int, create, insert, add_column, select, alone, ended_insert, IsAtRest, at_rest, idle, none_below, zero_below, rest_at_first, rest_after_create, rest_after_insert, ended_create}
use Rattle.al_history.proofs.Worked.Whole.{run_of}
use Rattle.al_history.proofs.Views.{hold_always}
use Rattle.al_history.proofs.Worked.Rules.{◌▸◌, rolls_back, may_give, may_start, may_wait_for_lock, may_lock, may_be_granted, may_look, may_act, may_make, may_add, may_read, may_alter, may_be_done, may_commit, may_end, may_close, in_turn_seven, in_turn_eight, true_false, no_more}

-- the control session makes and fills t; then BEGIN and an ALTER TABLE in session 1, a SELECT in session 2, and ROLLBACK
abbrev terms : Terms
terms = terms_of 3 (
    alone 0 create
    ∷ alone 0 insert
    ∷ alone 1 statements.Begin
    ∷ alone 1 add_column
    ∷ alone 2 select
    ∷ alone 1 statements.Rollback
    ∷ [])

abbrev step : ℕ → List ℕ → List ℕ → Block
step session name text = record { part = parts.Step; session = session; name = name; text = text }

abbrev spec : Spec
spec = record {
  sessions = codes "s1" ∷ codes "s2" ∷ [];
  blocks =
      record { part = parts.Setup; session = 0; name = []; text = codes "CREATE TABLE t (a integer)" }
      ∷ record { part = parts.Setup; session = 0; name = []; text = codes "INSERT INTO t VALUES (1)" }
      ∷ step 1 (codes "b") (codes "BEGIN")
      ∷ step 1 (codes "x") (codes "ALTER TABLE t ADD COLUMN b integer DEFAULT 5")
      ∷ step 2 (codes "r") (codes "SELECT * FROM t")
      ∷ step 1 (codes "e") (codes "ROLLBACK")
      ∷ [];
  permutations = (2 ∷ 3 ∷ 4 ∷ 5 ∷ []) ∷ [];
}

-- BEGIN and ALTER TABLE,
abbrev begun : List Entry
begun = ended_insert ++ Give 1 2 ∷ Start 1 levels.ReadCommitted ∷ Done 1 (replies.Tag tags.Begin 0) ∷ End 1 ∷ []

abbrev altered : List Entry
altered = begun ++ Give 1 3 ∷ Lock 16 3 AccessExclusive ∷ Look 16 ∷ Alter 16 3 0 [] ∷ Done 1 (replies.Tag tags.AlterTable 0) ∷ End 1 ∷ []

-- the SELECT, which waits,
abbrev waits : List Entry
waits = altered ++ Give 2 4 ∷ Start 2 levels.ReadCommitted ∷ Wait 26 (wants.Table 3 AccessShare) ∷ []

-- the ROLLBACK, whose tail has the Lock,
abbrev rolled : List Entry
rolled = waits ++ Give 1 5 ∷ Abort 16 ∷ Lock 26 3 AccessShare ∷ Done 1 (replies.Tag tags.Rollback 0) ∷ End 1 ∷ []

-- and then the SELECT goes on.
abbrev journal : List Entry
journal = rolled ++ Look 26 ∷ Read 26 (name_a ∷ []) ((int 1 ∷ []) ∷ []) ∷ Done 2 (replies.Rows 34) ∷ Commit 26 ∷ End 2 ∷ Close 1 ∷ Close 2 ∷ Close 0 ∷ []

rolled_is_legal : IsLegal terms rolled
rolled_is_legal =
    tt
    ▸ may_give (omega arith) refl refl refl refl tt
    ▸ may_start refl refl refl refl tt
    ▸ may_look refl refl refl refl refl refl refl tt tt
    ▸ may_make refl (may_act refl refl refl refl refl) refl (refl, refl) refl refl tt
    ▸ may_be_done refl refl refl tt
    ▸ may_commit refl refl refl refl refl refl refl
    ▸ may_end refl refl (inl (no_more refl refl)) refl refl refl
    ▸ may_give (omega arith) refl refl refl refl tt
    ▸ may_start refl refl refl refl tt
    ▸ may_lock refl refl refl refl refl refl refl refl tt tt
    ▸ may_look refl refl refl refl refl refl refl tt tt
    ▸ may_add refl (may_act refl refl refl refl refl) (refl, refl) refl tt tt
    ▸ may_be_done refl refl refl tt
    ▸ may_commit refl refl refl refl refl refl refl
    ▸ may_end refl refl (inl (no_more refl refl)) refl refl refl
    ▸ may_give (omega arith) refl refl refl refl tt
    ▸ may_start refl refl refl refl tt
    ▸ may_be_done refl refl refl tt
    ▸ may_end refl refl (inl (no_more refl refl)) refl refl refl
    ▸ may_give (omega arith) refl refl refl refl tt
    ▸ may_lock refl refl refl refl refl refl refl refl tt tt
    ▸ may_look refl refl refl refl refl refl refl tt refl
    ▸ may_alter refl (may_act refl refl refl refl refl) (refl, λ c there. absurd c.demand) refl refl tt refl
    ▸ may_be_done refl refl refl tt
    ▸ may_end refl refl (inl (no_more refl refl)) refl refl refl
    ▸ may_give (omega arith) refl refl refl refl tt
    ▸ may_start refl refl refl refl tt
    ▸ may_wait_for_lock refl refl refl refl refl refl refl refl tt
    ▸ may_give (omega arith) refl refl refl refl tt
    ▸ rolls_back refl refl refl refl tt
    ▸ may_be_granted refl refl refl tt tt
    ▸ may_be_done refl refl refl refl
    ▸ may_end refl refl (inl (no_more refl refl)) refl refl refl

journal_is_legal : IsLegal terms journal
journal_is_legal =
    rolled_is_legal
    ▸ may_look refl refl refl refl refl refl refl tt tt
    ▸ may_read refl (may_act refl refl refl refl refl) (refl, refl) refl tt tt
    ▸ may_be_done refl refl refl tt
    ▸ may_commit refl refl refl refl refl refl refl
    ▸ may_end refl refl (inl (no_more refl refl)) refl refl refl
    ▸ may_close (omega arith) refl refl refl refl tt
    ▸ may_close (omega arith) refl refl refl refl tt
    ▸ may_close (omega arith) refl refl refl refl tt

-- where one session alone has a step in hand, and can't go on, none can
idle_but : (past : Past) (s : ℕ) → can_go_on past s ≡ false → ((r : ℕ) → (s == r) ≡ false → hand past r ≡ None) → IsIdle past
idle_but past s stands rest r = by_test (s == r) refl where
  by_test : (b : Bool) → (s == r) ≡ b → can_go_on past r ≡ false
  by_test true e = rw (← eqb-true s r e) stands
  by_test false e = rw (rest r e) refl

-- sessions 0 and 1 are below session 2
two_below : (P : ℕ → Bool) → P 0 ≡ false → P 1 ≡ false → (r : ℕ) → r < 2 → P r ≡ false
two_below P at_zero at_one zero lt = at_zero
two_below P at_zero at_one (suc zero) lt = at_one
two_below P at_zero at_one (suc (suc r)) lt = absurd (omega arith)

rest_after_begin : IsAtRest (reverse begun)
rest_after_begin r = at_rest (reverse ended_insert) 1 2 rest_after_insert r

rest_after_alter : IsAtRest (reverse altered)
rest_after_alter r = at_rest (reverse begun) 1 3 rest_after_begin r

-- no session can go on while session 2 waits
idle_in_wait : IsIdle (reverse waits)
idle_in_wait = idle_but (reverse waits) 2 refl (λ r other. rw other (rest_after_alter r))

-- a driven journal and one more entry that comes in its turn
infixl 10 ◌▹◌
◌▹◌ : {A B : Type 0} → A → B → B × A
driven ▹ turn = (turn, driven)

-- session 1 goes on while session 2 waits; what stands in a tail, and the Lock of the request, has no turn
driven_rolled : Driven terms (reverse rolled)
driven_rolled =
    in_turn_eight tt tt (refl, none_below _) (refl, none_below _) (refl, none_below _) (refl, none_below _) (refl, none_below _) (idle (reverse ended_create) rest_after_create)
    (in_turn_seven tt tt (refl, none_below _) (refl, none_below _) (refl, none_below _) (refl, none_below _) (idle [] rest_at_first) tt)
    ▹ idle (reverse ended_insert) rest_after_insert
    ▹ (refl, zero_below _ refl)
    ▹ (refl, zero_below _ refl)
    ▹ tt
    ▹ idle (reverse begun) rest_after_begin
    ▹ (refl, zero_below _ refl)
    ▹ (refl, zero_below _ refl)
    ▹ (refl, zero_below _ refl)
    ▹ (refl, zero_below _ refl)
    ▹ tt
    ▹ idle (reverse altered) rest_after_alter
    ▹ (refl, two_below _ refl refl)
    ▹ (refl, two_below _ refl refl)
    ▹ idle_in_wait
    ▹ (refl, zero_below _ refl)
    ▹ tt
    ▹ tt
    ▹ tt

-- then session 2 goes on
driven_journal : Driven terms (reverse journal)
driven_journal =
    driven_rolled
    ▹ (refl, two_below _ refl refl)
    ▹ (refl, two_below _ refl refl)
    ▹ (refl, two_below _ refl refl)
    ▹ tt
    ▹ tt
    ▹ tt
    ▹ tt
    ▹ tt

all_closed : (s : ℕ) → s ≤ 2 → closed (reverse journal) s ≡ true
all_closed zero le = refl
all_closed (suc zero) le = refl
all_closed (suc (suc zero)) le = refl
all_closed (suc (suc (suc s))) le = absurd (omega arith)

-- it is the run of its permutation
waiting_run : AreRuns spec terms (run_of 1 setups.Done journal ∷ [])
waiting_run = (
  record {
    permutation = refl;
    legal = journal_is_legal;
    whole = record { as_due = (refl, (refl, (refl, (refl, (refl, (refl, (refl, (refl, (refl, tt))))))))); all_done = refl; in_turn = driven_journal; all_closed = all_closed };
    holding = hold_always terms (reverse journal);
    setup = refl;
  },
  tt,
)

-- ---- what isn't driven

-- a block is given where the session that waited can go on
given_too_early : Driven terms (reverse (rolled ++ Give 1 2 ∷ [])) → ⊥
given_too_early d = true_false (d.0 2)

-- that is legal
given_too_early_is_legal : IsLegal terms (rolled ++ Give 1 2 ∷ [])
given_too_early_is_legal = rolled_is_legal ▸ may_give (omega arith) refl refl refl refl tt

-- a step that waits is cancelled where another session can go on
cancelled_too_early : Driven terms (reverse (waits ++ Give 1 5 ∷ Cancel 2 ∷ [])) → ⊥
cancelled_too_early d = true_false (d.0 1)
