-- An implicit transaction is of a step in hand that has a statement.
use Rattle.std.proofs.Common.{◌≡◌, ℕ, List, [], ◌∷◌, length, refl, sym, cond, true, false, Bool, Option, Some, None, ◌∙◌}
use Rattle.std.specs.Prelude.{◌==◌, IsSome, option_map, option_and_then, slice_get, Result, Ok, Err}
use Rattle.std.proofs.lemmas.Bool.{eqb-true}
use Rattle.al_history.specs.declared.entry.Entry.TheVariants.{Give, Start, Done, Refuse, Commit, Abort, End}
use Rattle.al_statements.specs.declared.reply.Reply.{Reply}
use Rattle.al_statements.specs.declared.reply.Reply.TheVariants as replies
use Rattle.al_statements.specs.declared.reply.Tag.TheVariants as tags
use Rattle.al_statements.specs.declared.fault.SqlFault.{SqlFault}
use Rattle.al_history.specs.declared.statement.ScriptBlock.{ScriptBlock}
use Rattle.al_history.specs.declared.statement.Statement.{Statement}
use Rattle.al_history.specs.declared.statement.Statement.TheVariants as statements
use Rattle.al_history.specs.declared.statement.Terms.{Terms}
use Rattle.al_history.specs.Past.{Past}
use Rattle.al_history.specs.Fate.{is_that}
use Rattle.al_history.specs.Hand.{hand, dones, in_hand, statement_in, statement_of, fault_in, fault_of, xact_of, implicit_of, if_no_block, acts_of, BlockState, NoBlock, OpenBlock, FailedBlock, block_state, block_after, failed_at}
use Rattle.al_history.specs.Rules.{starts, Answers}
use Rattle.al_history.specs.Legal.{Legal}

-- a script that has a statement has a first one
first_in : (script : Result (List Statement) SqlFault) (n : ℕ) (statement : Statement) → statement_in script n ≡ Some statement → IsSome (statement_in script 0)
first_in (Ok []) n statement is = absurd cc
first_in (Ok (first ∷ script)) n statement is = refl
first_in (Err fault) n statement is = absurd cc

pub first_of_step : (terms : Terms) (o : Option ℕ) (n : ℕ) (statement : Statement) → statement_of terms o n ≡ Some statement → IsSome (statement_of terms o 0)
first_of_step terms None n statement is = absurd cc
first_of_step terms (Some block) n statement is = by_block (slice_get terms.scripts.blocks block) is where
  by_block : (b : Option ScriptBlock) → option_and_then (λ (b : ScriptBlock). statement_in b.script n) b ≡ Some statement → IsSome (option_and_then (λ (b : ScriptBlock). statement_in b.script 0) b)
  by_block None is = absurd cc
  by_block (Some b) is = first_in b.script n statement is

-- a step that has a statement is of a script
no_fault : (script : Result (List Statement) SqlFault) (n : ℕ) (statement : Statement) → statement_in script n ≡ Some statement → fault_in script ≡ None
no_fault (Ok script) n statement is = refl
no_fault (Err fault) n statement is = absurd cc

pub unfaulted : (terms : Terms) (o : Option ℕ) (n : ℕ) (statement : Statement) → statement_of terms o n ≡ Some statement → fault_of terms o ≡ None
unfaulted terms None n statement is = refl
unfaulted terms (Some block) n statement is = by_block (slice_get terms.scripts.blocks block) is where
  by_block : (b : Option ScriptBlock) → option_and_then (λ (b : ScriptBlock). statement_in b.script n) b ≡ Some statement → option_and_then (λ (b : ScriptBlock). fault_in b.script) b ≡ None
  by_block None is = refl
  by_block (Some b) is = no_fault b.script n statement is

-- ---- implicit transactions

-- the step in hand has a statement
abbrev pub HasFirst : Terms → Option ℕ → Type 0
HasFirst terms o = IsSome (statement_of terms o 0)

-- what answers COMMIT or ROLLBACK has no transaction open
commit_none : (statement : Option Statement) (acts : List ℕ) (o : Option ℕ) (state : BlockState) (reply : Reply) (count : ℕ) → Answers statement acts o state reply → reply ≡ replies.Tag tags.Commit count → o ≡ None
commit_none (Some statements.Begin) [] (Some y) state reply count answers is = absurd (let wrong : ◌≡◌ {A = Reply} (replies.Tag tags.Begin 0) (replies.Tag tags.Commit count) = sym answers ∙ is in cc)
commit_none (Some statements.Commit) [] None state reply count answers is = refl
commit_none (Some statements.Rollback) [] None state reply count answers is = refl
commit_none (Some (statements.CreateTable name columns)) (act ∷ []) o state reply count answers is = absurd (let wrong : ◌≡◌ {A = Reply} (replies.Tag tags.CreateTable 0) (replies.Tag tags.Commit count) = sym answers ∙ is in cc)
commit_none (Some (statements.Insert name written)) (act ∷ []) o state reply count answers is = absurd (let wrong : ◌≡◌ {A = Reply} (replies.Tag tags.Insert 1) (replies.Tag tags.Commit count) = sym answers ∙ is in cc)
commit_none (Some (statements.Select name)) (act ∷ []) o state reply count answers is = absurd (let wrong : ◌≡◌ {A = Reply} (replies.Rows act) (replies.Tag tags.Commit count) = sym answers ∙ is in cc)
commit_none (Some (statements.AddColumn name column)) (act ∷ []) o state reply count answers is = absurd (let wrong : ◌≡◌ {A = Reply} (replies.Tag tags.AlterTable 0) (replies.Tag tags.Commit count) = sym answers ∙ is in cc)
commit_none statement acts o state reply count answers is = absurd answers

rollback_none : (statement : Option Statement) (acts : List ℕ) (o : Option ℕ) (state : BlockState) (reply : Reply) (count : ℕ) → Answers statement acts o state reply → reply ≡ replies.Tag tags.Rollback count → o ≡ None
rollback_none (Some statements.Begin) [] (Some y) state reply count answers is = absurd (let wrong : ◌≡◌ {A = Reply} (replies.Tag tags.Begin 0) (replies.Tag tags.Rollback count) = sym answers ∙ is in cc)
rollback_none (Some statements.Commit) [] None state reply count answers is = refl
rollback_none (Some statements.Rollback) [] None state reply count answers is = refl
rollback_none (Some (statements.CreateTable name columns)) (act ∷ []) o state reply count answers is = absurd (let wrong : ◌≡◌ {A = Reply} (replies.Tag tags.CreateTable 0) (replies.Tag tags.Rollback count) = sym answers ∙ is in cc)
rollback_none (Some (statements.Insert name written)) (act ∷ []) o state reply count answers is = absurd (let wrong : ◌≡◌ {A = Reply} (replies.Tag tags.Insert 1) (replies.Tag tags.Rollback count) = sym answers ∙ is in cc)
rollback_none (Some (statements.Select name)) (act ∷ []) o state reply count answers is = absurd (let wrong : ◌≡◌ {A = Reply} (replies.Rows act) (replies.Tag tags.Rollback count) = sym answers ∙ is in cc)
rollback_none (Some (statements.AddColumn name column)) (act ∷ []) o state reply count answers is = absurd (let wrong : ◌≡◌ {A = Reply} (replies.Tag tags.AlterTable 0) (replies.Tag tags.Rollback count) = sym answers ∙ is in cc)
rollback_none statement acts o state reply count answers is = absurd answers

-- a Done ends a block only where no transaction is open
after_done : (terms : Terms) (o h : Option ℕ) (acts : List ℕ) (state : BlockState) (statement : Option Statement) (reply : Reply) (x : ℕ) → Answers statement acts o state reply → (if_no_block state o ≡ Some x → HasFirst terms h) → if_no_block (block_after reply state) o ≡ Some x → HasFirst terms h
after_done terms o h acts state statement (replies.Rows entry) x answers before is = before is
after_done terms o h acts NoBlock statement (replies.Tag tags.Begin count) x answers before is = absurd (let wrong : ◌≡◌ {A = Option ℕ} None (Some x) = is in cc)
after_done terms o h acts OpenBlock statement (replies.Tag tags.Begin count) x answers before is = absurd (let wrong : ◌≡◌ {A = Option ℕ} None (Some x) = is in cc)
after_done terms o h acts (FailedBlock refuse) statement (replies.Tag tags.Begin count) x answers before is = absurd (let wrong : ◌≡◌ {A = Option ℕ} None (Some x) = is in cc)
after_done terms o h acts state statement (replies.Tag tags.Commit count) x answers before is =
    let none : o ≡ None = commit_none statement acts o state (replies.Tag tags.Commit count) count answers refl in
    absurd (let wrong : ◌≡◌ {A = Option ℕ} None (Some x) = sym none ∙ is in cc)
after_done terms o h acts state statement (replies.Tag tags.Rollback count) x answers before is =
    let none : o ≡ None = rollback_none statement acts o state (replies.Tag tags.Rollback count) count answers refl in
    absurd (let wrong : ◌≡◌ {A = Option ℕ} None (Some x) = sym none ∙ is in cc)
after_done terms o h acts state statement (replies.Tag tag count) x answers before is = before is

failed_still : (state : BlockState) (place : ℕ) (o : Option ℕ) (x : ℕ) → if_no_block (failed_at place state) o ≡ Some x → if_no_block state o ≡ Some x
failed_still NoBlock place o x is = is
failed_still OpenBlock place o x is = absurd (let wrong : ◌≡◌ {A = Option ℕ} None (Some x) = is in cc)
failed_still (FailedBlock refuse) place o x is = is

ended_still : (state : BlockState) (b : Bool) (o : Option ℕ) (x : ℕ) → if_no_block state (cond b None o) ≡ Some x → if_no_block state o ≡ Some x
ended_still state false o x is = is
ended_still NoBlock true o x is = absurd (let wrong : ◌≡◌ {A = Option ℕ} None (Some x) = is in cc)
ended_still OpenBlock true o x is = absurd (let wrong : ◌≡◌ {A = Option ℕ} None (Some x) = is in cc)
ended_still (FailedBlock refuse) true o x is = absurd (let wrong : ◌≡◌ {A = Option ℕ} None (Some x) = is in cc)

started_first : (terms : Terms) (h : Option ℕ) (n : ℕ) (state : BlockState) → option_map (starts state) (statement_of terms h n) ≡ Some true → HasFirst terms h
started_first terms h n state is = by_statement (statement_of terms h n) refl is where
  by_statement : (o : Option Statement) → statement_of terms h n ≡ o → option_map (starts state) o ≡ Some true → HasFirst terms h
  by_statement None there is = absurd cc
  by_statement (Some statement) there is = first_of_step terms h n statement there

-- an implicit transaction is of a step in hand that has a statement
pub implicit_first : (terms : Terms) (past : Past) (s x : ℕ) → Legal terms past → implicit_of past s ≡ Some x → HasFirst terms (hand past s)
implicit_first terms [] s x legal is = absurd (let wrong : ◌≡◌ {A = Option ℕ} None (Some x) = is in cc)
implicit_first terms (Give r block ∷ past) s x legal is = by_test (r == s) refl (implicit_first terms past s x legal.1 is) where
  by_test : (b : Bool) → (r == s) ≡ b → HasFirst terms (hand past s) → HasFirst terms (cond b (Some block) (hand past s))
  by_test false other before = before
  by_test true own before =
      let idle : hand past s ≡ None = rw (eqb-true r s own) at legal.0.rule.idle in
      absurd (let wrong : false ≡ true = rw idle at before in cc)
implicit_first terms (Start r level ∷ past) s x legal is = by_test (r == s) refl is (implicit_first terms past s x legal.1) where
  by_test : (b : Bool) → (r == s) ≡ b → if_no_block (block_state past s) (cond b (Some (length past)) (xact_of past s)) ≡ Some x → (implicit_of past s ≡ Some x → HasFirst terms (hand past s)) → HasFirst terms (hand past s)
  by_test false other is before = before is
  by_test true own is before = rw (eqb-true r s own) at (started_first terms (hand past r) (dones past r) (block_state past r) legal.0.rule.statement)
implicit_first terms (Done r reply ∷ past) s x legal is = by_test (r == s) refl is (implicit_first terms past s x legal.1) where
  by_test : (b : Bool) → (r == s) ≡ b → if_no_block (cond b (block_after reply (block_state past s)) (block_state past s)) (xact_of past s) ≡ Some x → (implicit_of past s ≡ Some x → HasFirst terms (hand past s)) → HasFirst terms (hand past s)
  by_test false other is before = before is
  by_test true own is before = after_done terms (xact_of past s) (hand past s) (acts_of past s) (block_state past s) (in_hand terms past s) reply x (rw (eqb-true r s own) at legal.0.rule.answers) before is
implicit_first terms (Refuse r cause ∷ past) s x legal is = by_test (r == s) is (implicit_first terms past s x legal.1) where
  by_test : (b : Bool) → if_no_block (cond b (failed_at (length past) (block_state past s)) (block_state past s)) (xact_of past s) ≡ Some x → (implicit_of past s ≡ Some x → HasFirst terms (hand past s)) → HasFirst terms (hand past s)
  by_test false is before = before is
  by_test true is before = before (failed_still (block_state past s) (length past) (xact_of past s) x is)
implicit_first terms (Commit y ∷ past) s x legal is = implicit_first terms past s x legal.1 (ended_still (block_state past s) (is_that (xact_of past s) y) (xact_of past s) x is)
implicit_first terms (Abort y ∷ past) s x legal is = implicit_first terms past s x legal.1 (ended_still (block_state past s) (is_that (xact_of past s) y) (xact_of past s) x is)
implicit_first terms (End r ∷ past) s x legal is = by_test (r == s) refl (implicit_first terms past s x legal.1 is) where
  by_test : (b : Bool) → (r == s) ≡ b → HasFirst terms (hand past s) → HasFirst terms (cond b None (hand past s))
  by_test false other before = before
  by_test true own before =
      let none : implicit_of past s ≡ None = rw (eqb-true r s own) at legal.0.rule.none_implicit in
      absurd (let wrong : ◌≡◌ {A = Option ℕ} None (Some x) = sym none ∙ is in cc)
implicit_first terms (e ∷ past) s x legal is = implicit_first terms past s x legal.1 is
