-- What is known of a statement that isn't refused.
use Rattle.std.proofs.Common.{◌≡◌, ℕ, ◌≤◌, List, [], length, refl, cond, true, false, Bool, Option, Some, None}
use Rattle.std.specs.Prelude.{is_some, nat_lt}
use Rattle.std.proofs.lemmas.Bool.{ltb-false}
use Rattle.al_statements.specs.declared.cause.Cause.{Cause}
use Rattle.al_statements.specs.declared.cause.Cause.TheVariants as causes
use Rattle.al_history.specs.declared.statement.Statement.{Statement}
use Rattle.al_history.specs.declared.statement.Terms.{Terms}
use Rattle.al_history.specs.Past.{Past}
use Rattle.al_history.specs.Database.{Table, Database, named}
use Rattle.al_history.specs.Hand.{hand, fault_of, in_hand, xact_of, look_of, acts_of, block_state}
use Rattle.al_history.specs.Cause.{used_name, name_cause, columns_cause, create_cause, count_cause, cause_at, cancel_cause, first_of, block_cause, text_cause, statement_cause, judged_cause, cause_of}

pub rest_clear : (first cause : Option Cause) → first_of first cause ≡ None → cause ≡ None
rest_clear None cause none = none
rest_clear (Some c) cause none = absurd cc

pub first_clear : (first cause : Option Cause) → first_of first cause ≡ None → first ≡ None
first_clear None cause none = refl
first_clear (Some c) cause none = absurd cc

-- no cause of its place is true of it
pub judged_clear : (terms : Terms) (past : Past) (s x : ℕ) (statement : Statement) → cause_of terms past s ≡ None → in_hand terms past s ≡ Some statement → xact_of past s ≡ Some x → cause_at terms past x statement (acts_of past s) (look_of past s) ≡ None
judged_clear terms past s x statement none is own =
    let any : judged_cause terms past s ≡ None = rest_clear (cancel_cause past s) (judged_cause terms past s) none in
    let judged : statement_cause terms past s ≡ None = rest_clear (text_cause (fault_of terms (hand past s))) (statement_cause terms past s) any in
    rest_clear (block_cause (block_state past s) statement) _ (rw (is, own) at judged)

-- the table that it uses is there
pub record IsThere (db : Database) (name : List ℕ) : Type 0 where
  pub t : Table
  pub found : named db name ≡ Some t

pub table_there : (statement : Statement) (db : Database) (name : List ℕ) → used_name statement ≡ Some name → name_cause statement db ≡ None → IsThere db name
table_there statement db name uses none = by_table (named db name) refl (rw uses at none) where
  by_table : (o : Option Table) → named db name ≡ o → cond (is_some o) None (Some (causes.NoTable name)) ≡ None → IsThere db name
  by_table None is none = absurd cc
  by_table (Some t) is none = record { t = t; found = is }

-- a new table's name isn't there
pub name_free : (name : List ℕ) (columns : List (List ℕ)) (db : Database) → create_cause name columns None db ≡ None → is_some (named db name) ≡ false
name_free name columns db none = by_test (is_some (named db name)) none where
  by_test : (b : Bool) → cond b (Some (causes.TwiceTable name)) (columns_cause [] columns) ≡ None → b ≡ false
  by_test true none = absurd cc
  by_test false none = refl

-- an INSERT has no more values than its table has columns
pub count_fits : (got : ℕ) (t : Table) → count_cause got (Some t) ≡ None → got ≤ length t.columns
count_fits got t none = ltb-false (length t.columns) got (by_test (nat_lt (length t.columns) got) none) where
  by_test : (b : Bool) → cond b (Some (causes.Count (length t.columns) got)) None ≡ None → b ≡ false
  by_test true none = absurd cc
  by_test false none = refl
