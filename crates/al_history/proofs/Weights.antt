-- A legal journal weighs no more than its limit.
use Rattle.std.proofs.Common.{◌≡◌, ℕ, ◌+◌, ◌≤◌, List, [], ◌∷◌, length, refl, sym, cond, true, false, Bool, Option, Some, None, arith, ◌∙◌, ◌⊎◌, inl, inr}
use Rattle.std.specs.Prelude.{nat_le, option_map}
use Rattle.std.proofs.lemmas.Bool.{leb-true}
use Rattle.std.proofs.lemmas.List.{length-map}
use Rattle.al_values.specs.declared.scalar.Value.{Value}
use Rattle.al_modes.specs.declared.mode.Mode.{Mode}
use Rattle.al_statements.specs.declared.cause.Cause.TheVariants as causes
use Rattle.al_statements.specs.declared.cause.RunLimit.TheVariants as limits
use Rattle.al_history.specs.declared.entry.Entry.TheVariants.{Wait, Lock, Look, Make, Add, Read, Alter}
use Rattle.al_history.specs.declared.entry.Want.TheVariants as wants
use Rattle.al_history.specs.declared.entry.Rewritten.{Rewritten}
use Rattle.al_history.specs.declared.statement.Column.{Column}
use Rattle.al_history.specs.declared.statement.Statement.{Statement}
use Rattle.al_history.specs.declared.statement.Statement.TheVariants as statements
use Rattle.al_history.specs.declared.statement.Terms.{Terms}
use Rattle.al_history.specs.Past.{Past}
use Rattle.al_history.specs.Database.{Table, Database, named}
use Rattle.al_history.specs.Change.{filled}
use Rattle.al_history.specs.Query.{column_names, answer}
use Rattle.al_history.specs.Hand.{in_hand, xact_of, session_of, look_of, acts_of}
use Rattle.al_history.specs.View.{latest}
use Rattle.al_history.specs.Locks.{Claim, claim, grantable, is_waiting}
use Rattle.al_history.specs.Waits.{is_blocked}
use Rattle.al_history.specs.Need.{has_place, lacking, makers, first_open, name_taker}
use Rattle.al_history.specs.Weight.{row_weight, read_weight, rewritten_weight, weight}
use Rattle.al_history.specs.Cause.{used_name, weight_before, added_weight, answered_weight, weight_after, over, limit_cause, cause_at, cause_of}
use Rattle.al_history.specs.Tail.{owed, Follows}
use Rattle.al_history.specs.Rules.{LacksLock, WaitsForLock, IsAnswer, Selects, WaitRule, MakeRule, AddRule, ReadRule, AlterRule}
use Rattle.al_history.specs.Legal.{Unless, Legal}
use Rattle.al_history.proofs.Clear.{rest_clear, judged_clear}
use Rattle.al_history.proofs.Looks.{HasLooked, has_looked}
use Rattle.al_history.proofs.Needs.{IsCreation, creation, IsInsertion, insertion, IsAddition, addition, LacksInHand, lacks_in_hand}
use Rattle.al_history.proofs.Unblocked.{IsTaken, taken_by, lock_unblocked, look_unblocked, act_unblocked, goes_unblocked}

-- ---- an entry that isn't refused for its weight

over_fits : (terms : Terms) (past : Past) (next : ℕ) → over terms past next ≡ None → weight past + next ≤ terms.weight
over_fits terms past next none = leb-true (weight past + next) terms.weight (by_test (nat_le (weight past + next) terms.weight) none) where
  by_test : (b : Bool) → cond b None (Some (causes.Limit limits.Journal (weight past + next))) ≡ None → b ≡ true
  by_test true none = refl
  by_test false none = absurd cc

module _ (terms : Terms) (past : Past) (x next : ℕ) (statement : Statement) (unrefused : cause_of terms past (session_of past x) ≡ None) (is : in_hand terms past (session_of past x) ≡ Some statement) (own : xact_of past (session_of past x) ≡ Some x) (free : is_blocked past (session_of past x) ≡ false) where
  -- before its Look
  fits_before : look_of past (session_of past x) ≡ None → weight_before past (has_place statement) (lacking terms past x) ≡ Some next → weight past + next ≤ terms.weight
  fits_before first weighs =
      let judged : cause_at terms past x statement (acts_of past (session_of past x)) (look_of past (session_of past x)) ≡ None = judged_clear terms past (session_of past x) x statement unrefused is own in
      let clear : limit_cause terms past x (weight_before past (has_place statement) (lacking terms past x)) ≡ None = rest_clear _ _ (rw first at judged) in
      over_fits terms past next (rw (free, weighs) at clear)

  -- after it, where the statement has done nothing
  fits_after : (look : Past) → look_of past (session_of past x) ≡ Some look → acts_of past (session_of past x) ≡ [] → weight_after statement [] (name_taker past x statement) (latest terms past x) (latest terms look x) ≡ Some next → weight past + next ≤ terms.weight
  fits_after look looked none_done weighs =
      let judged : cause_at terms past x statement (acts_of past (session_of past x)) (look_of past (session_of past x)) ≡ None = judged_clear terms past (session_of past x) x statement unrefused is own in
      let clear : limit_cause terms past x (weight_after statement [] (name_taker past x statement) (latest terms past x) (latest terms look x)) ≡ None = rest_clear _ _ (rest_clear _ _ (rw (looked, none_done) at judged)) in
      over_fits terms past next (rw (free, weighs) at clear)

-- ---- before the Look

-- a statement that uses a table has a place
uses_placed : (statement : Statement) (name : List ℕ) → used_name statement ≡ Some name → has_place statement ≡ true
uses_placed statements.Begin name uses = absurd cc
uses_placed statements.Commit name uses = absurd cc
uses_placed statements.Rollback name uses = absurd cc
uses_placed statement name uses = refl

-- a lock, or the wait for it
lock_weighs : (terms : Terms) (past : Past) (x : ℕ) (c : Claim) → cause_of terms past (session_of past x) ≡ None → xact_of past (session_of past x) ≡ Some x → look_of past (session_of past x) ≡ None → lacking terms past x ≡ Some c → is_blocked past (session_of past x) ≡ false → weight past + cond (grantable past c) 1 2 ≤ terms.weight
lock_weighs terms past x c unrefused own first lacks free =
    let l : LacksInHand terms past x c = lacks_in_hand terms past x c lacks in
    fits_before terms past x (cond (grantable past c) 1 2) l.statement unrefused l.is own free first (rw (uses_placed l.statement l.lacks.name l.lacks.uses, lacks) refl)

pub record IsPlaced (o : Option Statement) : Type 0 where
  pub statement : Statement
  pub is : o ≡ Some statement
  pub placed : has_place statement ≡ true

placed_of : (o : Option Statement) → option_map has_place o ≡ Some true → IsPlaced o
placed_of None placed = absurd cc
placed_of (Some statement) placed = record { statement = statement; is = refl; placed = cc }

look_weighs : (terms : Terms) (past : Past) (x : ℕ) → Legal terms (Look x ∷ past) → weight past + 1 ≤ terms.weight
look_weighs terms past x legal =
    let p : IsPlaced (in_hand terms past (session_of past x)) = placed_of (in_hand terms past (session_of past x)) legal.0.rule.statement in
    let free : is_blocked past (session_of past x) ≡ false = look_unblocked terms past x legal.1 legal.0.follows legal.0.rule.open_xact legal.0.rule.first legal.0.rule.locked in
    fits_before terms past x 1 p.statement legal.0.rule.not_refused p.is legal.0.rule.open_xact free legal.0.rule.first (rw (p.placed, legal.0.rule.locked) refl)

lacked_weighs : (terms : Terms) (past : Past) (x table : ℕ) (mode : Mode) → Legal terms past → Unless (is_waiting past (claim past x table mode)) (Follows (owed terms past) (Lock x table mode)) → xact_of past (session_of past x) ≡ Some x → grantable past (claim past x table mode) ≡ true → LacksLock terms past x (claim past x table mode) → weight past + 1 ≤ terms.weight
lacked_weighs terms past x table mode legal follows own can lacks =
    let next : Follows (owed terms past) (Lock x table mode) = rw lacks.not_waiting at follows in
    let free : is_blocked past (session_of past x) ≡ false = lock_unblocked terms past x table mode legal next own lacks in
    rw can at (lock_weighs terms past x (claim past x table mode) lacks.not_refused own lacks.before_look lacks.lacks free)

wait_for_lock_weighs : (terms : Terms) (past : Past) (x table : ℕ) (mode : Mode) → WaitRule terms past x (wants.Table table mode) → weight past + 2 ≤ terms.weight
wait_for_lock_weighs terms past x table mode rule =
    let free : is_blocked past (session_of past x) ≡ false = goes_unblocked past (session_of past x) rule.in_step in
    rw rule.waits_for.2 at (lock_weighs terms past x (claim past x table mode) rule.not_refused rule.open_xact rule.waits_for.0 rule.waits_for.1 free)

-- ---- after the Look

wait_for_end_weighs : (terms : Terms) (past : Past) (x y : ℕ) → WaitRule terms past x (wants.Ends y) → weight past + 2 ≤ terms.weight
wait_for_end_weighs terms past x y rule =
    let t : IsTaken past x y (in_hand terms past (session_of past x)) = taken_by past x y (in_hand terms past (session_of past x)) rule.waits_for.1 in
    let h : HasLooked past (session_of past x) = has_looked past (session_of past x) rule.waits_for.0 in
    let free : is_blocked past (session_of past x) ≡ false = goes_unblocked past (session_of past x) rule.in_step in
    fits_after terms past x 2 (statements.CreateTable t.name t.columns) rule.not_refused t.is rule.open_xact free h.look h.looked rule.waits_for.2 (rw t.taken refl)

-- a statement that is another isn't a CREATE TABLE
no_creation : (terms : Terms) (past : Past) (x : ℕ) (statement : Statement) → in_hand terms past (session_of past x) ≡ Some statement → ((name : List ℕ) (columns : List (List ℕ)) → Some statement ≡ Some (statements.CreateTable name columns) → ⊥) → (name : List ℕ) (columns : List (List ℕ)) → in_hand terms past (session_of past x) ≡ Some (statements.CreateTable name columns) → first_open past x (makers past name) ≡ None
no_creation terms past x statement is other name columns creates = absurd (other name columns (sym is ∙ creates))

make_weighs : (terms : Terms) (past : Past) (x table : ℕ) (name : List ℕ) (shape : List Column) → Legal terms (Make x table name shape ∷ past) → weight past + (1 + length shape) ≤ terms.weight
make_weighs terms past x table name shape legal =
    let rule : MakeRule terms past x table name shape = legal.0.rule in
    let is : IsCreation (in_hand terms past (session_of past x)) name shape = creation (in_hand terms past (session_of past x)) name shape rule.creates in
    let h : HasLooked past (session_of past x) = has_looked past (session_of past x) rule.act.looked in
    let free : is_blocked past (session_of past x) ≡ false = act_unblocked terms past (Make x table name shape) x legal.1 legal.0.follows (λ leaving. leaving) rule.act (λ other columns creates. rw (same_name is.is creates) rule.free) in
    let fits : weight past + (1 + length is.columns) ≤ terms.weight = fits_after terms past x (1 + length is.columns) (statements.CreateTable name is.columns) rule.act.not_refused is.is rule.act.open_xact free h.look h.looked rule.act.first (rw rule.free refl) in
    rw (is.shaped, length-map) fits where
      same_name : {o : Option Statement} {n m : List ℕ} {c d : List (List ℕ)} → o ≡ Some (statements.CreateTable n c) → o ≡ Some (statements.CreateTable m d) → m ≡ n
      same_name e f = cc

added : (o : Option Table) (t : Table) (written row : List Value) → o ≡ Some t → row ≡ filled t.columns written → option_map (added_weight written) o ≡ Some (1 + row_weight row)
added o t written row found filled_so = rw (found, filled_so) refl

add_weighs : (terms : Terms) (past : Past) (x table : ℕ) (row : List Value) → Legal terms (Add x table row ∷ past) → weight past + (1 + row_weight row) ≤ terms.weight
add_weighs terms past x table row legal =
    let rule : AddRule terms past x table row = legal.0.rule in
    let is : IsInsertion (in_hand terms past (session_of past x)) (latest terms past x) table row = insertion (in_hand terms past (session_of past x)) (latest terms past x) table row rule.inserts in
    let h : HasLooked past (session_of past x) = has_looked past (session_of past x) rule.act.looked in
    let free : is_blocked past (session_of past x) ≡ false = act_unblocked terms past (Add x table row) x legal.1 legal.0.follows (λ leaving. leaving) rule.act (no_creation terms past x (statements.Insert is.name is.written) is.is (λ name columns wrong. cc)) in
    fits_after terms past x (1 + row_weight row) (statements.Insert is.name is.written) rule.act.not_refused is.is rule.act.open_xact free h.look h.looked rule.act.first (added (named (latest terms past x) is.name) is.t is.written row is.found is.filled_so)

pub record IsSelection (o : Option Statement) (db : Database) (names : List (List ℕ)) (rows : List (List Value)) : Type 0 where
  pub name : List ℕ
  pub t : Table
  pub is : o ≡ Some (statements.Select name)
  pub found : named db name ≡ Some t
  pub names_so : names ≡ column_names t
  pub rows_so : rows ≡ answer t

selection : (o : Option Statement) (db : Database) (names : List (List ℕ)) (rows : List (List Value)) → Selects o db names rows → IsSelection o db names rows
selection (Some (statements.Select name)) db names rows selects = by_table (named db name) refl selects where
  by_table : (q : Option Table) → named db name ≡ q → IsAnswer q names rows → IsSelection (Some (statements.Select name)) db names rows
  by_table None found selects = absurd selects
  by_table (Some t) found selects = record { name = name; t = t; is = refl; found = found; names_so = selects.0; rows_so = selects.1 }
selection o db names rows selects = absurd selects

answered : (o : Option Table) (t : Table) (names : List (List ℕ)) (rows : List (List Value)) → o ≡ Some t → names ≡ column_names t → rows ≡ answer t → option_map answered_weight o ≡ Some (read_weight names rows)
answered o t names rows found names_so rows_so = rw (found, names_so, rows_so) refl

read_weighs : (terms : Terms) (past : Past) (x : ℕ) (names : List (List ℕ)) (rows : List (List Value)) → Legal terms (Read x names rows ∷ past) → weight past + read_weight names rows ≤ terms.weight
read_weighs terms past x names rows legal =
    let rule : ReadRule terms past x names rows = legal.0.rule in
    let h : HasLooked past (session_of past x) = has_looked past (session_of past x) rule.act.looked in
    let is : IsSelection (in_hand terms past (session_of past x)) (latest terms h.look x) names rows = selection (in_hand terms past (session_of past x)) (latest terms h.look x) names rows (rw h.looked at rule.selects) in
    let free : is_blocked past (session_of past x) ≡ false = act_unblocked terms past (Read x names rows) x legal.1 legal.0.follows (λ leaving. leaving) rule.act (no_creation terms past x (statements.Select is.name) is.is (λ name columns wrong. cc)) in
    fits_after terms past x (read_weight names rows) (statements.Select is.name) rule.act.not_refused is.is rule.act.open_xact free h.look h.looked rule.act.first (answered (named (latest terms h.look x) is.name) is.t names rows is.found is.names_so is.rows_so)

alter_weighs : (terms : Terms) (past : Past) (x table statement : ℕ) → Legal terms (Alter x table statement [] ∷ past) → weight past + 1 ≤ terms.weight
alter_weighs terms past x table statement legal =
    let rule : AlterRule terms past x table statement [] = legal.0.rule in
    let is : IsAddition (in_hand terms past (session_of past x)) (latest terms past x) table = addition (in_hand terms past (session_of past x)) (latest terms past x) table rule.alters in
    let h : HasLooked past (session_of past x) = has_looked past (session_of past x) rule.act.looked in
    let free : is_blocked past (session_of past x) ≡ false = act_unblocked terms past (Alter x table statement []) x legal.1 legal.0.follows (λ leaving. leaving) rule.act (no_creation terms past x (statements.AddColumn is.name is.column) is.is (λ name columns wrong. cc)) in
    fits_after terms past x 1 (statements.AddColumn is.name is.column) rule.act.not_refused is.is rule.act.open_xact free h.look h.looked rule.act.first refl

-- ---- the journal

-- a legal journal weighs no more than its limit
pub weighs : (terms : Terms) (past : Past) → Legal terms past → weight past ≤ terms.weight
weighs terms [] legal = omega arith
weighs terms (Wait x (wants.Table table mode) ∷ past) legal = wait_for_lock_weighs terms past x table mode legal.0.rule
weighs terms (Wait x (wants.Ends y) ∷ past) legal = wait_for_end_weighs terms past x y legal.0.rule
weighs terms (Lock x table mode ∷ past) legal = by_asked legal.0.rule.asked (weighs terms past legal.1) where
  by_asked : WaitsForLock past (claim past x table mode) ⊎ LacksLock terms past x (claim past x table mode) → weight past ≤ terms.weight → weight (Lock x table mode ∷ past) ≤ terms.weight
  by_asked (inl waited) before = rw waited.waits before
  by_asked (inr lacks) before = rw lacks.not_waiting (lacked_weighs terms past x table mode legal.1 legal.0.follows legal.0.rule.open_xact legal.0.rule.can_be lacks)
weighs terms (Look x ∷ past) legal = look_weighs terms past x legal
weighs terms (Make x table name shape ∷ past) legal = make_weighs terms past x table name shape legal
weighs terms (Add x table row ∷ past) legal = add_weighs terms past x table row legal
weighs terms (Read x names rows ∷ past) legal = read_weighs terms past x names rows legal
weighs terms (Alter x table statement rewritten ∷ past) legal = none_rewritten rewritten legal.0.rule.none_rewritten legal where
  none_rewritten : (tables : List Rewritten) → tables ≡ [] → Legal terms (Alter x table statement tables ∷ past) → weight past + (1 + rewritten_weight tables) ≤ terms.weight
  none_rewritten [] none legal = alter_weighs terms past x table statement legal
  none_rewritten (first ∷ tables) none legal = absurd cc
weighs terms (e ∷ past) legal = weighs terms past legal.1
