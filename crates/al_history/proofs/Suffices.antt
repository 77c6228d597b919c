-- Locks suffice: of every legal journal the one list serves all readers.
use Rattle.std.proofs.Common.{◌≡◌, ℕ, ◌≤◌, List, [], ◌∷◌, length, refl, sym, ap, cond, true, false, Bool, Option, Some, None, arith, ◌∙◌, length-append, length-drop}
use Rattle.std.specs.Prelude.{◌==◌, ◌&&◌, not, is_some}
use Rattle.std.proofs.lemmas.Bool.{eq-eqb, ne_eqb, or_parts}
use Rattle.std.proofs.lemmas.List.{length-map}
use Rattle.al_values.specs.declared.scalar.Value.{Value}
use Rattle.al_modes.specs.declared.mode.Mode.TheVariants.{RowExclusive, AccessExclusive}
use Rattle.al_history.specs.declared.entry.Entry.TheVariants.{Make, Add, Alter, Commit, Abort}
use Rattle.al_history.specs.declared.entry.Rewritten.{Rewritten}
use Rattle.al_history.specs.declared.statement.Column.{Column}
use Rattle.al_history.specs.declared.statement.Statement.{Statement}
use Rattle.al_history.specs.declared.statement.Statement.TheVariants as statements
use Rattle.al_history.specs.declared.statement.Terms.{Terms}
use Rattle.al_history.specs.Past.{Past}
use Rattle.al_history.specs.Database.{Table, same_name, named}
use Rattle.al_history.specs.Change.{filled, column_cause}
use Rattle.al_history.specs.Fate.{Fate, Open, Committed, Aborted, fate}
use Rattle.al_history.specs.Hand.{hand, in_hand, statement_of, xact_of, session_of, look_of, acts_of}
use Rattle.al_history.specs.Locks.{held, is_held}
use Rattle.al_history.specs.Waits.{is_open}
use Rattle.al_history.specs.Need.{makers, first_open}
use Rattle.al_history.specs.Cause.{create_cause, count_cause, cause_at}
use Rattle.al_history.specs.View.{latest, committed}
use Rattle.al_history.specs.Store.{is_committed, KeptTable, shown_table, shown, sees, store}
use Rattle.al_history.specs.Fits.{CanSee, EachOf, MakeFits, AddFits, AlterFits, Fits}
use Rattle.al_history.specs.Tail.{owed, Follows}
use Rattle.al_history.specs.Rules.{MakeRule, AddRule, AlterRule}
use Rattle.al_history.specs.Legal.{Legal}
use Rattle.al_history.proofs.Clear.{first_clear, judged_clear, IsThere, table_there, name_free, count_fits}
use Rattle.al_history.proofs.Looks.{step_kept, IsInStep, in_step, HasLooked, has_looked}
use Rattle.al_history.proofs.Makers.{store_ascends, makers_among, makers_stored}
use Rattle.al_history.proofs.Names.{IsFound}
use Rattle.al_history.proofs.Needs.{IsCreation, creation, IsInsertion, insertion, IsAddition, addition, lock_held}
use Rattle.al_history.proofs.Owners.{alter_held}
use Rattle.al_history.proofs.Sights.{columns_agree, found_each, agree_locked}
use Rattle.al_history.proofs.Steady.{IsSteady, steady}
use Rattle.al_history.proofs.Stores.{latest_shown, committed_shown}
use Rattle.al_history.proofs.Xacts.{xact_is}

-- what holds of each table of a number
each_both : (P Q R : KeptTable → Type 0) (number : ℕ) (tables : List KeptTable) → ((t : KeptTable) → P t → Q t → R t) → EachOf number P tables → EachOf number Q tables → EachOf number R tables
each_both P Q R number [] both p q = tt
each_both P Q R number (t ∷ tables) both p q = ((λ is. both t (p.0 is) (q.0 is)), each_both P Q R number tables both p.1 q.1)

-- ---- CREATE TABLE

-- a name that the maker doesn't see, and that no other open transaction has made, is seen by nobody who sees the maker
unnamed_so : (past : Past) (f : ℕ → Bool) (x : ℕ) (name : List ℕ) (tables : List KeptTable) → CanSee past f → first_open past x (makers_among tables name) ≡ None → is_some (named (shown (sees past (Some x)) tables) name) ≡ false → is_some (named (shown f tables) name) ≡ false
unnamed_so past f x name [] can free none = refl
unnamed_so past f x name (t ∷ tables) can free none = by_name (same_name t.name name) refl free none (λ h k. unnamed_so past f x name tables can h k) where
  other_free : (b : Bool) → same_name t.name name ≡ false → is_some (named (cond b (shown_table f t ∷ shown f tables) (shown f tables)) name) ≡ is_some (named (shown f tables) name)
  other_free true other = rw other refl
  other_free false other = refl

  other_none : (b : Bool) → same_name t.name name ≡ false → is_some (named (cond b (shown_table (sees past (Some x)) t ∷ shown (sees past (Some x)) tables) (shown (sees past (Some x)) tables)) name) ≡ is_some (named (shown (sees past (Some x)) tables) name)
  other_none true other = rw other refl
  other_none false other = refl

  unseen : (b : Bool) → same_name t.name name ≡ true → is_some (named (cond b (shown_table (sees past (Some x)) t ∷ shown (sees past (Some x)) tables) (shown (sees past (Some x)) tables)) name) ≡ false → (b ≡ false) × (is_some (named (shown (sees past (Some x)) tables) name) ≡ false)
  unseen true same none = let no : is_some (Some (shown_table (sees past (Some x)) t)) ≡ false = rw same at none in absurd cc
  unseen false same none = (refl, none)

  gone : (k : Fate) → (x == t.maker) ≡ false → is_committed k ≡ false → (not (t.maker == x) && is_open k) ≡ false → k ≡ Aborted
  gone Open other done clear = let turned : (t.maker == x) ≡ false = ne_eqb t.maker x (λ e. let it_is : (x == t.maker) ≡ true = eq-eqb x t.maker (sym e) in absurd cc) in let no : (not false && true) ≡ false = rw turned at clear in absurd cc
  gone Committed other done clear = absurd cc
  gone Aborted other done clear = refl

  first_free : (b : Bool) → cond b (Some t.maker) (first_open past x (makers_among tables name)) ≡ None → (b ≡ false) × (first_open past x (makers_among tables name) ≡ None)
  first_free true free = absurd cc
  first_free false free = (refl, free)

  by_name : (b : Bool) → same_name t.name name ≡ b → first_open past x (cond b (t.maker ∷ makers_among tables name) (makers_among tables name)) ≡ None → is_some (named (shown (sees past (Some x)) (t ∷ tables)) name) ≡ false → (first_open past x (makers_among tables name) ≡ None → is_some (named (shown (sees past (Some x)) tables) name) ≡ false → is_some (named (shown f tables) name) ≡ false) → is_some (named (shown f (t ∷ tables)) name) ≡ false
  by_name true same free none more =
      let hidden = unseen (sees past (Some x) t.maker) same none in
      let parts = or_parts (x == t.maker) (is_committed (fate past t.maker)) hidden.0 in
      let test = first_free (not (t.maker == x) && is_open (fate past t.maker)) free in
      let aborted : f t.maker ≡ false = can.aborted t.maker (gone (fate past t.maker) parts.0 parts.1 test.0) in
      rw aborted (more test.1 hidden.1)
  by_name false other free none more = other_free (f t.maker) other ∙ more free (sym (other_none (sees past (Some x) t.maker) other) ∙ none)

make_fits : (terms : Terms) (past : Past) (x table : ℕ) (name : List ℕ) (shape : List Column) → Legal terms past → Fits terms past → MakeRule terms past x table name shape → MakeFits terms past x table name
make_fits terms past x table name shape legal fits rule = record { number = rule.number; unnamed = λ f can seen. unnamed_so past f x name (store terms past) can (rw (← makers_stored terms past name) rule.free) (rw (latest_shown terms past x fits undecided) at hidden) } where
  is : IsCreation (in_hand terms past (session_of past x)) name shape
  is = creation (in_hand terms past (session_of past x)) name shape rule.creates

  undecided : fate past x ≡ Open
  undecided = (xact_is terms past (session_of past x) x legal rule.act.open_xact).undecided

  h : HasLooked past (session_of past x)
  h = has_looked past (session_of past x) rule.act.looked

  hidden : is_some (named (latest terms past x) name) ≡ false
  hidden =
      let clear : cause_at terms past x (statements.CreateTable name is.columns) (acts_of past (session_of past x)) (look_of past (session_of past x)) ≡ None = judged_clear terms past (session_of past x) x _ rule.act.not_refused is.is rule.act.open_xact in
      let judged : create_cause name is.columns (first_open past x (makers past name)) (latest terms past x) ≡ None = first_clear _ _ (rw (rule.act.first, h.looked) at clear) in
      name_free name is.columns (latest terms past x) (rw rule.free at judged)

-- ---- the table that a statement uses

found_only : (terms : Terms) (past : Past) (x : ℕ) (name : List ℕ) (u : Table) → Legal terms past → Fits terms past → fate past x ≡ Open → named (latest terms past x) name ≡ Some u → EachOf u.number (λ t. (sees past (Some x) t.maker ≡ true) × (shown_table (sees past (Some x)) t ≡ u)) (store terms past)
found_only terms past x name u legal fits undecided found = found_each (sees past (Some x)) 0 (length past) (store terms past) name u (store_ascends terms past legal) (rw (latest_shown terms past x fits undecided) at found)

-- ---- ALTER TABLE

alter_fits : (terms : Terms) (past : Past) (x table statement : ℕ) (rewritten : List Rewritten) → Legal terms past → Fits terms past → AlterRule terms past x table statement rewritten → AlterFits terms past x table statement
alter_fits terms past x table statement rewritten legal fits rule = record { absent = λ f can seen name column same. rw is.number (each_both _ _ _ is.t.number (store terms past) (λ t of_t agree seen_maker. rw (columns_agree f (sees past (Some x)) t.slots (agree of_t.0), ap (λ (w : Table). w.columns) of_t.1) (absent_so name column same)) only (agree_locked terms past (session_of past x) x is.t.number AccessExclusive f legal rule.act.open_xact undecided (rw is.number at (alter_held terms past x table statement rewritten rule)) can seen)) } where
  is : IsAddition (in_hand terms past (session_of past x)) (latest terms past x) table
  is = addition (in_hand terms past (session_of past x)) (latest terms past x) table rule.alters

  undecided : fate past x ≡ Open
  undecided = (xact_is terms past (session_of past x) x legal rule.act.open_xact).undecided

  only : EachOf is.t.number (λ t. (sees past (Some x) t.maker ≡ true) × (shown_table (sees past (Some x)) t ≡ is.t)) (store terms past)
  only = found_only terms past x is.name is.t legal fits undecided is.found

  absent_so : (name : List ℕ) (column : Column) → statement_of terms (hand past (session_of past x)) statement ≡ Some (statements.AddColumn name column) → column_cause column.name is.t.columns ≡ None
  absent_so name column same =
      let here : in_hand terms past (session_of past x) ≡ Some (statements.AddColumn name column) = rw rule.number at same in
      let one : ◌≡◌ {A = Option Statement} (Some (statements.AddColumn is.name is.column)) (Some (statements.AddColumn name column)) = sym is.is ∙ here in
      let column_so : is.column ≡ column = cc in
      rw (← column_so) is.absent

-- ---- INSERT

length_filled : (columns : List Column) (written : List Value) → length written ≤ length columns → length (filled columns written) ≡ length columns
length_filled columns written le = simp (length-append, length-map, length-drop) (omega arith)

-- an INSERT has no more values than its table has columns now
values_fit : (terms : Terms) (past : Past) (x table : ℕ) (row : List Value) (name : List ℕ) (written : List Value) (t : Table) → Legal terms past → Fits terms past → Follows (owed terms past) (Add x table row) → AddRule terms past x table row → in_hand terms past (session_of past x) ≡ Some (statements.Insert name written) → named (latest terms past x) name ≡ Some t → length written ≤ length t.columns
values_fit terms past x table row name written t legal fits follows rule is found = by_look (in_step terms past (session_of past x) _ is) (has_looked past (session_of past x) rule.act.looked) where
  one_of : (a b : Table) → Some a ≡ Some b → a ≡ b
  one_of a b e = cc

  by_table : (look : Past) → look_of past (session_of past x) ≡ Some look → IsSteady terms past look (session_of past x) x → in_hand terms look (session_of past x) ≡ Some (statements.Insert name written) → IsThere (latest terms look x) name → length written ≤ length t.columns
  by_table look looked p is_then there =
      let lock : is_held (held look) (record { session = session_of past x; table = there.t.number; mode = RowExclusive }) ≡ true = rw p.own at (lock_held terms look x (statements.Insert name written) name there.t p.rule.locked (rw p.own is_then) refl there.found) in
      let now : IsFound (latest terms past x) name there.t ((is_held (held look) (record { session = session_of past x; table = there.t.number; mode = RowExclusive }) ≡ true) × (acts_of past (session_of past x) ≡ [])) = p.finds name there.t RowExclusive there.found in
      let same : now.t ≡ t = one_of now.t t (sym now.is ∙ found) in
      let columns : t.columns ≡ there.t.columns = rw same at (now.columns (lock, rule.act.first)) in
      let clear : cause_at terms past x (statements.Insert name written) (acts_of past (session_of past x)) (look_of past (session_of past x)) ≡ None = judged_clear terms past (session_of past x) x _ rule.act.not_refused is rule.act.open_xact in
      let judged : count_cause (length written) (named (latest terms look x) name) ≡ None = first_clear _ _ (rw (rule.act.first, looked) at clear) in
      rw columns (count_fits (length written) there.t (rw there.found at judged))

  by_steady : (look : Past) → look_of past (session_of past x) ≡ Some look → IsSteady terms past look (session_of past x) x → length written ≤ length t.columns
  by_steady look looked p =
      let is_then : in_hand terms look (session_of past x) ≡ Some (statements.Insert name written) = p.statement ∙ is in
      let own_then : xact_of look (session_of past x) ≡ Some x = rw p.own at p.rule.open_xact in
      let clear_then : cause_at terms look x (statements.Insert name written) (acts_of look (session_of past x)) (look_of look (session_of past x)) ≡ None = judged_clear terms look (session_of past x) x _ (rw p.own at p.rule.not_refused) is_then own_then in
      let first_then : look_of look (session_of past x) ≡ None = rw p.own at p.rule.first in
      let judged_then : cause_at terms look x (statements.Insert name written) (acts_of look (session_of past x)) None ≡ None = ap (λ (o : Option Past). cause_at terms look x (statements.Insert name written) (acts_of look (session_of past x)) o) (sym first_then) ∙ clear_then in
      by_table look looked p is_then (table_there (statements.Insert name written) (latest terms look x) name refl (first_clear _ _ judged_then))

  by_look : IsInStep past (session_of past x) → HasLooked past (session_of past x) → length written ≤ length t.columns
  by_look i h =
      let kept = step_kept terms past (session_of past x) i.block (Add x table row) legal i.step follows (λ none. none) in
      by_steady h.look h.looked (steady terms past h.look (session_of past x) x i.block legal fits rule.act.open_xact h.looked i.step kept)

add_fits : (terms : Terms) (past : Past) (x table : ℕ) (row : List Value) → Legal terms past → Fits terms past → Follows (owed terms past) (Add x table row) → AddRule terms past x table row → AddFits terms past x table row
add_fits terms past x table row legal fits follows rule = record { fits = λ f can seen. rw is.number (each_both _ _ _ is.t.number (store terms past) (λ t of_t agree seen_maker. (agree of_t.0, rw (columns_agree f (sees past (Some x)) t.slots (agree of_t.0), ap (λ (w : Table). w.columns) of_t.1) count)) only (agree_locked terms past (session_of past x) x is.t.number RowExclusive f legal rule.act.open_xact undecided lock can seen)) } where
  is : IsInsertion (in_hand terms past (session_of past x)) (latest terms past x) table row
  is = insertion (in_hand terms past (session_of past x)) (latest terms past x) table row rule.inserts

  undecided : fate past x ≡ Open
  undecided = (xact_is terms past (session_of past x) x legal rule.act.open_xact).undecided

  only : EachOf is.t.number (λ t. (sees past (Some x) t.maker ≡ true) × (shown_table (sees past (Some x)) t ≡ is.t)) (store terms past)
  only = found_only terms past x is.name is.t legal fits undecided is.found

  lock : is_held (held past) (record { session = session_of past x; table = is.t.number; mode = RowExclusive }) ≡ true
  lock = lock_held terms past x (statements.Insert is.name is.written) is.name is.t rule.act.locked is.is refl is.found

  count : length row ≡ length is.t.columns
  count = ap length is.filled_so ∙ (length_filled is.t.columns is.written (values_fit terms past x table row is.name is.written is.t legal fits follows rule is.is is.found))

-- ---- the theorem

-- the locks of a legal journal suffice for one list to serve every reader
pub locks_suffice : (terms : Terms) (past : Past) → Legal terms past → Fits terms past
locks_suffice terms [] legal = tt
locks_suffice terms (Make x table name shape ∷ past) legal = (make_fits terms past x table name shape legal.1 (locks_suffice terms past legal.1) legal.0.rule, locks_suffice terms past legal.1)
locks_suffice terms (Add x table row ∷ past) legal = (add_fits terms past x table row legal.1 (locks_suffice terms past legal.1) legal.0.follows legal.0.rule, locks_suffice terms past legal.1)
locks_suffice terms (Alter x table statement rewritten ∷ past) legal = (alter_fits terms past x table statement rewritten legal.1 (locks_suffice terms past legal.1) legal.0.rule, locks_suffice terms past legal.1)
locks_suffice terms (Commit x ∷ past) legal = ((xact_is terms past (session_of past x) x legal.1 legal.0.rule.open_xact).undecided, locks_suffice terms past legal.1)
locks_suffice terms (Abort x ∷ past) legal = ((xact_is terms past (session_of past x) x legal.1 legal.0.rule.open_xact).undecided, locks_suffice terms past legal.1)
locks_suffice terms (e ∷ past) legal = locks_suffice terms past legal.1

-- a new row has a value for each column that its maker finds
pub one_value_each : (terms : Terms) (past : Past) (x table : ℕ) (row : List Value) → Legal terms past → Follows (owed terms past) (Add x table row) → AddRule terms past x table row → (is : IsInsertion (in_hand terms past (session_of past x)) (latest terms past x) table row) → length row ≡ length is.t.columns
one_value_each terms past x table row legal follows rule is = ap length is.filled_so ∙ (length_filled is.t.columns is.written (values_fit terms past x table row is.name is.written is.t legal (locks_suffice terms past legal) follows rule is.is is.found))

-- ---- what follows for readers

-- the latest database of a session's transaction is what the one list shows it
pub latest_stored : (terms : Terms) (past : Past) (s x : ℕ) → Legal terms past → xact_of past s ≡ Some x → latest terms past x ≡ shown (sees past (Some x)) (store terms past)
latest_stored terms past s x legal own = latest_shown terms past x (locks_suffice terms past legal) (xact_is terms past s x legal own).undecided

-- so is what is committed
pub committed_stored : (terms : Terms) (past : Past) → Legal terms past → committed terms past ≡ shown (sees past None) (store terms past)
committed_stored terms past legal = committed_shown terms past (locks_suffice terms past legal)
