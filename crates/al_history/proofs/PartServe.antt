-- The parts show every reader of a legal past what it finds.
use Rattle.std.proofs.Common.{◌≡◌, ℕ, List, [], ◌∷◌, ◌++◌, length, refl, sym, ap, subst, cond, true, false, Bool, Option, Some, None, ◌∙◌, inl, inr}
use Rattle.std.specs.Prelude.{◌==◌, ◌||◌, is_some}
use Rattle.std.proofs.lemmas.Bool.{ne_eqb, eq-eqb, eqb-true}
use mathlib.Core.Path.{fun_ext}
use Rattle.al_values.specs.declared.scalar.Value.{Value}
use Rattle.al_history.specs.declared.entry.Rewritten.{Rewritten}
use Rattle.al_history.specs.declared.entry.Entry.TheVariants.{Make, Add, Alter, Commit, Abort}
use Rattle.al_history.specs.declared.statement.Column.{Column}
use Rattle.al_history.specs.declared.statement.Statement.TheVariants as statements
use Rattle.al_history.specs.declared.statement.Terms.{Terms}
use Rattle.al_history.specs.Past.{Past}
use Rattle.al_history.specs.Database.{Table, Database, named, has_table, has_row, with_table}
use Rattle.al_history.specs.Change.{made, with_row, added, alteration, column_cause, after_alteration, altered}
use Rattle.al_history.specs.Fate.{Fate, Open, Committed, Aborted, fate, is_that, Standing, Inside, Outside, Absent, standing, inside_if, outside_if}
use Rattle.al_history.specs.Hand.{hand, session_of, statement_of, in_hand, look_of, acts_of}
use Rattle.al_history.specs.Cause.{create_cause, cause_at}
use Rattle.al_history.specs.Need.{makers, first_open}
use Rattle.al_history.specs.View.{for_both, for_inside, view_by, view, latest}
use Rattle.al_history.specs.Store.{is_committed, sees}
use Rattle.al_history.specs.Parts.{RowVersions, Description, TableParts, Sight, stands_in, live_columns, seen_description, seen_generation, seen_rows, table_in, seen_table, seen_in, stored_by, stored_in, new_table, new_row, with_new_row, in_generation, altered_by, with_new_entry, with_parts, parts}
use Rattle.al_history.specs.Readers.{sight, IsTail, IsReader}
use Rattle.al_history.specs.Rules.{MakeRule, AddRule, AlterRule}
use Rattle.al_history.specs.Tail.{owed, Follows}
use Rattle.al_history.specs.Legal.{Legal}
use Rattle.al_history.proofs.Clear.{first_clear, judged_clear, name_free}
use Rattle.al_history.proofs.Looks.{HasLooked, has_looked}
use Rattle.al_history.proofs.Needs.{IsCreation, creation, IsInsertion, insertion, IsAddition, addition}
use Rattle.al_history.proofs.PartRows.{RowsShort, columns_again, columns_more, rows_grown, row_new, row_unseen, row_fresh}
use Rattle.al_history.proofs.PartTables.{EachOf, each_of, each_both, each_below, seen_below, GenerationsBelow, with_once, seen_ascends, IsDescribed, description_of, found_once, mapped, seen_with, seen_same, seen_push}
use Rattle.al_history.proofs.PartSights.{IsSight, still, before_commit, before_abort, own_sight, own_is, both_is, inside_is, entries_agree, has_generation, generation_seen, generation_keeps, IsSettledTable, settled_by_quiet, add_quiet, alter_quiet, parts_sound, IsShortTable, each_short, parts_short, IsFoundTable, each_found, parts_found}
use Rattle.al_history.proofs.MadeNames.{counts, named_is_made, number_free, name_unseen}
use Rattle.al_history.proofs.Suffices.{one_value_each}
use Rattle.al_history.proofs.Xacts.{xact_is}

append_none : {A : Type 0} → (xs : List A) → xs ++ [] ≡ xs
append_none {A = A} [] = refl
append_none {A = A} (x ∷ xs) = ap (λ (rest : List A). x ∷ rest) (append_none xs)

-- what holds of the tables of a number, three ways
each_three : (number : ℕ) (P Q R S : TableParts → Type 0) (tables : List TableParts) → ((t : TableParts) → P t → Q t → R t → S t) → EachOf number P tables → EachOf number Q tables → EachOf number R tables → EachOf number S tables
each_three number P Q R S [] more p q r = tt
each_three number P Q R S (t ∷ tables) more p q r = ((λ is. more t (p.0 is) (q.0 is) (r.0 is)), each_three number P Q R S tables more p.1 q.1 r.1)

-- ---- CREATE TABLE

-- the name of a new table is found by nobody who sees its maker
unnamed : (terms : Terms) (past : Past) (f : Sight) (x table : ℕ) (name : List ℕ) (columns : List Column) → Legal terms past → IsSight past f → MakeRule terms past x table name columns → is_some (named (view_by terms (stands_in f) past) name) ≡ false
unnamed terms past f x table name columns legal can rule = named_is_made terms (stands_in f) past name legal ∙ name_unseen past x (stands_in f) past name hides rule.free (sym (named_is_made terms (standing past past (Some x)) past name legal) ∙ hidden) where
  is : IsCreation (in_hand terms past (session_of past x)) name columns
  is = creation (in_hand terms past (session_of past x)) name columns rule.creates

  h : HasLooked past (session_of past x)
  h = has_looked past (session_of past x) rule.act.looked

  hidden : is_some (named (latest terms past x) name) ≡ false
  hidden =
      let clear : cause_at terms past x (statements.CreateTable name is.columns) (acts_of past (session_of past x)) (look_of past (session_of past x)) ≡ None = judged_clear terms past (session_of past x) x _ rule.act.not_refused is.is rule.act.open_xact in
      let judged : create_cause name is.columns (first_open past x (makers past name)) (latest terms past x) ≡ None = first_clear _ _ (rw (rule.act.first, h.looked) at clear) in
      name_free name is.columns (latest terms past x) (rw rule.free at judged)

  unseen : (y : ℕ) (r : Bool) → f.rows y ≡ r → fate past y ≡ Aborted → counts (cond r Inside (cond (f.catalogue y) Outside Absent)) ≡ false
  unseen y true seen gone = let a : f.catalogue y ≡ true = can.fewer y seen in let b : f.catalogue y ≡ false = can.aborted y gone in absurd cc
  unseen y false seen gone = rw (can.aborted y gone) refl

  hides : (y : ℕ) → fate past y ≡ Aborted → counts (stands_in f y) ≡ false
  hides y gone = unseen y (f.rows y) refl gone

makes : (terms : Terms) (past : Past) (f : Sight) (x table : ℕ) (name : List ℕ) (columns : List Column) → Legal terms past → IsSight past f → MakeRule terms past x table name columns → view_by terms (stands_in f) past ≡ seen_in f (parts terms past) → for_both (stands_in f x) (made table name columns (view_by terms (stands_in f) past)) (view_by terms (stands_in f) past) ≡ seen_in f (parts terms past ++ new_table x table name columns ∷ [])
makes terms past f x table name columns legal can rule served = both_is f x (made table name columns (view_by terms (stands_in f) past)) (view_by terms (stands_in f) past) (can.fewer x) ∙ ap (λ (db : Database). cond (f.catalogue x) db (view_by terms (stands_in f) past)) made_so ∙ by_seen (f.catalogue x) refl where
  fresh : has_table (view_by terms (stands_in f) past) table ≡ false
  fresh = rw rule.number (number_free terms (stands_in f) past legal)

  made_so : made table name columns (view_by terms (stands_in f) past) ≡ view_by terms (stands_in f) past ++ record { number = table; name = name; columns = columns; constraints = []; rows = [] } ∷ []
  made_so = rw (fresh, unnamed terms past f x table name columns legal can rule) refl

  by_seen : (b : Bool) → f.catalogue x ≡ b → cond b (view_by terms (stands_in f) past ++ record { number = table; name = name; columns = columns; constraints = []; rows = [] } ∷ []) (view_by terms (stands_in f) past) ≡ seen_in f (parts terms past ++ new_table x table name columns ∷ [])
  by_seen true seen = rw (served, seen_push f (parts terms past) (new_table x table name columns), seen, columns_again columns) refl
  by_seen false seen = rw (served, seen_push f (parts terms past) (new_table x table name columns), seen) (sym (append_none (seen_in f (parts terms past))))

-- ---- ALTER TABLE

-- a column that isn't there is added, and all rows get its default
altered_in : (r : ℕ → Bool) (number : ℕ) (name : List ℕ) (column : Column) (d : Description) (rows : List RowVersions) → column_cause column.name (live_columns d.layout.slots) ≡ None → RowsShort r (length d.layout.slots) rows → table_in r number (altered_by (Some (statements.AddColumn name column)) (Some d)) rows ≡ mapped (λ (t : Table). after_alteration (alteration column t) t) (table_in r number (Some d) rows)
altered_in r number name column d rows absent short = rw (absent, columns_more d.layout.slots column, rows_grown r d.layout.slots column rows short) refl

alters : (terms : Terms) (past : Past) (f : Sight) (x table statement : ℕ) (rewritten : List Rewritten) → Legal terms past → IsSight past f → AlterRule terms past x table statement rewritten → view_by terms (stands_in f) past ≡ seen_in f (parts terms past) → latest terms past x ≡ seen_in (own_sight past x) (parts terms past) → for_both (stands_in f x) (altered (statement_of terms (hand past (session_of past x)) statement) table (view_by terms (stands_in f) past)) (view_by terms (stands_in f) past) ≡ seen_in f (with_parts table (with_new_entry (sees past (Some x)) x (statement_of terms (hand past (session_of past x)) statement)) (parts terms past))
alters terms past f x table statement rewritten legal can rule served own = both_is f x (altered (statement_of terms (hand past (session_of past x)) statement) table (view_by terms (stands_in f) past)) (view_by terms (stands_in f) past) (can.fewer x) ∙ rw (here, served) (by_seen (f.catalogue x) refl) where
  is : IsAddition (in_hand terms past (session_of past x)) (latest terms past x) table
  is = addition (in_hand terms past (session_of past x)) (latest terms past x) table rule.alters

  here : statement_of terms (hand past (session_of past x)) statement ≡ Some (statements.AddColumn is.name is.column)
  here = rw rule.number is.is

  undecided : fate past x ≡ Open
  undecided = (xact_is terms past (session_of past x) x legal rule.act.open_xact).undecided

  one : (o : Option Description) (t : TableParts) → IsDescribed o is.t → seen_description f.catalogue t.entries ≡ o → seen_description (sees past (Some x)) t.entries ≡ o → f.catalogue x ≡ true → IsShortTable f t → seen_table f (with_new_entry (sees past (Some x)) x (Some (statements.AddColumn is.name is.column)) t) ≡ mapped (λ (t : Table). after_alteration (alteration is.column t) t) (seen_table f t)
  one o t known theirs its seen short =
      let both : seen_description f.catalogue t.entries ≡ Some known.d = theirs ∙ known.is in
      let both_own : seen_description (sees past (Some x)) t.entries ≡ Some known.d = its ∙ known.is in
      let absent : column_cause is.column.name (live_columns known.d.layout.slots) ≡ None = rw known.columns is.absent in
      rw (seen, both, both_own) (altered_in f.rows t.number is.name is.column known.d (seen_generation f.catalogue t.generations) absent (rw both at short))

  each : f.catalogue x ≡ true → (t : TableParts) → IsSettledTable past x t → IsShortTable f t → seen_table (own_sight past x) t ≡ Some is.t → seen_table f (with_new_entry (sees past (Some x)) x (Some (statements.AddColumn is.name is.column)) t) ≡ mapped (λ (t : Table). after_alteration (alteration is.column t) t) (seen_table f t)
  each seen t settled short found = one (seen_description (sees past (Some x)) t.entries) t (description_of (sees past (Some x)) t.number (seen_description (sees past (Some x)) t.entries) (seen_generation (sees past (Some x)) t.generations) is.t found) (entries_agree past f x t.entries can undecided seen settled.0) refl seen short

  found : EachOf table (λ t. seen_table (own_sight past x) t ≡ Some is.t) (parts terms past)
  found = subst (λ (n : ℕ). EachOf n (λ t. seen_table (own_sight past x) t ≡ Some is.t) (parts terms past)) (sym is.number) (found_once (own_sight past x) 0 (length past) (parts terms past) is.name is.t (parts_sound terms past legal) (sym (ap (λ (db : Database). named db is.name) own) ∙ is.found))

  by_seen : (b : Bool) → f.catalogue x ≡ b → cond b (with_table table (λ (t : Table). after_alteration (alteration is.column t) t) (seen_in f (parts terms past))) (seen_in f (parts terms past)) ≡ seen_in f (with_parts table (with_new_entry (sees past (Some x)) x (Some (statements.AddColumn is.name is.column))) (parts terms past))
  by_seen true seen = with_once 0 table _ (seen_in f (parts terms past)) (seen_ascends f 0 (length past) (parts terms past) (parts_sound terms past legal)) ∙ sym (seen_with f table _ (λ (t : Table). after_alteration (alteration is.column t) t) (parts terms past) (each_three table _ _ _ _ (parts terms past) (λ t a b c. each seen t a b c) (settled_by_quiet terms past past x table (alter_quiet terms past x table statement rewritten legal rule)) (each_short f table (parts terms past) (parts_short terms past f legal can)) found))
  by_seen false seen = sym (seen_same f table _ (parts terms past) (each_of table _ (parts terms past) (λ t. rw seen refl)))

-- ---- INSERT

-- a new row, for who sees its maker
added_in : (r : ℕ → Bool) (number n x : ℕ) (row : List Value) (d : Description) (rows : List RowVersions) → r x ≡ true → length row ≡ length (live_columns d.layout.slots) → has_row (seen_rows r d.layout.slots rows) n ≡ false → table_in r number (Some d) (rows ++ new_row n x (stored_by d.layout.slots row) ∷ []) ≡ mapped (with_row n row) (table_in r number (Some d) rows)
added_in r number n x row d rows seen fits fresh = rw (row_new r d.layout.slots n x row rows seen fits, fresh, eq-eqb (length row) (length (live_columns d.layout.slots)) fits) refl

-- and for who doesn't
added_unseen : (s : ℕ → Bool) (f : Sight) (n x : ℕ) (row : List Value) (t : TableParts) → f.rows x ≡ false → seen_table f (with_new_row s n x row t) ≡ seen_table f t
added_unseen s f n x row t seen = by_description (seen_description f.catalogue t.entries) where
  by_description : (o : Option Description) → table_in f.rows t.number o (seen_generation f.catalogue (in_generation s (λ rows. rows ++ new_row n x (stored_in (seen_description s t.entries) row) ∷ []) t.generations)) ≡ table_in f.rows t.number o (seen_generation f.catalogue t.generations)
  by_description None = refl
  by_description (Some d) = generation_keeps (λ rows. table_in f.rows t.number (Some d) rows ≡ table_in f.rows t.number (Some d) (seen_generation f.catalogue t.generations)) s f.catalogue (λ rows. rows ++ new_row n x (stored_in (seen_description s t.entries) row) ∷ []) t.generations (λ rows is. rw (row_unseen f.rows d.layout.slots n x (stored_in (seen_description s t.entries) row) rows seen) is) refl

adds : (terms : Terms) (past : Past) (f : Sight) (x table : ℕ) (row : List Value) → Legal terms past → IsSight past f → Follows (owed terms past) (Add x table row) → AddRule terms past x table row → view_by terms (stands_in f) past ≡ seen_in f (parts terms past) → latest terms past x ≡ seen_in (own_sight past x) (parts terms past) → for_inside (stands_in f x) (added (length past) table row (view_by terms (stands_in f) past)) (view_by terms (stands_in f) past) ≡ seen_in f (with_parts table (with_new_row (sees past (Some x)) (length past) x row) (parts terms past))
adds terms past f x table row legal can follows rule served own = inside_is f x (added (length past) table row (view_by terms (stands_in f) past)) (view_by terms (stands_in f) past) ∙ rw served (by_seen (f.rows x) refl) where
  is : IsInsertion (in_hand terms past (session_of past x)) (latest terms past x) table row
  is = insertion (in_hand terms past (session_of past x)) (latest terms past x) table row rule.inserts

  undecided : fate past x ≡ Open
  undecided = (xact_is terms past (session_of past x) x legal rule.act.open_xact).undecided

  one : (o : Option Description) (t : TableParts) → IsDescribed o is.t → seen_description f.catalogue t.entries ≡ o → seen_description (sees past (Some x)) t.entries ≡ o → f.rows x ≡ true → GenerationsBelow (length past) t.generations → IsSettledTable past x t → has_generation (sees past (Some x)) t.generations ≡ true → seen_table f (with_new_row (sees past (Some x)) (length past) x row t) ≡ mapped (with_row (length past) row) (seen_table f t)
  one o t known theirs its seen below settled there =
      let both : seen_description f.catalogue t.entries ≡ Some known.d = theirs ∙ known.is in
      let both_own : seen_description (sees past (Some x)) t.entries ≡ Some known.d = its ∙ known.is in
      let fits : length row ≡ length (live_columns known.d.layout.slots) = one_value_each terms past x table row legal follows rule is ∙ ap length (sym known.columns) in
      rw (both, both_own, generation_seen past f x (λ rows. rows ++ new_row (length past) x (stored_by known.d.layout.slots row) ∷ []) t.generations can undecided (can.fewer x seen) settled.1 there) (added_in f.rows t.number (length past) x row known.d (seen_generation f.catalogue t.generations) seen fits (row_fresh f.rows known.d.layout.slots (length past) (seen_generation f.catalogue t.generations) (seen_below f.catalogue (length past) t.generations below)))

  is_some_of : (o : Option Description) → IsDescribed o is.t → is_some o ≡ true
  is_some_of o known = rw known.is refl

  each : f.rows x ≡ true → (t : TableParts) → IsSettledTable past x t → GenerationsBelow (length past) t.generations × IsFoundTable (sees past (Some x)) t → seen_table (own_sight past x) t ≡ Some is.t → seen_table f (with_new_row (sees past (Some x)) (length past) x row t) ≡ mapped (with_row (length past) row) (seen_table f t)
  each seen t settled has found =
      let known : IsDescribed (seen_description (sees past (Some x)) t.entries) is.t = description_of (sees past (Some x)) t.number (seen_description (sees past (Some x)) t.entries) (seen_generation (sees past (Some x)) t.generations) is.t found in
      one (seen_description (sees past (Some x)) t.entries) t known (entries_agree past f x t.entries can undecided (can.fewer x seen) settled.0) refl seen has.0 settled (has.1 (is_some_of (seen_description (sees past (Some x)) t.entries) known))

  found : EachOf table (λ t. seen_table (own_sight past x) t ≡ Some is.t) (parts terms past)
  found = subst (λ (n : ℕ). EachOf n (λ t. seen_table (own_sight past x) t ≡ Some is.t) (parts terms past)) (sym is.number) (found_once (own_sight past x) 0 (length past) (parts terms past) is.name is.t (parts_sound terms past legal) (sym (ap (λ (db : Database). named db is.name) own) ∙ is.found))

  by_seen : (b : Bool) → f.rows x ≡ b → cond b (with_table table (with_row (length past) row) (seen_in f (parts terms past))) (seen_in f (parts terms past)) ≡ seen_in f (with_parts table (with_new_row (sees past (Some x)) (length past) x row) (parts terms past))
  by_seen true seen = with_once 0 table _ (seen_in f (parts terms past)) (seen_ascends f 0 (length past) (parts terms past) (parts_sound terms past legal)) ∙ sym (seen_with f table _ (with_row (length past) row) (parts terms past) (each_three table _ _ _ _ (parts terms past) (λ t a b c. each seen t a b c) (settled_by_quiet terms past past x table (add_quiet terms past x table row legal rule)) (each_both table _ _ _ (parts terms past) (λ t a b. (a, b)) (each_below 0 (length past) table (parts terms past) (parts_sound terms past legal)) (each_found (sees past (Some x)) table (parts terms past) (parts_found terms past (own_sight past x) legal (own_is past x undecided)))) found))
  by_seen false seen = sym (seen_same f table _ (parts terms past) (each_of table _ (parts terms past) (λ t. added_unseen (sees past (Some x)) f (length past) x row t seen)))

-- ---- the law

-- an open transaction stands where its own sight says
own_stands : (past : Past) (x z : ℕ) → standing past past (Some x) z ≡ stands_in (own_sight past x) z
own_stands past x z = by_fate (x == z) (fate past z) where
  by_fate : (b : Bool) (k : Fate) → cond b Inside (inside_if k (outside_if k)) ≡ cond (b || is_committed k) Inside (cond (b || is_committed k) Outside Absent)
  by_fate true k = refl
  by_fate false Open = refl
  by_fate false Committed = refl
  by_fate false Aborted = refl

own_view : (terms : Terms) (past : Past) (x : ℕ) → view_by terms (stands_in (own_sight past x)) past ≡ seen_in (own_sight past x) (parts terms past) → latest terms past x ≡ seen_in (own_sight past x) (parts terms past)
own_view terms past x served = ap (λ (s : ℕ → Standing). view_by terms s past) (fun_ext (own_stands past x)) ∙ served

pub serves_all : (terms : Terms) (past : Past) (f : Sight) → Legal terms past → IsSight past f → view_by terms (stands_in f) past ≡ seen_in f (parts terms past)
serves_all terms [] f legal can = refl
serves_all terms (Make x table name columns ∷ past) f legal can =
    let c : IsSight past f = still past _ f (λ z. refl) can in
    makes terms past f x table name columns legal.1 c legal.0.rule (serves_all terms past f legal.1 c)
serves_all terms (Add x table row ∷ past) f legal can =
    let c : IsSight past f = still past _ f (λ z. refl) can in
    let undecided : fate past x ≡ Open = (xact_is terms past (session_of past x) x legal.1 legal.0.rule.act.open_xact).undecided in
    adds terms past f x table row legal.1 c legal.0.follows legal.0.rule (serves_all terms past f legal.1 c) (own_view terms past x (serves_all terms past (own_sight past x) legal.1 (own_is past x undecided)))
serves_all terms (Alter x table statement rewritten ∷ past) f legal can =
    let c : IsSight past f = still past _ f (λ z. refl) can in
    let undecided : fate past x ≡ Open = (xact_is terms past (session_of past x) x legal.1 legal.0.rule.act.open_xact).undecided in
    alters terms past f x table statement rewritten legal.1 c legal.0.rule (serves_all terms past f legal.1 c) (own_view terms past x (serves_all terms past (own_sight past x) legal.1 (own_is past x undecided)))
serves_all terms (Commit x ∷ past) f legal can = serves_all terms past f legal.1 (before_commit past x f (xact_is terms past (session_of past x) x legal.1 legal.0.rule.open_xact).undecided can)
serves_all terms (Abort x ∷ past) f legal can = serves_all terms past f legal.1 (before_abort past x f (xact_is terms past (session_of past x) x legal.1 legal.0.rule.open_xact).undecided can)
serves_all terms (e ∷ past) f legal can = serves_all terms past f legal.1 (still past _ f (λ z. refl) can)

-- ---- readers

-- what is committed stays so
committed_later : (terms : Terms) (past seen : Past) (z : ℕ) → Legal terms past → IsTail seen past → fate seen z ≡ Committed → fate past z ≡ Committed
committed_later terms [] seen z legal tail is = subst (λ (s : Past). fate s z ≡ Committed) tail is
committed_later terms (e ∷ past) seen z legal (inl same) is = subst (λ (s : Past). fate s z ≡ Committed) same is
committed_later terms (Commit x ∷ past) seen z legal (inr tail) is = by_test (x == z) (committed_later terms past seen z legal.1 tail is) where
  by_test : (b : Bool) → fate past z ≡ Committed → cond b Committed (fate past z) ≡ Committed
  by_test true was = refl
  by_test false was = was
committed_later terms (Abort x ∷ past) seen z legal (inr tail) is = by_test (x == z) refl (committed_later terms past seen z legal.1 tail is) where
  by_test : (b : Bool) → (x == z) ≡ b → fate past z ≡ Committed → cond b Aborted (fate past z) ≡ Committed
  by_test true here was =
      let same : x ≡ z = eqb-true x z here in
      let undecided : fate past x ≡ Open = (xact_is terms past (session_of past x) x legal.1 legal.0.rule.open_xact).undecided in
      let both : ◌≡◌ {A = Fate} Open Committed = sym undecided ∙ rw same was in
      absurd cc
  by_test false here was = was
committed_later terms (e ∷ past) seen z legal (inr tail) is = committed_later terms past seen z legal.1 tail is

is_committed_so : (k : Fate) → is_committed k ≡ true → k ≡ Committed
is_committed_so Open is = absurd cc
is_committed_so Committed is = refl
is_committed_so Aborted is = absurd cc

reader_stands : (past seen : Past) (reader : Option ℕ) (z : ℕ) → standing past seen reader z ≡ stands_in (sight past seen reader) z
reader_stands past seen reader z = by_fate (is_that reader z) (fate seen z) (fate past z) where
  by_past : (k : Fate) → outside_if k ≡ cond (is_committed k) Outside Absent
  by_past Open = refl
  by_past Committed = refl
  by_past Aborted = refl

  by_fate : (b : Bool) (s p : Fate) → cond b Inside (inside_if s (outside_if p)) ≡ cond (b || is_committed s) Inside (cond (b || is_committed p) Outside Absent)
  by_fate true s p = refl
  by_fate false Open p = by_past p
  by_fate false Committed p = refl
  by_fate false Aborted p = by_past p

not_own : (past : Past) (reader : Option ℕ) (z : ℕ) → IsReader past reader → fate past z ≡ Aborted → is_that reader z ≡ false
not_own past None z opens is = refl
not_own past (Some y) z opens is = ne_eqb y z (λ (same : y ≡ z). let both : ◌≡◌ {A = Fate} Open Aborted = sym opens ∙ rw same is in cc)

reader_is : (terms : Terms) (past seen : Past) (reader : Option ℕ) → Legal terms past → IsTail seen past → IsReader past reader → IsSight past (sight past seen reader)
reader_is terms past seen reader legal tail opens = record {
  committed = λ z e. rw e (or_true (is_that reader z));
  aborted = λ z e. rw (not_own past reader z opens e, e) refl;
  fewer = λ z e. by_own (is_that reader z) z e;
} where
  or_true : (b : Bool) → (b || true) ≡ true
  or_true true = refl
  or_true false = refl

  by_own : (b : Bool) (z : ℕ) → (b || is_committed (fate seen z)) ≡ true → (b || is_committed (fate past z)) ≡ true
  by_own true z e = refl
  by_own false z e = ap is_committed (committed_later terms past seen z legal tail (is_committed_so (fate seen z) e))

-- a reader finds what its sight of the parts shows, also one whose snapshot is older
pub readers_served : (terms : Terms) (past seen : Past) (reader : Option ℕ) → Legal terms past → IsTail seen past → IsReader past reader → view terms past seen reader ≡ seen_in (sight past seen reader) (parts terms past)
readers_served terms past seen reader legal tail opens = ap (λ (s : ℕ → Standing). view_by terms s past) (fun_ext (reader_stands past seen reader)) ∙ serves_all terms past (sight past seen reader) legal (reader_is terms past seen reader legal tail opens)
