-- Which names a reader finds: those of the tables whose makers stand for it.
use Rattle.std.proofs.Common.{◌≡◌, ℕ, ◌<◌, List, [], ◌∷◌, ◌++◌, length, refl, sym, ap, cond, true, false, Bool, Option, Some, None, arith, ◌∙◌}
use Rattle.std.specs.Prelude.{◌==◌, ◌||◌, ◌&&◌, not, is_some}
use Rattle.std.proofs.lemmas.Bool.{eq-eqb, ne_eqb, or_parts}
use Rattle.al_history.specs.declared.entry.Entry.TheVariants.{Make, Add, Alter}
use Rattle.al_history.specs.declared.statement.Column.{Column}
use Rattle.al_history.specs.declared.statement.Statement.{Statement}
use Rattle.al_history.specs.declared.statement.Statement.TheVariants as statements
use Rattle.al_history.specs.declared.statement.Terms.{Terms}
use Rattle.al_history.specs.Past.{Past}
use Rattle.al_history.specs.Database.{Table, Database, same_name, named, has_table}
use Rattle.al_history.specs.Change.{made, with_row, added, alteration, after_alteration, altered}
use Rattle.al_history.specs.Fate.{Fate, Open, Committed, Aborted, fate, Standing, Inside, Outside, Absent, standing, inside_if, outside_if}
use Rattle.al_history.specs.Hand.{hand, session_of, statement_of}
use Rattle.al_history.specs.Waits.{is_open}
use Rattle.al_history.specs.Need.{makers, first_open}
use Rattle.al_history.specs.View.{for_both, for_inside, view_by}
use Rattle.al_history.specs.Legal.{Legal}
use Rattle.al_history.proofs.Names.{one_name, some_with, row_keeps, column_keeps}
use Rattle.al_history.proofs.Quiets.{table_below}

abbrev pub counts : Standing → Bool
counts Inside = true
counts Outside = true
counts Absent = false

-- a table of the name was made by somebody who stands
abbrev pub made_named : (ℕ → Standing) → Past → List ℕ → Bool
made_named stands [] name = false
made_named stands (Make x table other columns ∷ past) name = (counts (stands x) && same_name other name) || made_named stands past name
made_named stands (e ∷ past) name = made_named stands past name

some_push : (db : Database) (t : Table) (name : List ℕ) → is_some (named (db ++ t ∷ []) name) ≡ (same_name t.name name || is_some (named db name))
some_push [] t name = by_test (same_name t.name name) where
  by_test : (b : Bool) → is_some (cond b (Some t) None) ≡ (b || false)
  by_test true = refl
  by_test false = refl
some_push (u ∷ db) t name = by_test (same_name u.name name) (same_name t.name name) (some_push db t name) where
  by_test : (b c : Bool) → is_some (named (db ++ t ∷ []) name) ≡ (c || is_some (named db name)) → is_some (cond b (Some u) (named (db ++ t ∷ []) name)) ≡ (c || is_some (cond b (Some u) (named db name)))
  by_test true true more = refl
  by_test true false more = refl
  by_test false c more = more

-- a new table's name is there, whatever was there before
some_made : (number : ℕ) (name : List ℕ) (columns : List Column) (db : Database) (other : List ℕ) → has_table db number ≡ false → is_some (named (made number name columns db) other) ≡ (same_name name other || is_some (named db other))
some_made number name columns db other fresh = rw fresh (by_named (is_some (named db name)) refl) where
  by_other : (b : Bool) → same_name name other ≡ b → is_some (named db name) ≡ true → is_some (named db other) ≡ (b || is_some (named db other))
  by_other true same there = rw (← one_name name other same) there
  by_other false same there = refl

  by_named : (b : Bool) → is_some (named db name) ≡ b → is_some (named (cond b db (db ++ record { number = number; name = name; columns = columns; constraints = []; rows = [] } ∷ [])) other) ≡ (same_name name other || is_some (named db other))
  by_named true there = by_other (same_name name other) refl there
  by_named false there = some_push db (record { number = number; name = name; columns = columns; constraints = []; rows = [] }) other

not_there : (b : Bool) → (b ≡ true → ⊥) → b ≡ false
not_there true never = absurd (never refl)
not_there false never = refl

-- the place of a table to come is no table's number
pub number_free : (terms : Terms) (stands : ℕ → Standing) (past : Past) → Legal terms past → has_table (view_by terms stands past) (length past) ≡ false
number_free terms stands past legal = not_there (has_table (view_by terms stands past) (length past)) (λ has. let lt : length past < length past = table_below terms stands past (length past) legal has in omega (arith, lt))

some_altered : (o : Option Statement) (number : ℕ) (db : Database) (name : List ℕ) → is_some (named (altered o number db) name) ≡ is_some (named db name)
some_altered (Some (statements.AddColumn other column)) number db name = some_with number (λ t. after_alteration (alteration column t) t) db name (column_keeps column)
some_altered o number db name = refl

pub named_is_made : (terms : Terms) (stands : ℕ → Standing) (past : Past) (name : List ℕ) → Legal terms past → is_some (named (view_by terms stands past) name) ≡ made_named stands past name
named_is_made terms stands [] name legal = refl
named_is_made terms stands (Make x table other columns ∷ past) name legal = by_standing (stands x) (rw legal.0.rule.number (number_free terms stands past legal.1)) (named_is_made terms stands past name legal.1) where
  by_standing : (st : Standing) → has_table (view_by terms stands past) table ≡ false → is_some (named (view_by terms stands past) name) ≡ made_named stands past name → is_some (named (for_both st (made table other columns (view_by terms stands past)) (view_by terms stands past)) name) ≡ ((counts st && same_name other name) || made_named stands past name)
  by_standing Inside fresh same = some_made table other columns (view_by terms stands past) name fresh ∙ ap (λ (b : Bool). same_name other name || b) same
  by_standing Outside fresh same = some_made table other columns (view_by terms stands past) name fresh ∙ ap (λ (b : Bool). same_name other name || b) same
  by_standing Absent fresh same = same
named_is_made terms stands (Add x table row ∷ past) name legal = by_standing (stands x) ∙ named_is_made terms stands past name legal.1 where
  by_standing : (st : Standing) → is_some (named (for_inside st (added (length past) table row (view_by terms stands past)) (view_by terms stands past)) name) ≡ is_some (named (view_by terms stands past) name)
  by_standing Inside = some_with table (with_row (length past) row) (view_by terms stands past) name (row_keeps (length past) row)
  by_standing Outside = refl
  by_standing Absent = refl
named_is_made terms stands (Alter x table statement rewritten ∷ past) name legal = by_standing (stands x) ∙ named_is_made terms stands past name legal.1 where
  by_standing : (st : Standing) → is_some (named (for_both st (altered (statement_of terms (hand past (session_of past x)) statement) table (view_by terms stands past)) (view_by terms stands past)) name) ≡ is_some (named (view_by terms stands past) name)
  by_standing Inside = some_altered (statement_of terms (hand past (session_of past x)) statement) table (view_by terms stands past) name
  by_standing Outside = some_altered (statement_of terms (hand past (session_of past x)) statement) table (view_by terms stands past) name
  by_standing Absent = refl
named_is_made terms stands (e ∷ past) name legal = named_is_made terms stands past name legal.1

-- ---- a new name

first_last : (past : Past) (x : ℕ) (ys : List ℕ) (y : ℕ) → first_open past x (ys ++ y ∷ []) ≡ None → (first_open past x ys ≡ None) × ((not (y == x) && is_open (fate past y)) ≡ false)
first_last past x [] y none = (refl, by_test (not (y == x) && is_open (fate past y)) none) where
  by_test : (b : Bool) → cond b (Some y) None ≡ None → b ≡ false
  by_test true none = absurd cc
  by_test false none = refl
first_last past x (z ∷ ys) y none = by_test (not (z == x) && is_open (fate past z)) none (λ h. first_last past x ys y h) where
  by_test : (b : Bool) → cond b (Some z) (first_open past x (ys ++ y ∷ [])) ≡ None → (first_open past x (ys ++ y ∷ []) ≡ None → (first_open past x ys ≡ None) × ((not (y == x) && is_open (fate past y)) ≡ false)) → (cond b (Some z) (first_open past x ys) ≡ None) × ((not (y == x) && is_open (fate past y)) ≡ false)
  by_test true none more = absurd cc
  by_test false none more = more none

-- who is no open other and doesn't stand for x is aborted
gone : (past : Past) (x y : ℕ) → (not (y == x) && is_open (fate past y)) ≡ false → counts (standing past past (Some x) y) ≡ false → fate past y ≡ Aborted
gone past x y free absent = by_own (x == y) refl (fate past y) refl free absent where
  by_fate : (k : Fate) → fate past y ≡ k → (x == y) ≡ false → (not (y == x) && is_open k) ≡ false → counts (inside_if k (outside_if k)) ≡ false → k ≡ Aborted
  by_fate Open is other free absent = let turned : (y == x) ≡ false = ne_eqb y x (λ e. let it_is : (x == y) ≡ true = eq-eqb x y (sym e) in absurd cc) in let wrong : (not false && true) ≡ false = rw turned at free in absurd cc
  by_fate Committed is other free absent = absurd cc
  by_fate Aborted is other free absent = refl

  by_own : (b : Bool) → (x == y) ≡ b → (k : Fate) → fate past y ≡ k → (not (y == x) && is_open k) ≡ false → counts (cond b Inside (inside_if k (outside_if k))) ≡ false → fate past y ≡ Aborted
  by_own true same k is free absent = absurd cc
  by_own false other k is free absent = is ∙ by_fate k is other free absent

-- a name that x doesn't find, and that no other open transaction has made, is found by nobody for whom aborted makers don't stand
pub name_unseen : (past : Past) (x : ℕ) (stands : ℕ → Standing) (entries : Past) (name : List ℕ) → ((y : ℕ) → fate past y ≡ Aborted → counts (stands y) ≡ false) → first_open past x (makers entries name) ≡ None → made_named (standing past past (Some x)) entries name ≡ false → made_named stands entries name ≡ false
name_unseen past x stands [] name hides free none = refl
name_unseen past x stands (Make y table other columns ∷ entries) name hides free none = by_name (same_name other name) free none (λ h k. name_unseen past x stands entries name hides h k) where
  and_true : (b : Bool) → (b && true) ≡ b
  and_true true = refl
  and_true false = refl

  and_false : (b : Bool) → (b && false) ≡ false
  and_false true = refl
  and_false false = refl

  by_name : (b : Bool) → first_open past x (cond b (makers entries name ++ y ∷ []) (makers entries name)) ≡ None → ((counts (standing past past (Some x) y) && b) || made_named (standing past past (Some x)) entries name) ≡ false → (first_open past x (makers entries name) ≡ None → made_named (standing past past (Some x)) entries name ≡ false → made_named stands entries name ≡ false) → ((counts (stands y) && b) || made_named stands entries name) ≡ false
  by_name true free none more =
      let parts = or_parts (counts (standing past past (Some x) y) && true) (made_named (standing past past (Some x)) entries name) none in
      let tests = first_last past x (makers entries name) y free in
      let absent : counts (standing past past (Some x) y) ≡ false = sym (and_true (counts (standing past past (Some x) y))) ∙ parts.0 in
      rw (and_true (counts (stands y)), hides y (gone past x y tests.1 absent)) (more tests.0 parts.1)
  by_name false free none more =
      let parts = or_parts (counts (standing past past (Some x) y) && false) (made_named (standing past past (Some x)) entries name) none in
      rw (and_false (counts (stands y))) (more free parts.1)
name_unseen past x stands (e ∷ entries) name hides free none = name_unseen past x stands entries name hides free none
