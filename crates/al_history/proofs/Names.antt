-- Names of tables: each is found once, and stays found.
use Rattle.std.proofs.Common.{◌≡◌, ℕ, List, [], ◌∷◌, ◌++◌, length, refl, sym, ap, cond, true, false, Bool, Option, Some, ◌∙◌}
use Rattle.std.specs.Prelude.{◌==◌, ◌||◌, is_some, not, ◌&&◌, Result, Ok, Err}
use Rattle.std.specs.Cmp.Lexicographic.{same_text}
use Rattle.std.proofs.lemmas.Cmp.{nat_list_eq_equiv}
use Rattle.al_values.specs.declared.scalar.Value.{Value}
use Rattle.al_statements.specs.declared.cause.Cause.{Cause}
use Rattle.al_history.specs.declared.entry.Entry.TheVariants.{Make, Add, Alter}
use Rattle.al_history.specs.declared.statement.Column.{Column}
use Rattle.al_history.specs.declared.statement.Statement.{Statement}
use Rattle.al_history.specs.declared.statement.Statement.TheVariants as statements
use Rattle.al_history.specs.declared.statement.Terms.{Terms}
use Rattle.al_history.specs.Past.{Past}
use Rattle.al_history.specs.Database.{Table, Database, same_name, named, has_table, has_row, with_table}
use Rattle.al_history.specs.Change.{made, with_row, added, Alteration, alteration, after_alteration, altered}
use Rattle.al_history.specs.Fate.{Standing, Inside, Outside, Absent}
use Rattle.al_history.specs.Hand.{hand, session_of, statement_of}
use Rattle.al_history.specs.View.{for_both, for_inside, view_by}

-- ---- names

pub one_name : (a b : List ℕ) → same_name a b ≡ true → a ≡ b
one_name a b same = same_text a b (sym same)

pub name_itself : (a : List ℕ) → same_name a a ≡ true
name_itself a = nat_list_eq_equiv.refl a

-- two names differ both ways
pub name_turned : (a b : List ℕ) → same_name a b ≡ false → same_name b a ≡ false
name_turned a b other = nat_list_eq_equiv.symm b a ∙ other

-- ---- each name is found once

abbrev pub NamesOnce : Database → Type 0
NamesOnce [] = Unit {0}
NamesOnce (t ∷ db) = (is_some (named db t.name) ≡ false) × NamesOnce db

not_first : (t : Table) (db : Database) (name : List ℕ) → is_some (named (t ∷ db) name) ≡ false → (same_name t.name name ≡ false) × (is_some (named db name) ≡ false)
not_first t db name none = by_test (same_name t.name name) none where
  by_test : (b : Bool) → is_some (cond b (Some t) (named db name)) ≡ false → (b ≡ false) × (is_some (named db name) ≡ false)
  by_test true none = absurd cc
  by_test false none = (refl, none)

not_last : (db : Database) (t : Table) (name : List ℕ) → is_some (named db name) ≡ false → same_name t.name name ≡ false → is_some (named (db ++ t ∷ []) name) ≡ false
not_last [] t name none other = rw other refl
not_last (u ∷ db) t name none other = let parts = not_first u db name none in rw parts.0 (not_last db t name parts.1 other)

once_push : (db : Database) (t : Table) → NamesOnce db → is_some (named db t.name) ≡ false → NamesOnce (db ++ t ∷ [])
once_push [] t once none = (refl, tt)
once_push (u ∷ db) t once none = let parts = not_first u db t.name none in (not_last db t u.name once.0 (name_turned u.name t.name parts.0), once_push db t once.1 parts.1)

-- a change that keeps a table's number and name
pub record Keeps (g : Table → Table) : Type 0 where
  pub number : (t : Table) → (g t).number ≡ t.number
  pub name : (t : Table) → (g t).name ≡ t.name

pub some_with : (number : ℕ) (g : Table → Table) (db : Database) (name : List ℕ) → Keeps g → is_some (named (with_table number g db) name) ≡ is_some (named db name)
some_with number g [] name keeps = refl
some_with number g (t ∷ db) name keeps = by_test (t.number == number) (some_with number g db name keeps) where
  by_name : (b : Bool) → is_some (named (with_table number g db) name) ≡ is_some (named db name) → is_some (cond b (Some t) (named (with_table number g db) name)) ≡ is_some (cond b (Some t) (named db name))
  by_name true rest = refl
  by_name false rest = rest

  same : (u : Table) (b : Bool) → is_some (cond b (Some u) (named db name)) ≡ is_some (cond b (Some t) (named db name))
  same u true = refl
  same u false = refl

  by_test : (b : Bool) → is_some (named (with_table number g db) name) ≡ is_some (named db name) → is_some (named (cond b (g t ∷ db) (t ∷ with_table number g db)) name) ≡ is_some (named (t ∷ db) name)
  by_test true rest = rw (keeps.name t) (same _ (same_name t.name name))
  by_test false rest = by_name (same_name t.name name) rest

once_with : (number : ℕ) (g : Table → Table) (db : Database) → Keeps g → NamesOnce db → NamesOnce (with_table number g db)
once_with number g [] keeps once = tt
once_with number g (t ∷ db) keeps once = by_test (t.number == number) (once_with number g db keeps once.1) where
  by_test : (b : Bool) → NamesOnce (with_table number g db) → NamesOnce (cond b (g t ∷ db) (t ∷ with_table number g db))
  by_test true rest = (rw (keeps.name t) once.0, once.1)
  by_test false rest = (some_with number g db t.name keeps ∙ once.0, rest)

once_made : (number : ℕ) (name : List ℕ) (columns : List Column) (db : Database) → NamesOnce db → NamesOnce (made number name columns db)
once_made number name columns db once = by_test (has_table db number) (is_some (named db name)) refl where
  by_test : (b c : Bool) → is_some (named db name) ≡ c → NamesOnce (cond (b || c) db (db ++ record { number = number; name = name; columns = columns; constraints = []; rows = [] } ∷ []))
  by_test true c none = once
  by_test false true none = once
  by_test false false none = once_push db _ once none

-- ---- what the statements' changes keep

pub row_kept : (number : ℕ) (written : List Value) (t : Table) → ((with_row number written t).number ≡ t.number) × ((with_row number written t).name ≡ t.name) × ((with_row number written t).columns ≡ t.columns)
row_kept number written t = by_test (not (has_row t.rows number) && (length written == length t.columns)) where
  by_test : (b : Bool) → ((cond b (record t { rows = t.rows ++ record { number = number; version = number; values = written } ∷ [] }) t).number ≡ t.number) × ((cond b (record t { rows = t.rows ++ record { number = number; version = number; values = written } ∷ [] }) t).name ≡ t.name) × ((cond b (record t { rows = t.rows ++ record { number = number; version = number; values = written } ∷ [] }) t).columns ≡ t.columns)
  by_test true = (refl, refl, refl)
  by_test false = (refl, refl, refl)

pub row_keeps : (number : ℕ) (written : List Value) → Keeps (with_row number written)
row_keeps number written = record { number = λ t. (row_kept number written t).0; name = λ t. (row_kept number written t).1 }

column_kept : (r : Result Alteration Cause) (t : Table) → ((after_alteration r t).number ≡ t.number) × ((after_alteration r t).name ≡ t.name)
column_kept (Err cause) t = (refl, refl)
column_kept (Ok alteration) t = (refl, refl)

pub column_keeps : (column : Column) → Keeps (λ t. after_alteration (alteration column t) t)
column_keeps column = record { number = λ t. (column_kept (alteration column t) t).0; name = λ t. (column_kept (alteration column t) t).1 }

-- ---- no view has a name twice

both_of : (P : Database → Type 0) (st : Standing) (new old : Database) → P new → P old → P (for_both st new old)
both_of P Inside new old of_new of_old = of_new
both_of P Outside new old of_new of_old = of_new
both_of P Absent new old of_new of_old = of_old

inside_of : (P : Database → Type 0) (st : Standing) (new old : Database) → P new → P old → P (for_inside st new old)
inside_of P Inside new old of_new of_old = of_new
inside_of P Outside new old of_new of_old = of_old
inside_of P Absent new old of_new of_old = of_old

once_altered : (o : Option Statement) (number : ℕ) (db : Database) → NamesOnce db → NamesOnce (altered o number db)
once_altered (Some (statements.AddColumn name column)) number db once = once_with number (λ t. after_alteration (alteration column t) t) db (column_keeps column) once
once_altered o number db once = once

pub names_once : (terms : Terms) (stands : ℕ → Standing) (past : Past) → NamesOnce (view_by terms stands past)
names_once terms stands [] = tt
names_once terms stands (Make x table name shape ∷ past) = both_of NamesOnce (stands x) _ _ (once_made table name shape _ (names_once terms stands past)) (names_once terms stands past)
names_once terms stands (Add x table row ∷ past) = inside_of NamesOnce (stands x) _ _ (once_with table (with_row (length past) row) _ (row_keeps (length past) row) (names_once terms stands past)) (names_once terms stands past)
names_once terms stands (Alter x table statement rewritten ∷ past) = both_of NamesOnce (stands x) _ _ (once_altered (statement_of terms (hand past (session_of past x)) statement) table _ (names_once terms stands past)) (names_once terms stands past)
names_once terms stands (e ∷ past) = names_once terms stands past

-- ---- a table stays found

-- the name finds a table of this one's number, and of its columns where it is asked
pub record IsFound (db : Database) (name : List ℕ) (u : Table) (Asked : Type 0) : Type 0 where
  pub t : Table
  pub is : named db name ≡ Some t
  pub number : t.number ≡ u.number
  pub columns : Asked → t.columns ≡ u.columns

pub found_so : (db : Database) (name : List ℕ) (u : Table) (Asked : Type 0) → named db name ≡ Some u → IsFound db name u Asked
found_so db name u Asked is = record { t = u; is = is; number = refl; columns = λ asked. refl }

-- a table at the end
found_push : (db : Database) (t u : Table) (name : List ℕ) → named db name ≡ Some u → named (db ++ t ∷ []) name ≡ Some u
found_push [] t u name is = absurd cc
found_push (v ∷ db) t u name is = by_test (same_name v.name name) is (λ h. found_push db t u name h) where
  by_test : (b : Bool) → cond b (Some v) (named db name) ≡ Some u → (named db name ≡ Some u → named (db ++ t ∷ []) name ≡ Some u) → cond b (Some v) (named (db ++ t ∷ []) name) ≡ Some u
  by_test true is more = is
  by_test false is more = more is

found_made : (number : ℕ) (other : List ℕ) (columns : List Column) (db : Database) (name : List ℕ) (u : Table) → named db name ≡ Some u → named (made number other columns db) name ≡ Some u
found_made number other columns db name u is = by_test (has_table db number || is_some (named db other)) where
  by_test : (b : Bool) → named (cond b db (db ++ record { number = number; name = other; columns = columns; constraints = []; rows = [] } ∷ [])) name ≡ Some u
  by_test true = is
  by_test false = found_push db _ u name is

-- a table that changes
pub found_with : (number : ℕ) (g : Table → Table) (db : Database) (name : List ℕ) (u : Table) (Asked : Type 0) → Keeps g → ((t : Table) → Asked → (g t).columns ≡ t.columns) → named db name ≡ Some u → IsFound (with_table number g db) name u Asked
found_with number g [] name u Asked keeps columns is = absurd cc
found_with number g (v ∷ db) name u Asked keeps columns is = by_test (v.number == number) (λ h. found_with number g db name u Asked keeps columns h) where
  changed : (b : Bool) → same_name v.name name ≡ b → cond b (Some v) (named db name) ≡ Some u → IsFound (g v ∷ db) name u Asked
  changed true same is = let e : v ≡ u = cc in record { t = g v; is = rw (keeps.name v, same) refl; number = keeps.number v ∙ ap (λ (w : Table). w.number) e; columns = λ asked. columns v asked ∙ ap (λ (w : Table). w.columns) e }
  changed false other is = record { t = u; is = rw (keeps.name v, other) is; number = refl; columns = λ asked. refl }

  stays : (b : Bool) → same_name v.name name ≡ b → cond b (Some v) (named db name) ≡ Some u → (named db name ≡ Some u → IsFound (with_table number g db) name u Asked) → IsFound (v ∷ with_table number g db) name u Asked
  stays true same is more = record { t = u; is = rw same is; number = refl; columns = λ asked. refl }
  stays false other is more = let rest : IsFound (with_table number g db) name u Asked = more is in record { t = rest.t; is = rw other rest.is; number = rest.number; columns = rest.columns }

  by_test : (b : Bool) → (named db name ≡ Some u → IsFound (with_table number g db) name u Asked) → IsFound (cond b (g v ∷ db) (v ∷ with_table number g db)) name u Asked
  by_test true more = changed (same_name v.name name) refl is
  by_test false more = stays (same_name v.name name) refl is more

pub found_after_make : (st : Standing) (number : ℕ) (other : List ℕ) (columns : List Column) (db : Database) (name : List ℕ) (u : Table) (Asked : Type 0) → named db name ≡ Some u → IsFound (for_both st (made number other columns db) db) name u Asked
found_after_make st number other columns db name u Asked is = both_of (λ d. IsFound d name u Asked) st _ _ (found_so _ name u Asked (found_made number other columns db name u is)) (found_so db name u Asked is)

pub found_after_add : (st : Standing) (number table : ℕ) (row : List Value) (db : Database) (name : List ℕ) (u : Table) (Asked : Type 0) → named db name ≡ Some u → IsFound (for_inside st (added number table row db) db) name u Asked
found_after_add st number table row db name u Asked is = inside_of (λ d. IsFound d name u Asked) st _ _ (found_with table (with_row number row) db name u Asked (row_keeps number row) (λ t asked. (row_kept number row t).2) is) (found_so db name u Asked is)

pub found_after_alter : (st : Standing) (o : Option Statement) (table : ℕ) (db : Database) (name : List ℕ) (u : Table) (Asked : Type 0) → (Asked → st ≡ Absent) → named db name ≡ Some u → IsFound (for_both st (altered o table db) db) name u Asked
found_after_alter Absent o table db name u Asked absent is = found_so db name u Asked is
found_after_alter Inside (Some (statements.AddColumn other column)) table db name u Asked absent is = found_with table _ db name u Asked (column_keeps column) (λ t asked. absurd (let e : ◌≡◌ {A = Standing} Inside Absent = absent asked in cc)) is
found_after_alter Outside (Some (statements.AddColumn other column)) table db name u Asked absent is = found_with table _ db name u Asked (column_keeps column) (λ t asked. absurd (let e : ◌≡◌ {A = Standing} Outside Absent = absent asked in cc)) is
found_after_alter Inside o table db name u Asked absent is = found_so db name u Asked is
found_after_alter Outside o table db name u Asked absent is = found_so db name u Asked is
