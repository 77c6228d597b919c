-- What an entry's rule tells of its statement and of the locks that it holds.
use Rattle.std.proofs.Common.{◌≡◌, ℕ, List, [], ◌∷◌, refl, cond, true, false, Bool, Option, Some, None}
use Rattle.std.specs.Prelude.{◌++◌, option_and_then}
use Rattle.al_values.specs.declared.scalar.Value.{Value}
use Rattle.al_modes.specs.declared.mode.Mode.{Mode}
use Rattle.al_modes.specs.declared.mode.Mode.TheVariants.{AccessShare, RowExclusive, AccessExclusive}
use Rattle.al_statements.specs.declared.cause.Cause.{Cause}
use Rattle.al_history.specs.declared.statement.Column.{Column}
use Rattle.al_history.specs.declared.statement.Statement.{Statement}
use Rattle.al_history.specs.declared.statement.Statement.TheVariants as statements
use Rattle.al_history.specs.declared.statement.Terms.{Terms}
use Rattle.al_history.specs.Past.{Past}
use Rattle.al_history.specs.Database.{Table, Database, named}
use Rattle.al_history.specs.Change.{shape_of, filled, column_cause, unless_refused, alteration, Passes}
use Rattle.al_history.specs.Hand.{in_hand, session_of}
use Rattle.al_history.specs.View.{latest}
use Rattle.al_history.specs.Locks.{Claim, held, is_held}
use Rattle.al_history.specs.Need.{lock_of, need, first_lacking, lacking}
use Rattle.al_history.specs.Cause.{used_name}
use Rattle.al_history.specs.Rules.{Creates, IsFilled, Inserts, IsAltered, Alters}

-- ---- statements

pub record IsCreation (o : Option Statement) (name : List ℕ) (shape : List Column) : Type 0 where
  pub columns : List (List ℕ)
  pub is : o ≡ Some (statements.CreateTable name columns)
  pub shaped : shape ≡ shape_of columns

pub creation : (o : Option Statement) (name : List ℕ) (shape : List Column) → Creates o name shape → IsCreation o name shape
creation (Some (statements.CreateTable other columns)) name shape creates = record { columns = columns; is = rw creates.0 refl; shaped = creates.1 }
creation o name shape creates = absurd creates

pub record IsInsertion (o : Option Statement) (db : Database) (table : ℕ) (row : List Value) : Type 0 where
  pub name : List ℕ
  pub written : List Value
  pub t : Table
  pub is : o ≡ Some (statements.Insert name written)
  pub found : named db name ≡ Some t
  pub number : table ≡ t.number
  pub filled_so : row ≡ filled t.columns written

pub insertion : (o : Option Statement) (db : Database) (table : ℕ) (row : List Value) → Inserts o db table row → IsInsertion o db table row
insertion (Some (statements.Insert name written)) db table row inserts = by_table (named db name) refl inserts where
  by_table : (q : Option Table) → named db name ≡ q → IsFilled q written table row → IsInsertion (Some (statements.Insert name written)) db table row
  by_table None found inserts = absurd inserts
  by_table (Some t) found inserts = record { name = name; written = written; t = t; is = refl; found = found; number = inserts.0; filled_so = inserts.1 }
insertion o db table row inserts = absurd inserts

pub record IsAddition (o : Option Statement) (db : Database) (table : ℕ) : Type 0 where
  pub name : List ℕ
  pub column : Column
  pub t : Table
  pub is : o ≡ Some (statements.AddColumn name column)
  pub found : named db name ≡ Some t
  pub number : table ≡ t.number
  pub absent : column_cause column.name t.columns ≡ None

-- where the command isn't refused the column isn't there
new_column : (column : Column) (t : Table) (db : Database) → Passes (alteration column t) db → column_cause column.name t.columns ≡ None
new_column column t db passes = by_test (column_cause column.name t.columns) passes where
  by_test : (o : Option Cause) → Passes (unless_refused o (record { columns = t.columns ++ column ∷ []; row_map = λ row. row ++ column.default ∷ []; tests = [] })) db → o ≡ None
  by_test (Some cause) passes = absurd passes
  by_test None passes = refl

pub addition : (o : Option Statement) (db : Database) (table : ℕ) → Alters o db table → IsAddition o db table
addition (Some (statements.AddColumn name column)) db table alters = by_table (named db name) refl alters where
  by_table : (q : Option Table) → named db name ≡ q → IsAltered q column db table → IsAddition (Some (statements.AddColumn name column)) db table
  by_table None found alters = absurd alters
  by_table (Some t) found alters = record { name = name; column = column; t = t; is = refl; found = found; number = alters.0; absent = new_column column t _ alters.1 }
addition o db table alters = absurd alters

-- ---- locks

-- the mode in which a statement locks the table that it uses
abbrev pub needed_mode : Statement → Mode
needed_mode (statements.Insert name values) = RowExclusive
needed_mode (statements.AddColumn name column) = AccessExclusive
needed_mode statement = AccessShare

held_first : (claims : List Claim) (s table : ℕ) (mode : Mode) → first_lacking claims (record { session = s; table = table; mode = mode } ∷ []) ≡ None → is_held claims (record { session = s; table = table; mode = mode }) ≡ true
held_first claims s table mode none = by_test (is_held claims (record { session = s; table = table; mode = mode })) (record { session = s; table = table; mode = mode }) none where
  by_test : (b : Bool) (c : Claim) → cond b None (Some c) ≡ None → b ≡ true
  by_test true c none = refl
  by_test false c none = absurd cc

-- where nothing is lacking, the table that a statement uses is locked in its mode
pub used_held : (s : ℕ) (claims : List Claim) (db : Database) (statement : Statement) (name : List ℕ) (t : Table) → first_lacking claims (need s statement db) ≡ None → used_name statement ≡ Some name → named db name ≡ Some t → is_held claims (record { session = s; table = t.number; mode = needed_mode statement }) ≡ true
used_held s claims db (statements.Insert other values) name t none uses found = let same : other ≡ name = cc in held_first claims s t.number RowExclusive (rw (same, found) at none)
used_held s claims db (statements.Select other) name t none uses found = let same : other ≡ name = cc in held_first claims s t.number AccessShare (rw (same, found) at none)
used_held s claims db (statements.AddColumn other column) name t none uses found = let same : other ≡ name = cc in held_first claims s t.number AccessExclusive (rw (same, found) at none)
used_held s claims db statement name t none uses found = absurd cc

-- the same of the statement in hand
pub lock_held : (terms : Terms) (past : Past) (x : ℕ) (statement : Statement) (name : List ℕ) (t : Table) → lacking terms past x ≡ None → in_hand terms past (session_of past x) ≡ Some statement → used_name statement ≡ Some name → named (latest terms past x) name ≡ Some t → is_held (held past) (record { session = session_of past x; table = t.number; mode = needed_mode statement }) ≡ true
lock_held terms past x statement name t none is uses found = used_held (session_of past x) (held past) (latest terms past x) statement name t (first (in_hand terms past (session_of past x)) is none) uses found where
  first : (o : Option Statement) → o ≡ Some statement → option_and_then (λ q. first_lacking (held past) (need (session_of past x) q (latest terms past x))) o ≡ None → first_lacking (held past) (need (session_of past x) statement (latest terms past x)) ≡ None
  first None is none = absurd cc
  first (Some q) is none = let same : q ≡ statement = cc in rw (← same) none

-- ---- a lock that is lacking

-- a statement lacks this lock of the table that it uses
pub record IsLacking (s : ℕ) (claims : List Claim) (db : Database) (statement : Statement) (c : Claim) : Type 0 where
  pub name : List ℕ
  pub t : Table
  pub uses : used_name statement ≡ Some name
  pub found : named db name ≡ Some t
  pub is : c ≡ record { session = s; table = t.number; mode = needed_mode statement }
  pub absent : is_held claims c ≡ false

lacks_table : (s : ℕ) (claims : List Claim) (db : Database) (statement : Statement) (name : List ℕ) (c : Claim) → used_name statement ≡ Some name → first_lacking claims (lock_of s (needed_mode statement) (named db name)) ≡ Some c → IsLacking s claims db statement c
lacks_table s claims db statement name c uses lacks = by_table (named db name) refl lacks where
  by_held : (t : Table) (d : Claim) (b : Bool) → is_held claims d ≡ b → named db name ≡ Some t → d ≡ record { session = s; table = t.number; mode = needed_mode statement } → cond b None (Some d) ≡ Some c → IsLacking s claims db statement c
  by_held t d true there found same lacks = absurd cc
  by_held t d false there found same lacks = let e : d ≡ c = cc in record { name = name; t = t; uses = uses; found = found; is = rw (← e) same; absent = rw (← e) there }

  by_table : (o : Option Table) → named db name ≡ o → first_lacking claims (lock_of s (needed_mode statement) o) ≡ Some c → IsLacking s claims db statement c
  by_table None found lacks = absurd cc
  by_table (Some t) found lacks = by_held t (record { session = s; table = t.number; mode = needed_mode statement }) (is_held claims (record { session = s; table = t.number; mode = needed_mode statement })) refl found refl lacks

lacks_of : (s : ℕ) (claims : List Claim) (db : Database) (statement : Statement) (c : Claim) → first_lacking claims (need s statement db) ≡ Some c → IsLacking s claims db statement c
lacks_of s claims db (statements.Insert name values) c lacks = lacks_table s claims db (statements.Insert name values) name c refl lacks
lacks_of s claims db (statements.Select name) c lacks = lacks_table s claims db (statements.Select name) name c refl lacks
lacks_of s claims db (statements.AddColumn name column) c lacks = lacks_table s claims db (statements.AddColumn name column) name c refl lacks
lacks_of s claims db statement c lacks = absurd cc

-- the same of the statement in hand
pub record LacksInHand (terms : Terms) (past : Past) (x : ℕ) (c : Claim) : Type 0 where
  pub statement : Statement
  pub is : in_hand terms past (session_of past x) ≡ Some statement
  pub lacks : IsLacking (session_of past x) (held past) (latest terms past x) statement c

pub lacks_in_hand : (terms : Terms) (past : Past) (x : ℕ) (c : Claim) → lacking terms past x ≡ Some c → LacksInHand terms past x c
lacks_in_hand terms past x c lacks = by_statement (in_hand terms past (session_of past x)) refl lacks where
  by_statement : (o : Option Statement) → in_hand terms past (session_of past x) ≡ o → option_and_then (λ q. first_lacking (held past) (need (session_of past x) q (latest terms past x))) o ≡ Some c → LacksInHand terms past x c
  by_statement None is lacks = absurd cc
  by_statement (Some statement) is lacks = record { statement = statement; is = is; lacks = lacks_of (session_of past x) (held past) (latest terms past x) statement c lacks }
