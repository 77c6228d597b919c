-- What a statement needs before it acts: the locks of its tables (13.3.1), and for a new table a name that nobody else has
-- made (CREATE TABLE in Part VI).
use Rattle.std.specs.Prelude.{ℕ, List, [], ◌∷◌, ◌++◌, Bool, true, false, not, cond, ◌==◌, ◌&&◌, Option, Some, None, option_and_then}
use Rattle.al_modes.specs.declared.mode.Mode.{Mode}
use Rattle.al_modes.specs.declared.mode.Mode.TheVariants.{AccessShare, RowExclusive, AccessExclusive}
use Rattle.al_history.specs.declared.entry.Entry.TheVariants.{Make}
use Rattle.al_history.specs.declared.statement.Statement.{Statement}
use Rattle.al_history.specs.declared.statement.Statement.TheVariants as statements
use Rattle.al_history.specs.declared.statement.Terms.{Terms}
use Rattle.al_history.specs.Past.{Past}
use Rattle.al_history.specs.Database.{Table, Database, same_name, named}
use Rattle.al_history.specs.Fate.{fate}
use Rattle.al_history.specs.Hand.{in_hand, session_of}
use Rattle.al_history.specs.Locks.{Claim, held, is_held}
use Rattle.al_history.specs.Waits.{is_open}
use Rattle.al_history.specs.View.{latest}

-- whether a statement has a place: BEGIN, COMMIT and ROLLBACK have none
abbrev pub has_place : Statement → Bool
has_place statements.Begin = false
has_place statements.Commit = false
has_place statements.Rollback = false
has_place statement = true

abbrev pub lock_of : ℕ → Mode → Option Table → List Claim
lock_of s mode None = []
lock_of s mode (Some t) = record { session = s; table = t.number; mode = mode } ∷ []

-- the locks that a session's statement needs, in order: ACCESS SHARE for SELECT, ROW EXCLUSIVE for INSERT, ACCESS EXCLUSIVE
-- for ALTER TABLE
abbrev pub need : ℕ → Statement → Database → List Claim
need s (statements.Insert name values) db = lock_of s RowExclusive (named db name)
need s (statements.Select name) db = lock_of s AccessShare (named db name)
need s (statements.AddColumn name column) db = lock_of s AccessExclusive (named db name)
need s statement db = []

-- the first that isn't held in exactly that mode
abbrev pub first_lacking : List Claim → List Claim → Option Claim
first_lacking held [] = None
first_lacking held (c ∷ claims) = cond (is_held held c) (first_lacking held claims) (Some c)

-- the lock that the statement in hand has to get next, by the newest committed and own tables
abbrev pub lacking : Terms → Past → ℕ → Option Claim
lacking terms past x = option_and_then (λ statement. first_lacking (held past) (need (session_of past x) statement (latest terms past x))) (in_hand terms past (session_of past x))

-- the transactions that have made a table of this name, oldest first
abbrev pub makers : Past → List ℕ → List ℕ
makers [] name = []
makers (Make x table other shape ∷ past) name = cond (same_name other name) (makers past name ++ x ∷ []) (makers past name)
makers (e ∷ past) name = makers past name

-- the first of these that is open, and another than x
abbrev pub first_open : Past → ℕ → List ℕ → Option ℕ
first_open past x [] = None
first_open past x (y ∷ ys) = cond (not (y == x) && is_open (fate past y)) (Some y) (first_open past x ys)

-- the open transaction of another that is in the way of a new table's name
abbrev pub name_taker : Past → ℕ → Statement → Option ℕ
name_taker past x (statements.CreateTable name columns) = first_open past x (makers past name)
name_taker past x statement = None
