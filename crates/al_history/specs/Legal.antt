-- Legal histories of a one-thread multiversion machine.
use Rattle.std.specs.Prelude.{◌≡◌, ℕ, List, [], ◌∷◌, reverse, Bool, true, false, Contains, flat_map, cond, ◌==◌, ◌||◌, Option, Some, None}
use Rattle.al_history.specs.declared.entry.Entry.{Entry}
use Rattle.al_history.specs.declared.entry.Entry.TheVariants.{Give, Lock, Abort, Cancel, Close}
use Rattle.al_history.specs.declared.statement.Terms.{Terms}
use Rattle.al_history.specs.Past.{Past}
use Rattle.al_history.specs.Constraint.{Constraint}
use Rattle.al_history.specs.Database.{Table, Database, Holds, breaking}
use Rattle.al_history.specs.Hand.{hand, session_of}
use Rattle.al_history.specs.Made.{made_by}
use Rattle.al_history.specs.Waits.{can_go_on}
use Rattle.al_history.specs.Tail.{owed, Follows}
use Rattle.al_history.specs.Rules.{Rule}
use Rattle.al_history.specs.Locks.{is_settled, is_grant}
use Rattle.al_history.specs.Alone.{Alone}
use Rattle.al_history.specs.View.{committed}

-- a demand, unless it is waived
abbrev pub Unless : Bool → Type 0 → Type 0
Unless true asked = Unit {0}
Unless false asked = asked

-- what is owed comes at once, and all else of a session's step where that can go on
abbrev pub in_time : Option Entry → Past → ℕ → Bool
in_time (Some next) past s = true
in_time None past s = can_go_on past s

-- the Abort of a session with no step in hand stands before its Close
abbrev pub in_time_if_busy : Option ℕ → Option Entry → Past → ℕ → Bool
in_time_if_busy None next past s = true
in_time_if_busy (Some block) next past s = in_time next past s

-- Whether an entry comes in time. A block may be given, a step cancelled and a session closed at any time, and the lock of a
-- request that waits comes as soon as it can be granted.
abbrev pub comes_in_time : Terms → Past → Entry → Bool
comes_in_time terms past (Give s block) = true
comes_in_time terms past (Cancel s) = true
comes_in_time terms past (Close s) = true
comes_in_time terms past (Lock x table mode) = is_grant past (Lock x table mode) || in_time (owed terms past) past (session_of past x)
comes_in_time terms past (Abort x) = in_time_if_busy (hand past (session_of past x)) (owed terms past) past (session_of past x)
comes_in_time terms past e = in_time (owed terms past) past (made_by past e)

-- An entry may come: its rule is met, and no table is used that another has alone. Each but the lock of a request that waits
-- comes where no waiting request can be granted, and is the one that is owed where one is. What isn't owed is of a session that can go on.
pub record MayCome (terms : Terms) (past : Past) (e : Entry) : Type 0 where
  pub rule : Rule terms past e
  pub settled : Unless (is_grant past e) (is_settled past ≡ true)
  pub follows : Unless (is_grant past e) (Follows (owed terms past) e)
  pub alone : Alone terms past e
  pub timely : comes_in_time terms past e ≡ true

-- each entry may come after those before it
abbrev pub Legal : Terms → Past → Type 0
Legal terms [] = Unit {0}
Legal terms (e ∷ past) = MayCome terms past e × Legal terms past

abbrev pub IsLegal : Terms → List Entry → Type 0
IsLegal terms journal = Legal terms (reverse journal)

-- the rows of a table that break a constraint
abbrev pub bad : Constraint → Database → List ℕ
bad c db = flat_map (λ (t : Table). cond (t.number == c.table) (breaking c.demand t db) []) db

-- each valid constraint of each table holds
abbrev pub AllHold : Database → Type 0
AllHold db = (t : Table) → Contains db t → (c : Constraint) → Contains t.constraints c → c.valid ≡ true → Holds c.demand t db

-- every committed constraint that is valid holds of all committed rows, at every moment
abbrev pub HoldAlways : Terms → Past → Type 0
HoldAlways terms [] = AllHold (committed terms [])
HoldAlways terms (e ∷ past) = AllHold (committed terms (e ∷ past)) × HoldAlways terms past
