-- When a table is used by one transaction alone (13.3.1).
use Rattle.std.specs.Prelude.{◌≡◌, ℕ, List, [], ◌∷◌, cond, ◌==◌, ◌&&◌, Option, Some, None, option_and_then}
use Rattle.al_modes.specs.declared.mode.Mode.TheVariants.{AccessExclusive}
use Rattle.al_modes.specs.Conflicts.{strictness}
use Rattle.al_history.specs.declared.entry.Entry.{Entry}
use Rattle.al_history.specs.declared.entry.Entry.TheVariants.{Lock, Look, Add, Read, Alter}
use Rattle.al_history.specs.declared.statement.Terms.{Terms}
use Rattle.al_history.specs.Past.{Past}
use Rattle.al_history.specs.Database.{Table, named}
use Rattle.al_history.specs.Hand.{in_hand, session_of, look_of}
use Rattle.al_history.specs.Cause.{used_name}
use Rattle.al_history.specs.Locks.{Claim, held}
use Rattle.al_history.specs.View.{latest}

-- the session of the first of these locks that is of the table, in ACCESS EXCLUSIVE mode
abbrev pub sole_among : List Claim → ℕ → Option ℕ
sole_among [] table = None
sole_among (c ∷ claims) table = cond ((c.table == table) && (strictness c.mode == strictness AccessExclusive)) (Some c.session) (sole_among claims table)

-- the session that has a table locked in ACCESS EXCLUSIVE mode
abbrev pub sole_user : Past → ℕ → Option ℕ
sole_user past table = sole_among (held past) table

-- the table that the transaction's statement in hand uses, in the database as its Look found it
abbrev pub used_table : Terms → Past → ℕ → Past → Option Table
used_table terms past x look = option_and_then (named (latest terms look x)) (option_and_then used_name (in_hand terms past (session_of past x)))

abbrev pub IsNumbered : Option Table → ℕ → Type 0
IsNumbered None number = ⊥
IsNumbered (Some t) number = t.number ≡ number

-- where someone has the table alone, it is that session
abbrev pub IsUser : Option ℕ → ℕ → Type 0
IsUser None s = Unit {0}
IsUser (Some r) s = s ≡ r

-- a statement with this Look uses no table that another has alone
abbrev pub UsesOwn : Terms → Past → ℕ → Option Past → Type 0
UsesOwn terms past x None = Unit {0}
UsesOwn terms past x (Some look) = (table : ℕ) → IsNumbered (used_table terms past x look) table → IsUser (sole_user past table) (session_of past x)

-- no Lock, Look, Read, row entry or ALTER TABLE uses a table that another has alone
abbrev pub Alone : Terms → Past → Entry → Type 0
Alone terms past (Lock x table mode) = IsUser (sole_user past table) (session_of past x)
Alone terms past (Look x) = UsesOwn terms past x (Some past)
Alone terms past (Add x table row) = IsUser (sole_user past table) (session_of past x)
Alone terms past (Read x names rows) = UsesOwn terms past x (look_of past (session_of past x))
Alone terms past (Alter x table statement rewritten) = UsesOwn terms past x (look_of past (session_of past x))
Alone terms past e = Unit {0}
