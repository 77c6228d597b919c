-- The locks of tables, and the requests that wait for one (13.3.1).
use Rattle.std.specs.Prelude.{ℕ, List, [], ◌∷◌, ◌++◌, Bool, false, not, cond, ◌==◌, ◌&&◌, ◌||◌}
use Rattle.std.specs.List.{list_any}
use Rattle.al_modes.specs.declared.mode.Mode.{Mode}
use Rattle.al_modes.specs.Conflicts.{strictness, conflict}
use Rattle.al_history.specs.declared.entry.Want.{Want}
use Rattle.al_history.specs.declared.entry.Want.TheVariants as wants
use Rattle.al_history.specs.declared.entry.Entry.{Entry}
use Rattle.al_history.specs.declared.entry.Entry.TheVariants.{Wait, Lock, Commit, Abort}
use Rattle.al_history.specs.Past.{Past}
use Rattle.al_history.specs.Hand.{session_of}

-- a lock of a table, or a request for one. It is told by its session, which has one open transaction at most.
pub record Claim : Type 0 where
  pub session : ℕ
  pub table : ℕ
  pub mode : Mode

abbrev pub same_claim : Claim → Claim → Bool
same_claim c d = (d.session == c.session) && ((d.table == c.table) && (strictness d.mode == strictness c.mode))

-- the lock of a table for a transaction
abbrev pub claim : Past → ℕ → ℕ → Mode → Claim
claim past x table mode = record { session = session_of past x; table = table; mode = mode }

-- what isn't the session's
abbrev pub without : ℕ → List Claim → List Claim
without s [] = []
without s (c ∷ claims) = cond (c.session == s) (without s claims) (c ∷ without s claims)

-- the locks that are held, oldest first: a transaction holds what it has got to its end
abbrev pub held : Past → List Claim
held [] = []
held (Lock x table mode ∷ past) = held past ++ claim past x table mode ∷ []
held (Commit x ∷ past) = without (session_of past x) (held past)
held (Abort x ∷ past) = without (session_of past x) (held past)
held (e ∷ past) = held past

-- what isn't this claim
abbrev pub without_claim : Claim → List Claim → List Claim
without_claim c [] = []
without_claim c (d ∷ claims) = cond (same_claim c d) (without_claim c claims) (d ∷ without_claim c claims)

-- a request for a lock enters at the end
abbrev pub entered : ℕ → Want → List Claim → List Claim
entered s (wants.Table table mode) claims = claims ++ record { session = s; table = table; mode = mode } ∷ []
entered s (wants.Ends y) claims = claims

-- the requests that wait, in order; the queue of a table is made of those for it. A request leaves when its lock is got, or
-- when its transaction ends.
abbrev pub waiting : Past → List Claim
waiting [] = []
waiting (Wait x want ∷ past) = entered (session_of past x) want (waiting past)
waiting (Lock x table mode ∷ past) = without_claim (claim past x table mode) (waiting past)
waiting (Commit x ∷ past) = without (session_of past x) (waiting past)
waiting (Abort x ∷ past) = without (session_of past x) (waiting past)
waiting (e ∷ past) = waiting past

-- another's lock, or its request ahead, is in the way of a request where the table is the same and the modes conflict
abbrev pub in_way : Claim → Claim → Bool
in_way request other = (other.table == request.table) && (not (other.session == request.session) && conflict other.mode request.mode)

-- the requests ahead of the session's: all, where it has none yet
abbrev pub ahead : ℕ → List Claim → List Claim
ahead s [] = []
ahead s (c ∷ claims) = cond (c.session == s) [] (c ∷ ahead s claims)

-- a request can be granted where no lock that another holds is in its way, and no request ahead
abbrev pub grantable : Past → Claim → Bool
grantable past request = not (list_any (in_way request) (held past) || list_any (in_way request) (ahead request.session (waiting past)))

-- no waiting request can be granted
abbrev pub is_settled : Past → Bool
is_settled past = not (list_any (grantable past) (waiting past))

abbrev pub is_held : List Claim → Claim → Bool
is_held held c = list_any (same_claim c) held

abbrev pub is_waiting : Past → Claim → Bool
is_waiting past c = list_any (same_claim c) (waiting past)

-- whether an entry is the lock of a request that waits
abbrev pub is_grant : Past → Entry → Bool
is_grant past (Lock x table mode) = is_waiting past (claim past x table mode)
is_grant past e = false
