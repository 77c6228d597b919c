-- Whose an entry is, and how a journal goes on by the entries of one session.
use Rattle.std.specs.Prelude.{◌≡◌, ℕ, List, [], ◌∷◌, ◌++◌, ◌+◌, ◌⊎◌, true}
use Rattle.al_history.specs.declared.entry.Entry.{Entry}
use Rattle.al_history.specs.declared.entry.Entry.TheVariants.{Give, Start, Wait, Lock, Look, Make, Add, Read, Alter, Done, Refuse, Commit, Abort, Cancel, End, Close}
use Rattle.al_history.specs.Past.{Past}
use Rattle.al_history.specs.Hand.{session_of}
use Rattle.al_history.specs.Locks.{is_grant}

-- an entry is of a session, or of a transaction
pub data Owner : Type 0 where
  OfSession : ℕ → Owner
  OfXact : ℕ → Owner

abbrev pub who : Entry → Owner
who (Give s block) = OfSession s
who (Start s level) = OfSession s
who (Wait x want) = OfXact x
who (Lock x table mode) = OfXact x
who (Look x) = OfXact x
who (Make x table name shape) = OfXact x
who (Add x table row) = OfXact x
who (Read x names rows) = OfXact x
who (Alter x table statement rewritten) = OfXact x
who (Done s reply) = OfSession s
who (Refuse s cause) = OfSession s
who (Commit x) = OfXact x
who (Abort x) = OfXact x
who (Cancel s) = OfSession s
who (End s) = OfSession s
who (Close s) = OfSession s

-- the session of an owner, after this past
abbrev pub session_by : Past → Owner → ℕ
session_by past (OfSession s) = s
session_by past (OfXact x) = session_of past x

-- the session of an entry, after this past
abbrev pub made_by : Past → Entry → ℕ
made_by past e = session_by past (who e)

-- an entry is the session's, or the lock of a request that waits
abbrev pub IsOf : ℕ → Past → Entry → Type 0
IsOf s past e = (made_by past e ≡ s) ⊎ (is_grant past e ≡ true)

-- these entries, newest first, are of the session, but for locks of requests that wait
abbrev pub AreOf : ℕ → List Entry → Past → Type 0
AreOf s [] past = Unit {0}
AreOf s (e ∷ entries) past = IsOf s (entries ++ past) e × AreOf s entries past

-- the journal went on by entries of the session, and by locks of requests that waited
pub record Extends (s : ℕ) (old new : Past) : Type 0 where
  pub entries : List Entry
  pub more : new ≡ entries ++ old
  pub own : AreOf s entries old

-- how many entries so far are of a row
abbrev pub row_entries : Past → ℕ
row_entries [] = 0
row_entries (Add x table row ∷ past) = row_entries past + 1
row_entries (e ∷ past) = row_entries past
