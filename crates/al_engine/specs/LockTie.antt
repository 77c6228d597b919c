-- How the lock table stands to a journal, and the locks that are got when it is walked.
use Rattle.std.specs.Prelude.{◌≡◌, ℕ, List, [], ◌∷◌, ◌++◌, Bool, true, false, ◌==◌, Option, Some, None, map, count_by}
use Rattle.std.specs.List.{list_any}
use Rattle.al_queue.specs.declared.grant.Grant.{Grant}
use Rattle.al_queue.specs.Locks.{Locks}
use Rattle.al_history.specs.declared.entry.Want.TheVariants as wants
use Rattle.al_history.specs.declared.entry.Entry.{Entry}
use Rattle.al_history.specs.declared.entry.Entry.TheVariants.{Lock}
use Rattle.al_history.specs.Past.{Past}
use Rattle.al_history.specs.Hand.{xact_of}
use Rattle.al_history.specs.Locks.{Claim, held, waiting, is_held}
use Rattle.al_history.specs.Waits.{wanted_by}

-- a lock of the journal, or a request, as the lock table keeps it
abbrev pub grant_of : Claim → Grant
grant_of c = record { session = c.session; table = c.table; mode = c.mode }

-- whether one of these is the session's
abbrev pub asks : ℕ → List Claim → Bool
asks s claims = list_any (λ c. c.session == s) claims

-- each is of another session
abbrev pub AreApart : List Claim → Type 0
AreApart [] = Unit {0}
AreApart (c ∷ claims) = (asks c.session claims ≡ false) × AreApart claims

-- the table keeps just the requests that wait, in their order, and the locks that are held; and no session waits for two
pub record IsTied (past : Past) (locks : Locks) : Type 0 where
  pub waits : locks.waiting ≡ map grant_of (waiting past)
  pub holds : (test : Grant → Bool) → count_by test locks.held ≡ count_by test (map grant_of (held past))
  pub apart : AreApart (waiting past)

-- who waits for a lock has made no entry since
abbrev pub WantsSo : Past → Type 0
WantsSo past = (c : Claim) → is_held (waiting past) c ≡ true → wanted_by past c.session ≡ Some (wants.Table c.table c.mode)

-- so has everybody else, in a session's turn
abbrev pub OthersWant : ℕ → Past → Type 0
OthersWant s past = (c : Claim) → is_held (waiting past) c ≡ true → (c.session == s) ≡ false → wanted_by past c.session ≡ Some (wants.Table c.table c.mode)

-- the transactions of the sessions that wait
abbrev pub Knows : Past → (ℕ → ℕ) → Type 0
Knows past xact = (c : Claim) → is_held (waiting past) c ≡ true → xact_of past c.session ≡ Some (xact c.session)

-- the lock of a request, for its session's transaction
abbrev pub lock_by : (ℕ → ℕ) → Grant → Entry
lock_by xact grant = Lock (xact grant.session) grant.table grant.mode

-- the lock of this request is got
abbrev pub IsNoted : (ℕ → ℕ) → Option Grant → Past → Past → Type 0
IsNoted xact None old new = ⊥
IsNoted xact (Some grant) old new = new ≡ lock_by xact grant ∷ old

-- the locks of these requests are got, one after the other
abbrev pub locked_by : (ℕ → ℕ) → List Grant → Past → Past
locked_by xact [] past = past
locked_by xact (grant ∷ grants) past = locked_by xact grants (lock_by xact grant ∷ past)

-- these locks, newest first
abbrev pub locks_of : (ℕ → ℕ) → List Grant → List Entry
locks_of xact [] = []
locks_of xact (grant ∷ grants) = locks_of xact grants ++ lock_by xact grant ∷ []

-- whether one of the requests is the session's
abbrev pub is_granted : ℕ → List Grant → Bool
is_granted s grants = list_any (λ grant. grant.session == s) grants
