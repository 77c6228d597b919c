-- How transactions end, and where what they did stands for a reader (13.2).
use Rattle.std.specs.Prelude.{ℕ, [], ◌∷◌, ◌==◌, Bool, false, cond, Option, Some, None}
use Rattle.al_history.specs.declared.entry.Entry.TheVariants.{Commit, Abort}
use Rattle.al_history.specs.Past.{Past}

pub data Fate : Type 0 where
  Open : Fate
  Committed : Fate
  Aborted : Fate

-- committed where its Commit is there, aborted where its Abort is, else open
abbrev pub fate : Past → ℕ → Fate
fate [] x = Open
fate (Commit y ∷ past) x = cond (y == x) Committed (fate past x)
fate (Abort y ∷ past) x = cond (y == x) Aborted (fate past x)
fate (e ∷ past) x = fate past x

-- where what a transaction did stands for a reader
pub data Standing : Type 0 where
  Inside : Standing
  Outside : Standing
  Absent : Standing

-- whether the transaction is that one
abbrev pub is_that : Option ℕ → ℕ → Bool
is_that None x = false
is_that (Some y) x = y == x

abbrev pub outside_if : Fate → Standing
outside_if Committed = Outside
outside_if fate = Absent

abbrev pub inside_if : Fate → Standing → Standing
inside_if Committed other = Inside
inside_if fate other = other

-- Inside: it is the reader's own, or its Commit is in what the reader has seen. Outside: its Commit came later. Absent:
-- it is another's and open, or aborted. A reader is a transaction or nobody; `seen` is the tail that it knows.
abbrev pub standing : Past → Past → Option ℕ → ℕ → Standing
standing past seen reader x = cond (is_that reader x) Inside (inside_if (fate seen x) (outside_if (fate past x)))
