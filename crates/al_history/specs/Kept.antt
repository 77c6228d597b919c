-- What contracts see of a journal.
use Rattle.std.specs.Prelude.{ℕ, List}
use Rattle.al_history.specs.declared.entry.Entry.{Entry}

-- the entries, oldest first, and how many places are reserved for more
pub record Kept : Type 0 where
  pub entries : List Entry
  pub room : ℕ
