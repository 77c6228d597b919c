-- What contracts see of an adapter over std.
use Rattle.std.specs.Prelude.{ℕ, List, Option}
use Rattle.al_outside.specs.Holding.{Held}

-- the bytes that the reader still has, where it tells them, and the faults counted
pub record ReaderState : Type 0 where
  pub left : Option (List ℕ)
  pub faults : ℕ

-- what the writer holds, and the faults counted
pub record WriterState : Type 0 where
  pub held : Held
  pub faults : ℕ
