-- What contracts see of a source and a sink in memory.
use Rattle.std.specs.Prelude.{ℕ, List, min, ◌+◌, ◌-◌, ◌^◌}

-- bytes still to come; how many at most go in a call; the calls that fail; calls made so far, and faults
pub record SourceState : Type 0 where
  pub left : List ℕ
  pub most : ℕ
  pub failing : List ℕ
  pub calls : ℕ
  pub faults : ℕ

-- bytes taken; how many there is room for in all; how many at most go in a call; the calls that fail; calls made
-- so far, and faults
pub record SinkState : Type 0 where
  pub held : List ℕ
  pub room : ℕ
  pub most : ℕ
  pub failing : List ℕ
  pub calls : ℕ
  pub faults : ℕ

-- a count of 64 bits after one more: it stands still at its last value
abbrev pub counted : ℕ → ℕ
counted n = min (n + 1) (2 ^ 64 - 1)
