-- Readers: a transaction or nobody, with the tail of the past that its snapshot has seen (13.2).
use Rattle.std.specs.Prelude.{◌≡◌, ◌⊎◌, ℕ, [], ◌∷◌, Option, Some, None}
use Rattle.al_history.specs.Past.{Past}
use Rattle.al_history.specs.Fate.{Open, fate}
use Rattle.al_history.specs.Store.{sees}
use Rattle.al_history.specs.Parts.{Sight}

-- a reader sees a change of tables from its Commit on, and one of rows where it has seen the Commit; its own it sees at once
abbrev pub sight : Past → Past → Option ℕ → Sight
sight past seen reader = record { catalogue = sees past reader; rows = sees seen reader }

-- what a snapshot has seen was all there was, at some time
abbrev pub IsTail : Past → Past → Type 0
IsTail seen [] = seen ≡ []
IsTail seen (e ∷ past) = (seen ≡ e ∷ past) ⊎ IsTail seen past

-- a transaction that reads is open
abbrev pub IsReader : Past → Option ℕ → Type 0
IsReader past None = Unit {0}
IsReader past (Some x) = fate past x ≡ Open
