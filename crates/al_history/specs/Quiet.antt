-- What the locks of tables give (13.3.1), said of the past alone.
use Rattle.std.specs.Prelude.{◌≡◌, ℕ, [], ◌∷◌}
use Rattle.al_history.specs.declared.entry.Entry.TheVariants.{Make, Alter}
use Rattle.al_history.specs.Past.{Past}
use Rattle.al_history.specs.Fate.{Open, fate}

-- who made it has ended, or is x
abbrev pub IsSettled : Past → ℕ → ℕ → Type 0
IsSettled past x maker = fate past maker ≡ Open → maker ≡ x

-- among these entries: who made or altered the table has ended, or is x
abbrev pub IsQuietIn : Past → Past → ℕ → ℕ → Type 0
IsQuietIn past [] x table = Unit {0}
IsQuietIn past (Make y other name columns ∷ entries) x table = (other ≡ table → IsSettled past x y) × IsQuietIn past entries x table
IsQuietIn past (Alter y other statement rewritten ∷ entries) x table = (other ≡ table → IsSettled past x y) × IsQuietIn past entries x table
IsQuietIn past (e ∷ entries) x table = IsQuietIn past entries x table

-- no open transaction but x has made or altered the table
abbrev pub IsQuiet : Past → ℕ → ℕ → Type 0
IsQuiet past x table = IsQuietIn past past x table
