-- What a CREATE TABLE goes by: who is in the way of its name, what it finds, and the journal once it has looked.
use Rattle.std.specs.Prelude.{ℕ, List, [], ◌∷◌, Bool, cond, Option, Some}
use Rattle.al_history.specs.declared.entry.Entry.TheVariants.{Look}
use Rattle.al_history.specs.declared.statement.Statement.TheVariants as statements
use Rattle.al_history.specs.Past.{Past}
use Rattle.al_history.specs.Database.{Database}
use Rattle.al_history.specs.Store.{shown}
use Rattle.al_engine.specs.Kept.{Parts, over_by}
use Rattle.al_engine.specs.Sessions.{xacts_in}
use Rattle.al_engine.specs.Stored.{all_kept, seen_by, makers_in, first_among}
use Rattle.al_engine.specs.Using.{create_weight}
use Rattle.al_history.specs.Cause.{first_of, tables_cause}
use Rattle.al_statements.specs.declared.cause.Cause.{Cause}

-- the transaction that is in the way of its name, by what is kept
abbrev pub taker_in : Parts → ℕ → List ℕ → Option ℕ
taker_in p x name = first_among x (xacts_in p.sessions) (makers_in p.tables name)

-- what its transaction finds, by what is kept
abbrev pub seen_in : Parts → ℕ → Database
seen_in p x = shown (seen_by (Some x) p.committed) (all_kept p.tables)

-- a limit that would be passed: that of the tables, or that of the journal's weight
abbrev pub limit_in : ℕ → ℕ → ℕ → List ℕ → List (List ℕ) → Option ℕ → Option Cause
limit_in limit so_far made name columns taker = first_of (tables_cause (statements.CreateTable name columns) [] taker made) (over_by limit so_far (create_weight columns taker))

-- the past once it has looked
abbrev pub look_past : Bool → ℕ → Past → Past
look_past looked x past = cond looked past (Look x ∷ past)
