-- The database that a reader finds (13.2, 13.6).
use Rattle.std.specs.Prelude.{ℕ, [], ◌∷◌, length, Option, Some, None}
use Rattle.al_history.specs.declared.entry.Entry.{Entry}
use Rattle.al_history.specs.declared.entry.Entry.TheVariants.{Make, Add, Alter}
use Rattle.al_history.specs.declared.statement.Terms.{Terms}
use Rattle.al_history.specs.Past.{Past}
use Rattle.al_history.specs.Database.{Database}
use Rattle.al_history.specs.Fate.{Standing, Inside, Outside, Absent, standing}
use Rattle.al_history.specs.Hand.{hand, session_of, statement_of}
use Rattle.al_history.specs.Change.{made, added, altered}

-- catalogue changes count from the Commit on, also for a reader whose snapshot is older
abbrev pub for_both : Standing → Database → Database → Database
for_both Inside new old = new
for_both Outside new old = new
for_both Absent new old = old

-- rows count for a reader that has seen the Commit
abbrev pub for_inside : Standing → Database → Database → Database
for_inside Inside new old = new
for_inside standing new old = old

-- what an entry does, for a reader for whom transactions stand so
abbrev pub effect : Terms → (ℕ → Standing) → Past → Entry → Database → Database
effect terms stands past (Make x table name shape) db = for_both (stands x) (made table name shape db) db
effect terms stands past (Add x table row) db = for_inside (stands x) (added (length past) table row db) db
effect terms stands past (Alter x table statement rewritten) db = for_both (stands x) (altered (statement_of terms (hand past (session_of past x)) statement) table db) db
effect terms stands past e db = db

abbrev pub view_by : Terms → (ℕ → Standing) → Past → Database
view_by terms stands [] = []
view_by terms stands (e ∷ past) = effect terms stands past e (view_by terms stands past)

-- what a reader finds that has seen the tail `seen`
abbrev pub view : Terms → Past → Past → Option ℕ → Database
view terms past seen reader = view_by terms (standing past seen reader) past

-- what is committed, with the transaction's own changes
abbrev pub latest : Terms → Past → ℕ → Database
latest terms past x = view terms past past (Some x)

-- what is committed
abbrev pub committed : Terms → Past → Database
committed terms past = view terms past past None
