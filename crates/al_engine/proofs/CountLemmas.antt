-- A table has no more rows than the journal has row entries.
use Rattle.std.proofs.Common.{◌≡◌, ℕ, ◌≤◌, List, length, ap, Some, ◌∙◌, slice_get, option_map}
use Rattle.std.proofs.lemmas.List.{length-map}
use Rattle.std.proofs.lemmas.Option.{slice_get-map}
use Rattle.al_history.specs.declared.statement.Terms.{Terms}
use Rattle.al_history.specs.Past.{past_of}
use Rattle.al_history.specs.Made.{row_entries}
use Rattle.al_history.specs.Store.{store}
use Rattle.al_history.proofs.Counts.{rows_counted_at}
use Rattle.al_engine.specs.declared.stored.StoredTable.{StoredTable}
use Rattle.al_engine.specs.Kept.{Parts, IsKept}
use Rattle.al_engine.specs.Stored.{row_of, kept_of, all_kept}

-- the table at a place, as it is kept
kept_at : (tables : List StoredTable) (at : ℕ) (t : StoredTable) → slice_get tables at ≡ Some t → slice_get (all_kept tables) at ≡ Some (kept_of t)
kept_at tables at t there = slice_get-map kept_of tables at ∙ ap (option_map kept_of) there

pub rows_within : (terms : Terms) (p : Parts) (at : ℕ) (t : StoredTable) → IsKept terms p → slice_get p.tables at ≡ Some t → length t.rows ≤ row_entries (past_of p.journal)
rows_within terms p at t kept there =
    let stored : slice_get (store terms (past_of p.journal)) at ≡ Some (kept_of t) = rw (← kept.sound.stored) (kept_at p.tables at t there) in
    rw (length-map t.rows row_of) at (rows_counted_at terms (past_of p.journal) at (kept_of t) stored)
