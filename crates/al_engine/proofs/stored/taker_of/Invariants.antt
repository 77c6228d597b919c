use Rattle.std.proofs.Common.{◌≡◌, drop}
use Rattle.al_engine.specs.Stored.{makers_in, first_among}
use Rattle.al_engine.proofs.stored.taker_of.Given as goal

abbrev pub invariant-loop-table : goal.invariant-loop-table
invariant-loop-table l = first_among l.xact l.opened (makers_in l.tables l.name) ≡ first_among l.xact l.opened (makers_in (drop l.table-index l.tables) l.name)
