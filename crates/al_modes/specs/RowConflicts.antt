-- Which lock modes of a row conflict (13.3.2, table 13.3).
use Rattle.std.specs.Prelude.{Bool, true, false}
use Rattle.al_modes.specs.declared.row_mode.RowMode.{RowMode}
use Rattle.al_modes.specs.declared.row_mode.RowMode.TheVariants.{KeyShare, Share, NoKeyUpdate, Update}

-- whether two modes conflict: a line for each cell of the manual's table that has a mark
abbrev pub row_conflict : RowMode → RowMode → Bool
row_conflict KeyShare Update = true
row_conflict Share NoKeyUpdate = true
row_conflict Share Update = true
row_conflict NoKeyUpdate Share = true
row_conflict NoKeyUpdate NoKeyUpdate = true
row_conflict NoKeyUpdate Update = true
row_conflict Update KeyShare = true
row_conflict Update Share = true
row_conflict Update NoKeyUpdate = true
row_conflict Update Update = true
row_conflict _ _ = false
