-- What a keeper of rows tells of its file.
use Rattle.std.specs.Prelude.{ℕ, Bool, false, is_some}
use Rattle.program_start.specs.declared.rows_keeper.RowsKeeper.{RowsKeeper}
use Rattle.program_start.specs.declared.rows_keeper.RowsKeeper.TheVariants.{File}

-- its file failed and could not be opened again
abbrev pub is_lost : RowsKeeper → Bool
is_lost (File keeper) = is_some keeper.lost
is_lost other = false

-- so many commits were well though the disk had failed
abbrev pub mended : RowsKeeper → ℕ
mended (File keeper) = keeper.mended
mended other = 0
