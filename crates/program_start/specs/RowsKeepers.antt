-- A keeper in memory tells its entries, and one of a file tells none.
use Rattle.std.specs.Prelude.{ℕ, Bool, List, [], None, Some, false}
use Rattle.command_words.specs.declared.rows_path.RowsPath.{RowsPath}
use Rattle.command_words.specs.declared.rows_path.RowsPath.TheVariants as path_of
use Rattle.record_keeper.specs.Store.{Store}
use Rattle.size_values.specs.Calls.{no_calls}
use Rattle.sqlite_keeper.specs.Kept.{new_keeper}
use Rattle.program_start.specs.declared.rows_keeper.RowsKeeper.{RowsKeeper}
use Rattle.program_start.specs.declared.rows_keeper.RowsKeeper.TheVariants.{Memory, File, Journal}

-- what is seen of it
abbrev pub store_of : RowsKeeper → Store
store_of (Memory keeper) =
    record { contents = Some keeper.entries; calls = keeper.calls.made; failures = keeper.calls.failed }
store_of (File keeper) = record { contents = None; calls = keeper.calls; failures = keeper.failures }
store_of (Journal keeper) = record { contents = None; calls = keeper.calls; failures = keeper.failures }

-- the keeper of rows that are kept there, before its first call: in memory its calls of these numbers fail, and a file
-- that is missing is made or not
abbrev pub keeper_at : RowsPath → List ℕ → Bool → RowsKeeper
keeper_at path_of.Memory fails is_made = Memory (record { entries = []; calls = no_calls fails })
keeper_at (path_of.Database path) fails is_made = File (new_keeper path is_made)
keeper_at (path_of.Journal path) fails is_made = Journal (record {
  path = path;
  is_made = is_made;
  is_open = false;
  calls = 0;
  failures = 0;
  trouble = None;
})
