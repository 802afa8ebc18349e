use Rattle.std.specs.Prelude.{List}
use Rattle.size_values.specs.declared.entry.Entry.{Entry}
use Rattle.size_values.specs.Calls.{Calls}

-- what a keeper in memory holds: its entries, and its calls so far
pub record Kept : Type 0 where
  pub entries : List Entry
  pub calls : Calls
