-- What can be written as an entry.
use Rattle.row_codec.specs.Rows.{HasGoodKey, HasMoments, HasShortParts}
use Rattle.row_machine.specs.declared.changes.RowChange.{RowChange}
use Rattle.row_machine.specs.declared.changes.RowChange.TheVariants as change

-- the entry of the row that a change puts can be written
abbrev pub HasEntry : RowChange → Type 0
HasEntry (change.Put row) = HasGoodKey row × HasMoments row × HasShortParts row
HasEntry (change.Remove of key) = Unit {0}
