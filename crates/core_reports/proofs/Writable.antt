-- Rows that have entries.
use Rattle.std.proofs.Common.{[], ◌∷◌, List}
use Rattle.std.specs.List.{AllByRecursion}
use Rattle.plain_lists.specs.Members.{Each}
use Rattle.plain_lists.proofs.Elements.{Each-head, Each-tail}
use Rattle.row_codec.specs.Rows.{HasGoodKey, HasMoments, HasShortParts}
use Rattle.row_machine.specs.declared.changes.RowChange.{RowChange}
use Rattle.row_machine.specs.declared.changes.RowChange.TheVariants as change
use Rattle.row_machine.specs.machine.Changes.{rows_put}
use Rattle.core_reports.specs.Entries.{HasEntry}

-- rows that have good keys and moments and are small have entries
pub entries-of : (cs : List RowChange) → Each HasGoodKey (rows_put cs) → Each HasMoments (rows_put cs) → Each HasShortParts (rows_put cs) → AllByRecursion HasEntry cs
entries-of [] keyed timely short = tt
entries-of (change.Put r ∷ cs) keyed timely short =
    ((Each-head keyed, Each-head timely, Each-head short), entries-of cs (Each-tail keyed) (Each-tail timely) (Each-tail short))
entries-of (change.Remove of key ∷ cs) keyed timely short = (tt, entries-of cs keyed timely short)
