-- What contracts see of a row of any kind.
use Rattle.records.specs.declared.rows.Row.{Row}
use Rattle.records.specs.declared.rows.Row.TheVariants as row
use Rattle.records.specs.declared.any_row.AnyRow.{AnyRow}
use Rattle.records.specs.declared.any_row.AnyRow.TheVariants as any

-- the row itself
abbrev pub row_in : AnyRow → Row
row_in (any.Project project) = row.Project project.now
row_in (any.Profile profile) = row.Profile profile.now
row_in (any.Network network) = row.Network network.now
row_in (any.Pool pool) = row.Pool pool.now
row_in (any.Volume volume) = row.Volume volume.now
row_in (any.Instance instance) = row.Instance instance.now
row_in (any.Snapshot snapshot) = row.Snapshot snapshot.now
