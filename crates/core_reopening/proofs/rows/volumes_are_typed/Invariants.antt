use Rattle.std.proofs.Common.{take}
use Rattle.plain_lists.specs.Members.{Each}
use Rattle.records.specs.declared.rows.Volume.{Volume}
use Rattle.records.specs.declared.rows.Row.TheVariants as row
use Rattle.row_codec.specs.Rows.{HasTypedParts}
use Rattle.core_reopening.proofs.rows.volumes_are_typed.Given as goal

abbrev pub invariant-loop-volume : goal.invariant-loop-volume
invariant-loop-volume l = Each (λ (r : Volume). HasTypedParts (row.Volume r)) (take l.volume-index l.volumes)
