use Rattle.std.proofs.Common.{take}
use Rattle.plain_lists.specs.Members.{Each}
use Rattle.records.specs.declared.rows.Network.{Network}
use Rattle.records.specs.declared.rows.Row.TheVariants as row
use Rattle.row_codec.specs.Rows.{HasTypedParts}
use Rattle.core_reopening.proofs.rows.networks_are_typed.Given as goal

abbrev pub invariant-loop-network : goal.invariant-loop-network
invariant-loop-network l = Each (λ (r : Network). HasTypedParts (row.Network r)) (take l.network-index l.networks)
