use Rattle.records.specs.declared.rows.Network.{Network}
use Rattle.records.specs.declared.rows.Row.TheVariants as row
use Rattle.row_codec.specs.Rows.{HasTypedParts}
use Rattle.core_reopening.proofs.Typed.{each-all, each-next}
use Rattle.core_reopening.proofs.rows.networks_are_typed.Goals as goal

pub loop-network-preserved : goal.loop-network-preserved
loop-network-preserved c =
    each-next (λ (r : Network). HasTypedParts (row.Network r)) c.args.networks.now c.loop-network.network-index c.network-item.result c.loop-network-test.true c.network-item.is
    c.network_is_typed.ensures c.loop-network.invariant

pub returns : goal.returns
returns c =
    each-all (λ (r : Network). HasTypedParts (row.Network r)) c.args.networks.now c.loop-network.network-index c.loop-network-test.false c.loop-network.invariant
