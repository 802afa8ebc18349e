use Rattle.std.proofs.Common.{◌∙◌, sym}
use Rattle.std.specs.Map.{values_of}
use Rattle.std.proofs.lemmas.Map.Keys.{any_passes_from_place}
use Rattle.estate_rules.specs.Uses.{is_nic_on, names_network}
use Rattle.estate_rules.proofs.Walk.{fails-more}
use Rattle.estate_rules.proofs.uses.names_network.Goals as goal

pub returns-then-is_nic_on : goal.returns-then-is_nic_on
unfolding names_network
returns-then-is_nic_on c =
    sym (any_passes_from_place (is_nic_on c.args.name.now) (values_of c.args.devices.now) c.loop-place.place c.device_at.result.now c.device_at.ensures (sym c.is_nic_on.ensures ∙ c.if-is_nic_on.true))

pub loop-place-preserved : goal.loop-place-preserved
loop-place-preserved c =
    c.loop-place.invariant
    ∙ fails-more (is_nic_on c.args.name.now) (values_of c.args.devices.now) c.loop-place.place c.device_at.result.now c.device_at.ensures (sym c.is_nic_on.ensures ∙ c.if-is_nic_on.false)
