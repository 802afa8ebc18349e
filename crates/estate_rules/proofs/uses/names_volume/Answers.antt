use Rattle.std.proofs.Common.{◌∙◌, sym}
use Rattle.std.specs.Map.{values_of}
use Rattle.std.proofs.lemmas.Map.Keys.{any_passes_from_place}
use Rattle.estate_rules.specs.Uses.{is_volume_of, names_volume}
use Rattle.estate_rules.proofs.Walk.{fails-more}
use Rattle.estate_rules.proofs.uses.names_volume.Goals as goal

pub returns-then-is_volume_of : goal.returns-then-is_volume_of
unfolding names_volume
returns-then-is_volume_of c =
    sym (any_passes_from_place (is_volume_of c.args.pool.now c.args.name.now) (values_of c.args.devices.now) c.loop-place.place c.device_at.result.now c.device_at.ensures (sym c.is_volume_of.ensures ∙ c.if-is_volume_of.true))

pub loop-place-preserved : goal.loop-place-preserved
loop-place-preserved c =
    c.loop-place.invariant
    ∙ fails-more (is_volume_of c.args.pool.now c.args.name.now) (values_of c.args.devices.now) c.loop-place.place c.device_at.result.now c.device_at.ensures (sym c.is_volume_of.ensures ∙ c.if-is_volume_of.false)
