use Rattle.std.proofs.Common.{◌∙◌, sym}
use Rattle.std.specs.Map.{values_of}
use Rattle.std.proofs.lemmas.Map.Keys.{any_passes_from_place}
use Rattle.estate_rules.specs.Uses.{is_disk_in, names_pool}
use Rattle.estate_rules.proofs.Walk.{fails-more}
use Rattle.estate_rules.proofs.uses.names_pool.Goals as goal

pub returns-then-is_disk_in : goal.returns-then-is_disk_in
unfolding names_pool
returns-then-is_disk_in c =
    sym (any_passes_from_place (is_disk_in c.args.name.now) (values_of c.args.devices.now) c.loop-place.place c.device_at.result.now c.device_at.ensures (sym c.is_disk_in.ensures ∙ c.if-is_disk_in.true))

pub loop-place-preserved : goal.loop-place-preserved
loop-place-preserved c =
    c.loop-place.invariant
    ∙ fails-more (is_disk_in c.args.name.now) (values_of c.args.devices.now) c.loop-place.place c.device_at.result.now c.device_at.ensures (sym c.is_disk_in.ensures ∙ c.if-is_disk_in.false)
