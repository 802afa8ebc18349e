use Rattle.std.proofs.Common.{arith}
use Rattle.std.specs.Map.{values_of}
use Rattle.std.proofs.lemmas.List.{length-map}
use Rattle.row_machine.specs.machine.SettingRules.{device_misses, devices_miss}
use Rattle.rules_refusals.proofs.Saying.{refuses-place, free-place, free-end}
use Rattle.rules_settings.proofs.devices.devices_miss.Goals as goal

pub returns-in-Err : goal.returns-in-Err
unfolding devices_miss
returns-in-Err c =
    refuses-place (device_misses c.args.view.now c.args.project.now) (values_of c.args.devices.now) c.loop-place.place c.device_at.result.now c.in-Err.why
    c.device_at.ensures c.loop-place.invariant c.in-Err.ensures

pub loop-place-preserved : goal.loop-place-preserved
loop-place-preserved c =
    free-place (device_misses c.args.view.now c.args.project.now) (values_of c.args.devices.now) c.loop-place.place c.device_at.result.now
    c.device_at.ensures c.loop-place.invariant c.in_default.ensures

pub returns : goal.returns
unfolding devices_miss
returns c = free-end (device_misses c.args.view.now c.args.project.now) (values_of c.args.devices.now) c.loop-place.place (rw length-map (omega arith)) c.loop-place.invariant
