use Rattle.std.proofs.Common.{ℕ, List, ap, arith}
use Rattle.std.specs.Option.{option_map}
use Rattle.config_lists.specs.Settings.{Settings}
use Rattle.option_tables.specs.declared.faults.SettingFault.TheVariants as told
use Rattle.option_tables.specs.Checks.{device_fault, devices_fault}
use Rattle.option_tables.proofs.Firsts.{first_of-here, first_of-later, first_of-none}
use Rattle.option_tables.proofs.devices.check_devices.Goals as goal

pub returns-in-Err : goal.returns-in-Err
unfolding devices_fault
returns-in-Err c =
    first_of-here (λ (d : ℕ × (List ℕ × Settings)). option_map (told.Device d.0) (device_fault d.1.0 d.1.1)) c.args.devices.now c.loop-place.place _ _ c.name_at.ensures c.device_at.ensures _
    (ap (option_map (told.Device c.loop-place.place)) c.in-Err.ensures) c.loop-place.invariant

pub loop-place-preserved : goal.loop-place-preserved
loop-place-preserved c =
    first_of-later (λ (d : ℕ × (List ℕ × Settings)). option_map (told.Device d.0) (device_fault d.1.0 d.1.1)) c.args.devices.now c.loop-place.place _ _ c.name_at.ensures c.device_at.ensures
    (ap (option_map (told.Device c.loop-place.place)) c.in_default.ensures) c.loop-place.invariant

pub returns : goal.returns
unfolding devices_fault
returns c = first_of-none (λ (d : ℕ × (List ℕ × Settings)). option_map (told.Device d.0) (device_fault d.1.0 d.1.1)) c.args.devices.now c.loop-place.place (omega arith) c.loop-place.invariant
