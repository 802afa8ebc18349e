use Rattle.std.proofs.Common.{◌≡◌, ℕ, List, drop}
use Rattle.std.specs.List.{enumerate_from}
use Rattle.std.specs.Option.{option_map}
use Rattle.plain_lists.specs.Firsts.{first_of}
use Rattle.config_lists.specs.Settings.{Settings}
use Rattle.option_tables.specs.declared.faults.SettingFault.TheVariants as told
use Rattle.option_tables.specs.Checks.{device_fault}
use Rattle.option_tables.proofs.devices.check_devices.Given as goal

-- the first fault is among the devices that are left
abbrev pub invariant-loop-place : goal.invariant-loop-place
invariant-loop-place l =
    let rule = λ (d : ℕ × (List ℕ × Settings)). option_map (told.Device d.0) (device_fault d.1.0 d.1.1) in
    first_of rule (enumerate_from l.place (drop l.place l.devices)) ≡ first_of rule (enumerate_from 0 l.devices)
