use Rattle.std.proofs.Common.{◌≡◌, drop}
use Rattle.std.specs.Map.{values_of}
use Rattle.plain_lists.specs.Firsts.{first_of}
use Rattle.row_machine.specs.machine.SettingRules.{device_misses}
use Rattle.row_machine.specs.opening.Opening.{rule_of}
use Rattle.rules_opening.proofs.references.devices_miss.Given as goal

-- the first one is among the devices that are left
abbrev pub invariant-loop-place : goal.invariant-loop-place
invariant-loop-place l =
    first_of (λ d. rule_of (device_misses l.view l.project d)) (drop l.place (values_of l.devices))
    ≡ first_of (λ d. rule_of (device_misses l.view l.project d)) (values_of l.devices)
