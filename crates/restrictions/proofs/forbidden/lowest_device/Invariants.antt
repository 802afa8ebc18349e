use Rattle.std.proofs.Common.{◌≡◌, ℕ, map, drop}
use Rattle.std.specs.List.{enumerate_from}
use Rattle.std.specs.Map.{values_of}
use Rattle.config_lists.specs.Settings.{Settings}
use Rattle.restrictions.specs.Policies.{seen}
use Rattle.restrictions.specs.Forbids.{forbidden_at, earlier, lowest, device_rule}
use Rattle.restrictions.proofs.forbidden.lowest_device.Given as goal

-- the lowest so far, and what is left
abbrev pub invariant-loop-place : goal.invariant-loop-place
invariant-loop-place l =
    let item = λ (d : ℕ × Settings). forbidden_at d.0 (device_rule (seen l.policy) d.1) in
    earlier l.lowest (lowest (map item (enumerate_from l.place (drop l.place (values_of l.devices))))) ≡ lowest (map item (enumerate_from 0 (values_of l.devices)))
