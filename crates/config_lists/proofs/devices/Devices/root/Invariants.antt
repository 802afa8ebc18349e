use Rattle.std.proofs.Common.{◌≡◌, take}
use Rattle.config_lists.specs.Devices.{root_of}
use Rattle.config_lists.proofs.devices.Devices.root.Given as goal

abbrev pub invariant-loop-place : goal.invariant-loop-place
invariant-loop-place l = l.root ≡ root_of (take l.place l.self)
