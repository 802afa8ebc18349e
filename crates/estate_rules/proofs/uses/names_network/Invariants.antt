use Rattle.std.proofs.Common.{◌≡◌, drop}
use Rattle.std.specs.List.{list_any}
use Rattle.std.specs.Map.{values_of}
use Rattle.estate_rules.specs.Uses.{is_nic_on}
use Rattle.estate_rules.proofs.uses.names_network.Given as goal

abbrev pub invariant-loop-place : goal.invariant-loop-place
invariant-loop-place l = list_any (is_nic_on l.name) (values_of l.devices) ≡ list_any (is_nic_on l.name) (drop l.place (values_of l.devices))
