use Rattle.std.proofs.Common.{◌≡◌, drop}
use Rattle.std.specs.List.{list_any}
use Rattle.std.specs.Map.{values_of}
use Rattle.estate_rules.specs.Uses.{is_disk_in}
use Rattle.estate_rules.proofs.uses.names_pool.Given as goal

abbrev pub invariant-loop-place : goal.invariant-loop-place
invariant-loop-place l = list_any (is_disk_in l.name) (values_of l.devices) ≡ list_any (is_disk_in l.name) (drop l.place (values_of l.devices))
