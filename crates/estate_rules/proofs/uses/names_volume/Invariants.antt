use Rattle.std.proofs.Common.{◌≡◌, drop}
use Rattle.std.specs.List.{list_any}
use Rattle.std.specs.Map.{values_of}
use Rattle.estate_rules.specs.Uses.{is_volume_of}
use Rattle.estate_rules.proofs.uses.names_volume.Given as goal

abbrev pub invariant-loop-place : goal.invariant-loop-place
invariant-loop-place l = list_any (is_volume_of l.pool l.name) (values_of l.devices) ≡ list_any (is_volume_of l.pool l.name) (drop l.place (values_of l.devices))
