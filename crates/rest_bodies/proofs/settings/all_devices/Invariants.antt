use Rattle.std.proofs.Common.{◌≡◌}
use Rattle.serde_json.specs.View.{members_view}
use Rattle.rest_bodies.specs.Settings.{all_devices}
use Rattle.rest_bodies.proofs.settings.all_devices.Given as goal

abbrev pub invariant-loop-value : goal.invariant-loop-value
invariant-loop-value l = all_devices (members_view l.value-iterator) ≡ all_devices (members_view l.members.entries)
