use Rattle.std.proofs.Common.{◌≡◌, []}
use Rattle.serde_json.specs.View.{members_view}
use Rattle.rest_bodies.specs.Settings.{devices_after}
use Rattle.rest_bodies.proofs.settings.devices_in.Given as goal

abbrev pub invariant-loop-name : goal.invariant-loop-name
invariant-loop-name l = devices_after l.devices (members_view l.name-iterator) ≡ devices_after [] (members_view l.members.entries)
