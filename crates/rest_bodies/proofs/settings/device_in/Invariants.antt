use Rattle.std.proofs.Common.{◌≡◌, []}
use Rattle.serde_json.specs.View.{members_view}
use Rattle.rest_bodies.specs.Settings.{settings_after}
use Rattle.rest_bodies.proofs.settings.device_in.Given as goal

abbrev pub invariant-loop-key : goal.invariant-loop-key
invariant-loop-key l = settings_after l.device (members_view l.key-iterator) ≡ settings_after [] (members_view l.members.entries)
