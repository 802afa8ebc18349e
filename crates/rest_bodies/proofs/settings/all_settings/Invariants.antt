use Rattle.std.proofs.Common.{◌≡◌}
use Rattle.serde_json.specs.View.{members_view}
use Rattle.rest_bodies.specs.Settings.{all_settings}
use Rattle.rest_bodies.proofs.settings.all_settings.Given as goal

abbrev pub invariant-loop-key : goal.invariant-loop-key
invariant-loop-key l = all_settings (members_view l.key-iterator) ≡ all_settings (members_view l.members.entries)
