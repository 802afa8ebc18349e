use Rattle.std.proofs.Common.{◌≡◌, []}
use Rattle.serde_json.specs.View.{members_view}
use Rattle.rest_bodies.specs.Settings.{changes_after}
use Rattle.rest_bodies.proofs.settings.changes_in.Given as goal

abbrev pub invariant-loop-key : goal.invariant-loop-key
invariant-loop-key l = changes_after l.changes (members_view l.key-iterator) ≡ changes_after [] (members_view l.members.entries)
