use Rattle.std.proofs.Common.{◌≡◌, drop}
use Rattle.serde_json.specs.View.{items_view}
use Rattle.rest_bodies.specs.Profiles.{is_among}
use Rattle.rest_bodies.proofs.profiles.is_among.Given as goal

abbrev pub invariant-loop-value : goal.invariant-loop-value
invariant-loop-value l = is_among l.text (items_view (drop l.value-index l.values)) ≡ is_among l.text (items_view l.values)
