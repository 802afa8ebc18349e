use Rattle.std.proofs.Common.{◌≡◌, drop}
use Rattle.serde_json.specs.View.{items_view}
use Rattle.rest_bodies.specs.Profiles.{are_distinct}
use Rattle.rest_bodies.proofs.profiles.are_distinct.Given as goal

abbrev pub invariant-loop-index : goal.invariant-loop-index
invariant-loop-index l = are_distinct (items_view (drop l.index l.values)) ≡ are_distinct (items_view l.values)
