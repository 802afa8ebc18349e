use Rattle.std.proofs.Common.{◌≡◌, ◌++◌, drop}
use Rattle.serde_json.specs.View.{items_view}
use Rattle.rest_bodies.specs.Profiles.{texts_in}
use Rattle.rest_bodies.proofs.profiles.texts_in.Given as goal

abbrev pub invariant-loop-value : goal.invariant-loop-value
invariant-loop-value l = l.texts ++ texts_in (items_view (drop l.value-index l.values)) ≡ texts_in (items_view l.values)
