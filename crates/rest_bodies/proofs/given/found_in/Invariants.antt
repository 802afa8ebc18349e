use Rattle.std.proofs.Common.{◌≡◌}
use Rattle.std.specs.Option.{option_or}
use Rattle.serde_json.specs.Find.{get_member}
use Rattle.serde_json.specs.View.{members_view}
use Rattle.rest_bodies.specs.Given.{value_at}
use Rattle.rest_bodies.specs.Keys.{word_of}
use Rattle.rest_bodies.specs.declared.keys.Key.{Key}
use Rattle.rest_bodies.proofs.given.found_in.Given as goal

abbrev pub invariant-loop-name : goal.invariant-loop-name
invariant-loop-name l = (key : Key) → option_or (value_at l.found key) (get_member (word_of key) (members_view l.name-iterator)) ≡ get_member (word_of key) (members_view l.members.entries)
