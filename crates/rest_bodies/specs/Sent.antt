-- A body that was sent, with its source.
use Rattle.std.specs.Prelude.{◌≡◌, option_map, codes}
use Rattle.serde_json.specs.View.{view}
use Rattle.rest_bodies.specs.Members.{non_null_member}
use Rattle.rest_bodies.specs.declared.sent.SentBody.TheInside.{Inside}

-- the source is the one that the body gives
abbrev pub HasSource : Inside → Type 0
HasSource body = option_map view body.source ≡ non_null_member (codes "source") (view body.members)
