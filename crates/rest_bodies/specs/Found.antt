-- The members of a value that were found.
use Rattle.std.specs.Prelude.{◌≡◌}
use Rattle.serde_json.specs.Find.{get}
use Rattle.serde_json.specs.View.{view}
use Rattle.rest_bodies.specs.Given.{value_at}
use Rattle.rest_bodies.specs.Keys.{word_of}
use Rattle.rest_bodies.specs.declared.keys.Key.{Key}
use Rattle.rest_bodies.specs.declared.given.Given.TheInside.{Inside}

-- at the place of each key stands the member of this key
abbrev pub IsFound : Inside → Type 0
IsFound given = (key : Key) → value_at given.found key ≡ get (word_of key) (view given.value.now)
