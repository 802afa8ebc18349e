-- What is found in a value under each key.
use Rattle.std.specs.Prelude.{List, Option, None, option_map, get_or}
use Rattle.std.specs.Borrow.{Bor}
use Rattle.serde_json.specs.Data.{Data}
use Rattle.serde_json.specs.View.{view}
use Rattle.serde_json.specs.declared.value.Value.{Value}
use Rattle.rest_bodies.specs.Keys.{place_of}
use Rattle.rest_bodies.specs.declared.keys.Key.{Key}

-- a place for each key
abbrev pub Places : Type 0
Places = List (Option (Bor Value))

-- the value at the place of a key
abbrev pub value_at : Places → Key → Option Data
value_at found key = option_map (λ value. view value.now) (get_or found (place_of key) None)
