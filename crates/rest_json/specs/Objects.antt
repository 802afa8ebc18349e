-- Objects and lists of JSON.
use Rattle.std.specs.Prelude.{ℕ, List, [], ◌∷◌}
use Rattle.serde_json.specs.Data.{Data, number, unsigned, array, object, Members, no_members, member}
use Rattle.serde_json.specs.View.{items_of, members_view}
use Rattle.rest_json.specs.declared.object.Object.{Object}

-- the members of an object that is being made
abbrev pub members_in : Object → Members
members_in made = members_view made.map.entries

-- the members of a list of keys with their data
abbrev pub members : List (List ℕ × Data) → Members
members [] = no_members
members (pair ∷ pairs) = member pair.0 pair.1 (members pairs)

-- the object with these members
abbrev pub object_of : List (List ℕ × Data) → Data
object_of pairs = object (members pairs)

-- the list of these data
abbrev pub list_of : List Data → Data
list_of items = array (items_of items)

-- a whole number
abbrev pub whole : ℕ → Data
whole n = number (unsigned n)
