-- The bodies of requests as JSON objects, and their members.
use Rattle.std.specs.Prelude.{ℕ, Bool, false, List, [], Option, Some, None, option_and_then, is_some, unwrap_or}
use Rattle.std.specs.Prelude.{if◌then◌else◌, codes}
use Rattle.std.specs.Option.{option_map_or}
use Rattle.std.specs.Str.{bytes_eq, is_utf8}
use Rattle.serde_json.specs.Data.{Data}
use Rattle.serde_json.specs.Find.{get, as_null, as_object, as_str}
use Rattle.serde_json.specs.Read.{read}

-- the JSON value that a body spells, if it is one; of a member that comes twice the last counts
unfoldable pub json_in : List ℕ → Option Data
json_in body = if is_utf8 body then read body else None

-- a value that is an object
unfoldable pub if_object : Data → Option Data
if_object value = if is_some (as_object value) then Some value else None

-- the JSON object that a body spells, if it is one
unfoldable pub object_in : List ℕ → Option Data
object_in body = option_and_then if_object (json_in body)

-- a value that is not null, which counts as absent
unfoldable pub if_given : Data → Option Data
if_given value = if is_some (as_null value) then None else Some value

-- the value of a field that is given
unfoldable pub non_null_member : List ℕ → Data → Option Data
non_null_member key body = option_and_then if_given (get key body)

-- the text of a field, if it is given
unfoldable pub text_at : List ℕ → Data → Option (List ℕ)
text_at key body = option_and_then as_str (non_null_member key body)

-- the value is this text
unfoldable pub is_word : List ℕ → Data → Bool
is_word word value = option_map_or (λ text. bytes_eq text word) (as_str value) false

-- a key, if what it names is at fault
abbrev pub unless : Bool → List ℕ → Option (List ℕ)
unless fine key = if fine then None else Some key

-- the name in a body
abbrev pub name_at : Data → List ℕ
name_at body = unwrap_or (text_at (codes "name") body) []
