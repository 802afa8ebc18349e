-- The values of the fields by which a filter chooses: each is read from the object as a reply shows it.
use Rattle.std.specs.Prelude.{ℕ, List, Option, Some, None, true, false, if◌then◌else◌, codes, drop}
use Rattle.std.specs.Prelude.{length, nat_eq, option_and_then}
use Rattle.std.specs.List.{starts_with}
use Rattle.std.specs.Str.{bytes_eq}
use Rattle.serde_json.specs.Data.{Data, null, boolean, number, string, array, object, Members, no_members, member}
use Rattle.serde_json.specs.Written.{number_text}

-- a text is its own text, a number has that of its digits, a truth its word, and no other value has a text
abbrev pub text_of : Data → Option (List ℕ)
text_of null = None
text_of (boolean true) = Some (codes "true")
text_of (boolean false) = Some (codes "false")
text_of (number n) = Some (number_text n)
text_of (string text) = Some text
text_of (array _) = None
text_of (object _) = None

-- the value of the first member of this name
abbrev pub member_named : List ℕ → Members → Option Data
member_named name no_members = None
member_named name (member key value members) = if bytes_eq name key then Some value else member_named name members

-- the value of this name in an object
abbrev pub member_of : List ℕ → Data → Option Data
member_of name null = None
member_of name (boolean _) = None
member_of name (number _) = None
member_of name (string _) = None
member_of name (array _) = None
member_of name (object members) = member_named name members

-- the value of a key within a member of an object
abbrev pub value_within : List ℕ → List ℕ → Data → Option Data
value_within name key shown = option_and_then (member_of key) (member_of name shown)

-- what stands behind a front, where a text begins with it
abbrev pub behind : List ℕ → List ℕ → Option (List ℕ)
behind front text = if starts_with nat_eq text front then Some (drop (length front) text) else None

-- where a field leads that may name a key of the settings, or of the expanded ones
abbrev pub led_by : Option (List ℕ) → Option (List ℕ) → List ℕ → Data → Option Data
led_by (Some key) expanded field shown = value_within (codes "config") key shown
led_by None (Some key) field shown = value_within (codes "expanded_config") key shown
led_by None None field shown = member_of field shown

-- Where a field leads in an object: `config.K` and `expanded_config.K` to that key, which may have dots of its own;
-- another one to the member of its name.
abbrev pub led_to : List ℕ → Data → Option Data
led_to field shown = led_by (behind (codes "config.") field) (behind (codes "expanded_config.") field) field shown

-- the value of a field of an object, if it has one
unfoldable pub value_of : Data → List ℕ → Option (List ℕ)
value_of shown field = option_and_then text_of (led_to field shown)

-- the text of a member of an object, if it has one
abbrev pub member_text : List ℕ → Data → Option (List ℕ)
member_text name shown = option_and_then text_of (member_of name shown)

-- the text of a key within a member of an object, if it has one
abbrev pub text_within : List ℕ → List ℕ → Data → Option (List ℕ)
text_within name key shown = option_and_then text_of (value_within name key shown)
