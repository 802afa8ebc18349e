-- The profiles of an instance in a body: texts, each once, and not too many.
use Rattle.std.specs.Prelude.{ℕ, suc, nat_le, Bool, true, false, not, ◌&&◌, ◌||◌, List, [], ◌∷◌, ◌++◌, Option, Some}
use Rattle.std.specs.Prelude.{None, option_map, is_some, codes}
use Rattle.std.specs.Option.{option_map_or}
use Rattle.std.specs.Str.{bytes_eq}
use Rattle.serde_json.specs.Data.{Data, Items, no_items, item}
use Rattle.serde_json.specs.Find.{as_array, as_str}
use Rattle.records.specs.Forms.{most_profiles}
use Rattle.rest_bodies.specs.Members.{non_null_member}

-- ---- their form

-- how many values a list has
abbrev pub count_of : Items → ℕ
count_of no_items = 0
count_of (item value more) = suc (count_of more)

-- a value that is a text
abbrev pub is_text : Data → Bool
is_text value = is_some (as_str value)

-- all values are texts
abbrev pub are_texts : Items → Bool
are_texts no_items = true
are_texts (item value more) = is_text value && are_texts more

-- the text that a value is, if it is one, is this text
abbrev pub is_here : List ℕ → Option (List ℕ) → Bool
is_here text None = false
is_here text (Some found) = bytes_eq text found

-- one of the values is this text
abbrev pub is_among : List ℕ → Items → Bool
is_among text no_items = false
is_among text (item value more) = is_here text (as_str value) || is_among text more

-- a text that is one of the values after it
abbrev pub comes_again : Option (List ℕ) → Items → Bool
comes_again None more = false
comes_again (Some text) more = is_among text more

-- no text comes twice
abbrev pub are_distinct : Items → Bool
are_distinct no_items = true
are_distinct (item value more) = not (comes_again (as_str value) more) && are_distinct more

-- this many values are texts, each once, and not too many
abbrev pub are_names : ℕ → Items → Bool
are_names count values = nat_le count most_profiles && are_texts values && are_distinct values

-- a list of texts, each once, and not too many
unfoldable pub fits_profiles : Data → Bool
fits_profiles value = option_map_or (λ values. are_names (count_of values) values) (as_array value) false

-- ---- what they say

-- the text that a value is, if it is one
abbrev pub text_in : Option (List ℕ) → List (List ℕ)
text_in None = []
text_in (Some text) = text ∷ []

-- the texts of a list
abbrev pub texts_in : Items → List (List ℕ)
texts_in no_items = []
texts_in (item value more) = text_in (as_str value) ++ texts_in more

-- the profiles that a value names
unfoldable pub profiles_in : Data → List (List ℕ)
profiles_in value = option_map_or texts_in (as_array value) []

-- the profiles in a body, if they are given
unfoldable pub profiles_at : Data → Option (List (List ℕ))
profiles_at body = option_map profiles_in (non_null_member (codes "profiles") body)
