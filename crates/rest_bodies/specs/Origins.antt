-- What a body says of where a new volume gets its content.
use Rattle.std.specs.Prelude.{ℕ, Bool, true, false, ◌&&◌, List, [], Option, Some, None, is_some, unwrap_or, codes}
use Rattle.std.specs.Option.{option_map_or}
use Rattle.serde_json.specs.Data.{Data}
use Rattle.serde_json.specs.Find.{as_str}
use Rattle.records.specs.declared.commands.Origin.{Origin}
use Rattle.records.specs.declared.commands.Origin.TheVariants as origin
use Rattle.rest_bodies.specs.Members.{non_null_member, text_at, is_word, name_at}

-- a field that is absent or a text
abbrev pub may_be_text : Option Data → Bool
may_be_text None = true
may_be_text (Some value) = is_some (as_str value)

-- a field that is given as this word
abbrev pub has_word : List ℕ → Option Data → Bool
has_word word None = false
has_word word (Some value) = is_word word value

-- a source that is an object with the type `copy`, whatever else it says
abbrev pub is_copy_source : Data → Bool
is_copy_source source = has_word (codes "copy") (non_null_member (codes "type") source)

-- a body that asks for a copy of an object, whatever else it says
unfoldable pub asks_for_copy : Data → Bool
asks_for_copy body = option_map_or is_copy_source (non_null_member (codes "source") body) false

-- the form of a volume's source: an object with the type `copy`, the name of a volume, and maybe its pool
unfoldable pub fits_source : Data → Bool
fits_source source =
    is_copy_source source
    && is_some (text_at (codes "name") source)
    && may_be_text (non_null_member (codes "pool") source)

-- The pool of the volume that is copied. Where the source names none, it is the pool of the path. An empty text is a
-- text: it is kept, and names no pool that there is.
abbrev pub source_pool : Data → List ℕ → List ℕ
source_pool source pool = unwrap_or (text_at (codes "pool") source) pool

-- a copy of the volume that a source names
abbrev pub volume_copied : Option Data → List ℕ → Origin
volume_copied None pool = origin.None
volume_copied (Some source) pool = origin.Copy (name_at source) [] (source_pool source pool)

-- what a body makes a new volume from, in the pool of its path: nothing, unless it has a source
unfoldable pub volume_origin : Data → List ℕ → Origin
volume_origin body pool = volume_copied (non_null_member (codes "source") body) pool
