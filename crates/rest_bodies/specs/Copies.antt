-- What a body says of the instance that a new one is copied from.
use Rattle.std.specs.Prelude.{ℕ, Bool, ◌==◌, ◌&&◌, not, List, [], Option, Some, None, option_and_then, is_some}
use Rattle.std.specs.Prelude.{if◌then◌else◌, codes}
use Rattle.std.specs.List.{before_first, after_first}
use Rattle.serde_json.specs.Data.{Data}
use Rattle.records.specs.Forms.{has_slash, is_empty}
use Rattle.records.specs.declared.commands.Origin.{Origin}
use Rattle.records.specs.declared.commands.Origin.TheVariants as origin
use Rattle.rest_bodies.specs.Members.{non_null_member, text_at, unless}

-- ---- the text that names what is copied

-- the byte that stands between two names
abbrev pub is_slash : ℕ → Bool
is_slash byte = byte == 47

-- what can stand between slashes: a text that is not empty
unfoldable pub is_part : List ℕ → Bool
is_part text = not (is_empty text) && not (has_slash text)

-- the name and the snapshot, if both can be such parts
abbrev pub two_parts : List ℕ → List ℕ → Option (List ℕ × List ℕ)
two_parts name snapshot = if is_part name && is_part snapshot then Some (name, snapshot) else None

-- The name of an instance and that of its snapshot, in a text `NAME` or `NAME/SNAPSHOT`. The snapshot is empty where
-- the instance itself is meant.
unfoldable pub copied_in : List ℕ → Option (List ℕ × List ℕ)
copied_in text =
    if is_part text then Some (text, []) else two_parts (before_first is_slash text) (after_first is_slash text)

-- what the source of a copy names, if it does
unfoldable pub copied_at : Data → Option (List ℕ × List ℕ)
copied_at source = option_and_then copied_in (text_at (codes "source") source)

-- ---- its form, and what it says

-- the key of the text, unless it names what is copied
abbrev pub copied_fault : Data → Option (List ℕ)
copied_fault source = unless (is_some (copied_at source)) (codes "source")

-- a copy of the instance or of the snapshot that is named, within no pool
abbrev pub copied_from : Option (List ℕ × List ℕ) → Origin
copied_from None = origin.None
copied_from (Some names) = origin.Copy names.0 names.1 []

-- what a body copies a new instance from
unfoldable pub copy_origin : Data → Origin
copy_origin body = copied_from (option_and_then copied_at (non_null_member (codes "source") body))
