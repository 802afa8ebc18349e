-- What a body says of an instance alone: its kind, whether it is ephemeral, and where it gets its content.
use Rattle.std.specs.Prelude.{ℕ, Bool, false, not, List, [], Option, Some, None, option_and_then, is_some, unwrap_or}
use Rattle.std.specs.Prelude.{if◌then◌else◌, codes}
use Rattle.std.specs.Option.{option_map_or}
use Rattle.std.specs.Str.{bytes_eq}
use Rattle.serde_json.specs.Data.{Data}
use Rattle.serde_json.specs.Find.{as_bool, as_object, as_str}
use Rattle.size_values.specs.declared.kinds.Kind.{Kind}
use Rattle.size_values.specs.declared.kinds.Kind.TheVariants as kind
use Rattle.records.specs.declared.commands.Origin.{Origin}
use Rattle.records.specs.declared.commands.Origin.TheVariants as origin
use Rattle.rest_bodies.specs.Copies.{copied_fault}
use Rattle.rest_bodies.specs.Members.{non_null_member, text_at, unless}
use Rattle.rest_bodies.specs.Origins.{has_word}

-- ---- kinds and boolean values

-- the kind of this name
unfoldable pub kind_of : List ℕ → Option Kind
kind_of name =
    if bytes_eq name (codes "container") then Some kind.Container
    else (if bytes_eq name (codes "virtual-machine") then Some kind.Machine
    else None)

-- the kind that a value names
unfoldable pub kind_in : Data → Option Kind
kind_in value = option_and_then kind_of (as_str value)

-- the kind in a body, if one is given
unfoldable pub kind_at : Data → Option Kind
kind_at body = option_and_then kind_in (non_null_member (codes "type") body)

-- `false`, which a number is not
unfoldable pub is_false : Data → Bool
is_false value = option_map_or not (as_bool value) false

-- whether an instance goes when it stops, if the body says so
unfoldable pub ephemeral_at : Data → Option Bool
ephemeral_at body = option_and_then as_bool (non_null_member (codes "ephemeral") body)

-- ---- the form of a source

-- the key, unless the value is a text
abbrev pub text_fault : List ℕ → Data → Option (List ℕ)
text_fault key value = unless (is_some (as_str value)) key

-- the key, unless a text is given
abbrev pub needed_fault : List ℕ → Option Data → Option (List ℕ)
needed_fault key None = Some key
needed_fault key (Some value) = text_fault key value

-- An image goes by its fingerprint, or else by its alias. Where a fingerprint is given, the alias is not looked at.
abbrev pub named_fault : Option Data → Data → Option (List ℕ)
named_fault None source = needed_fault (codes "alias") (non_null_member (codes "alias") source)
named_fault (Some fingerprint) source = text_fault (codes "fingerprint") fingerprint

-- the fault of the names of an image
abbrev pub image_fault : Data → Option (List ℕ)
image_fault source = named_fault (non_null_member (codes "fingerprint") source) source

-- nothing, an image or a copy
unfoldable pub typed_fault : Data → Option (List ℕ)
typed_fault source =
    if has_word (codes "none") (non_null_member (codes "type") source) then None
    else (if has_word (codes "image") (non_null_member (codes "type") source) then image_fault source
    else (if has_word (codes "copy") (non_null_member (codes "type") source) then copied_fault source
    else Some (codes "type")))

-- the key of the first part of a source that is at fault, or that of the source itself, which has to be an object
unfoldable pub source_fault : Data → Option (List ℕ)
source_fault source = if is_some (as_object source) then typed_fault source else Some (codes "source")

-- ---- what a source says

-- the name of an image: its fingerprint, or else its alias
unfoldable pub image_name : Data → List ℕ
image_name source = unwrap_or (text_at (codes "fingerprint") source) (unwrap_or (text_at (codes "alias") source) [])

-- what a source that is no copy makes an instance from: an image, or nothing
unfoldable pub instance_made : Data → Origin
instance_made source =
    if has_word (codes "image") (non_null_member (codes "type") source)
    then origin.Image (image_name source)
    else origin.None

-- what a body that asks for no copy makes a new instance from
unfoldable pub instance_origin : Data → Origin
instance_origin body = option_map_or instance_made (non_null_member (codes "source") body) origin.None

-- ---- what an instance is put back to

-- the snapshot that a body restores, if it names one
unfoldable pub restore_at : Data → Option (List ℕ)
restore_at body = text_at (codes "restore") body
