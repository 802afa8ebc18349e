-- Bodies read without some of their members: those that the command `incus` sends with a value that says nothing.
use Rattle.std.specs.Prelude.{ℕ, Bool, false, ◌&&◌, List, [], Option, Some, None, option_and_then, unwrap_or}
use Rattle.std.specs.Prelude.{if◌then◌else◌, codes}
use Rattle.std.specs.List.{before_first, after_first}
use Rattle.std.specs.Option.{option_map_or}
use Rattle.std.specs.Str.{bytes_eq}
use Rattle.records.specs.Forms.{has_slash}
use Rattle.serde_json.specs.Data.{Data, string, object, Members, no_members, member, put}
use Rattle.serde_json.specs.Find.{get, as_bool, as_str}
use Rattle.rest_bodies.specs.Copies.{is_slash}
use Rattle.rest_bodies.specs.Origins.{has_word}

-- the members without that of a key
abbrev pub members_without : List ℕ → Members → Members
members_without key no_members = no_members
members_without key (member name value more) =
    if bytes_eq key name then more else member name value (members_without key more)

-- a body without the member of a key
abbrev pub without : List ℕ → Data → Data
without key (object members) = object (members_without key members)
without key other = other

-- without the member of a key where its text is empty
unfoldable pub without_empty : List ℕ → Data → Data
without_empty key body = if has_word [] (get key body) then without key body else body

-- without its source where the source's type is the empty text
unfoldable pub without_untyped_source : Data → Data
without_untyped_source body =
    if has_word [] (option_and_then (get (codes "type")) (get (codes "source") body))
    then without (codes "source") body else body

-- without its `start` where that is true
unfoldable pub without_start : Data → Data
without_start body =
    if unwrap_or (option_and_then as_bool (get (codes "start") body)) false
    then without (codes "start") body else body

-- the snapshot in a text `INSTANCE/SNAPSHOT` that begins with the name of this instance
unfoldable pub own_snapshot : List ℕ → List ℕ → Option (List ℕ)
own_snapshot instance text =
    if has_slash text && bytes_eq (before_first is_slash text) instance
    then Some (after_first is_slash text) else None

-- a body with a text at a key
abbrev pub with_text : List ℕ → Data → List ℕ → Data
with_text key (object members) text = object (put key (string text) members)
with_text key other text = other

-- with the snapshot alone where its `restore` names it behind its instance, which is this one
unfoldable pub with_own_snapshot : List ℕ → Data → Data
with_own_snapshot instance body =
    option_map_or (with_text (codes "restore") body)
    (option_and_then (own_snapshot instance) (option_and_then as_str (get (codes "restore") body))) body
