-- The parts of a request's target: its path, its query, and the names in its path.
use Rattle.std.specs.Prelude.{ℕ, ◌==◌, nat_lt, Bool, ◌&&◌, ◌||◌, not, List, [], ◌∷◌, ◌++◌, length, Option, Some, None}
use Rattle.std.specs.Prelude.{option_and_then, unwrap_or, if◌then◌else◌, codes}
use Rattle.std.specs.List.{list_all, before_first, after_first}
use Rattle.std.specs.Str.{str_eq_ignore_ascii_case}
use Rattle.size_values.specs.declared.kinds.ObjectKind.{ObjectKind}
use Rattle.size_values.specs.declared.kinds.ObjectKind.TheVariants as kind

-- the byte that stands between the parts of a path
abbrev pub is_slash : ℕ → Bool
is_slash byte = byte == 47

-- the byte that stands before the query
abbrev pub is_question_mark : ℕ → Bool
is_question_mark byte = byte == 63

-- what stands before the first slash, or all where there is none
unfoldable pub before_slash : List ℕ → List ℕ
before_slash text = before_first is_slash text

-- what stands after the first slash, or nothing where there is none
unfoldable pub after_slash : List ℕ → List ℕ
after_slash text = after_first is_slash text

-- ---- targets in absolute form, which name a server before the path (RFC 9112, section 3.2.2)

-- the byte that stands behind a scheme, and before the port of a host
abbrev pub is_colon : ℕ → Bool
is_colon byte = byte == 58

-- what stands before the first colon, or all where there is none
unfoldable pub before_colon : List ℕ → List ℕ
before_colon text = before_first is_colon text

-- what stands after the first colon, or nothing where there is none
unfoldable pub after_colon : List ℕ → List ℕ
after_colon text = after_first is_colon text

-- the scheme is one of HTTP, in any case of its letters (RFC 9110, section 4.2)
unfoldable pub is_http : List ℕ → Bool
is_http scheme = str_eq_ignore_ascii_case scheme (codes "http") || str_eq_ignore_ascii_case scheme (codes "https")

-- what stands behind a slash, if the text begins with one
abbrev pub behind_slash : List ℕ → Option (List ℕ)
behind_slash [] = None
behind_slash (byte ∷ rest) = if is_slash byte then Some rest else None

-- a byte of an authority that has no user, whose name an `@` ends, and no fragment, which a `#` begins
abbrev pub is_of_authority : ℕ → Bool
is_of_authority byte = not (byte == 64 || byte == 35)

-- the text names a host, with a port or without one (RFC 9110, section 4.2.1), and no user (section 4.2.4)
unfoldable pub names_host : List ℕ → Bool
names_host text = nat_lt 0 (length (before_colon text)) && list_all is_of_authority text

-- the path behind a host: from the first slash on, and `/` where there is none (RFC 9110, section 4.2.3)
unfoldable pub path_behind_host : List ℕ → Option (List ℕ)
path_behind_host text = if names_host (before_slash text) then Some (codes "/" ++ after_slash text) else None

-- the path of a target in absolute form, of which the query is cut off: a scheme of HTTP, `://`, a host, and the path
unfoldable pub absolute_path : List ℕ → Option (List ℕ)
absolute_path text =
    if is_http (before_colon text)
    then option_and_then path_behind_host (option_and_then behind_slash (behind_slash (after_colon text))) else None

-- ---- the two parts of a target

-- the path that a target without its query has: in absolute form what stands behind the host, and else all of it
abbrev pub path_in : List ℕ → List ℕ
path_in text = unwrap_or (absolute_path text) text

-- the path of a target, from all before the first question mark
unfoldable pub path_of : List ℕ → List ℕ
path_of target = path_in (before_first is_question_mark target)

-- the query of a target: all after the first question mark
unfoldable pub query_of : List ℕ → List ℕ
query_of target = after_first is_question_mark target

-- ---- the names in a path

-- what stands after the first three slashes, as `NAME` in `/1.0/profiles/NAME`
unfoldable pub after_three_slashes : List ℕ → List ℕ
after_three_slashes path = after_slash (after_slash (after_slash path))

-- the name of the object in a path `/1.0/profiles/NAME`, for volumes `/1.0/storage-pools/POOL/volumes/custom/NAME`,
-- and for snapshots `/1.0/instances/INSTANCE/snapshots/NAME`
abbrev pub name_of : ObjectKind → List ℕ → List ℕ
name_of kind.Volume path = before_slash (after_three_slashes (after_three_slashes path))
name_of kind.Snapshot path = before_slash (after_slash (after_slash (after_three_slashes path)))
name_of other path = before_slash (after_three_slashes path)

-- the pool in a path of volumes, `/1.0/storage-pools/POOL/volumes`
abbrev pub pool_of : ObjectKind → List ℕ → List ℕ
pool_of kind.Volume path = before_slash (after_three_slashes path)
pool_of other path = []

-- the instance in a path of snapshots, `/1.0/instances/INSTANCE/snapshots`
abbrev pub instance_of : ObjectKind → List ℕ → List ℕ
instance_of kind.Snapshot path = before_slash (after_three_slashes path)
instance_of other path = []
