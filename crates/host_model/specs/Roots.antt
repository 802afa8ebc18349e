use Rattle.std.specs.Prelude.{ℕ, Bool, false, not, ◌&&◌, ◌==◌, List, [], filter, find, length, Option, unwrap_or}
use Rattle.std.specs.Prelude.{if◌then◌else◌}
use Rattle.std.specs.Option.{option_map}
use Rattle.std.specs.Str.{bytes_eq}
use Rattle.plain_lists.specs.Edits.{replaced, dropped}
use Rattle.size_values.specs.declared.kinds.Power.TheVariants.{Stopped}
use Rattle.host_model.specs.declared.place.Place.{Place}
use Rattle.host_model.specs.declared.root.Spec.{Spec}
use Rattle.host_model.specs.declared.root.HostRoot.{HostRoot}
use mathlib.Core.Bool.{beq}

-- whether both are the same place
abbrev pub same_place : Place → Place → Bool
same_place place other =
    beq place.volume other.volume
    && bytes_eq place.project other.project
    && bytes_eq place.pool other.pool
    && bytes_eq place.name other.name

-- nothing applied
abbrev pub no_spec : Spec
no_spec = record { config = []; devices = [] }

-- whether a root stands at this place
abbrev pub is_at : Place → HostRoot → Bool
is_at at root = same_place root.place at

-- a stopped root with this content, nothing applied and no snapshots
abbrev pub new_root : Place → List ℕ → HostRoot
new_root at content = record { place = at; power = Stopped; content = content; applied = no_spec; snapshots = [] }

-- an absent root counts as a stopped one with empty content
abbrev pub absent : Place → HostRoot
absent at = new_root at []

-- the root at a place
abbrev pub root_at : Place → List HostRoot → HostRoot
root_at at roots = unwrap_or (find (is_at at) roots) (absent at)

-- the roots with this one in place of the one at its place, or else at the end
abbrev pub with_root : HostRoot → List HostRoot → List HostRoot
with_root root roots = replaced (is_at root.place) (λ _. false) root roots

-- the roots without the one at this place
abbrev pub without_root : Place → List HostRoot → List HostRoot
without_root at roots = dropped (is_at at) roots

-- the snapshots of other names
abbrev pub others : List ℕ → List (List ℕ × List ℕ) → List (List ℕ × List ℕ)
others name snapshots = filter (λ snapshot. not (bytes_eq snapshot.0 name)) snapshots

-- the content of the snapshot of this name
abbrev pub snapshot_of : List ℕ → HostRoot → Option (List ℕ)
snapshot_of name root = option_map (λ snapshot. snapshot.1) (find (λ snapshot. bytes_eq snapshot.0 name) root.snapshots)

-- the content of a root, or of its named snapshot, which is empty where it has none of that name
abbrev pub content_in : List ℕ → HostRoot → List ℕ
content_in snapshot root = if length snapshot == 0 then root.content else unwrap_or (snapshot_of snapshot root) []

-- the same of the root at a place
abbrev pub content_of : Place → List ℕ → List HostRoot → List ℕ
content_of from snapshot roots = content_in snapshot (root_at from roots)
