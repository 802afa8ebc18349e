use Rattle.std.specs.Prelude.{ℕ, List, [], ◌∷◌, ◌++◌, unwrap_or}
use Rattle.size_values.specs.declared.kinds.Power.{Power}
use Rattle.size_values.specs.declared.kinds.Power.TheVariants.{Stopped, Running, Frozen}
use Rattle.host_model.specs.declared.place.Place.{Place}
use Rattle.host_model.specs.declared.root.Spec.{Spec}
use Rattle.host_model.specs.declared.root.HostRoot.{HostRoot}
use Rattle.host_model.specs.declared.call.HostCall.{HostCall}
use Rattle.host_model.specs.declared.call.HostCall.TheVariants.{Clear, MakeRoot, CopyRoot, Start, Stop, Freeze, Thaw}
use Rattle.host_model.specs.declared.call.HostCall.TheVariants.{Apply, Rename, Snap, Unsnap, Restore}
use Rattle.host_model.specs.Roots.{root_at, with_root, without_root, new_root, others, snapshot_of, content_of}

-- what a call makes of one root

abbrev pub with_power : Power → HostRoot → HostRoot
with_power power root = record root { power = power }

abbrev pub with_spec : Spec → HostRoot → HostRoot
with_spec spec root = record root { applied = spec }

-- the root under the new place
abbrev pub renamed : Place → HostRoot → HostRoot
renamed to root = record root { place = to }

-- the named snapshot has the root's content, in place of an earlier one of that name
abbrev pub snapped : List ℕ → HostRoot → HostRoot
snapped name root = record root { snapshots = others name root.snapshots ++ (name, root.content) ∷ [] }

-- the named snapshot is gone
abbrev pub unsnapped : List ℕ → HostRoot → HostRoot
unsnapped name root = record root { snapshots = others name root.snapshots }

-- the content is the named snapshot's, and unchanged where there is none
abbrev pub restored : List ℕ → HostRoot → HostRoot
restored name root = record root { content = unwrap_or (snapshot_of name root) root.content }

-- what each call makes of the roots
abbrev pub effect_of : HostCall → List HostRoot → List HostRoot
effect_of (Clear at) roots = without_root at roots
effect_of (MakeRoot at origin) roots = with_root (new_root at origin) roots
effect_of (CopyRoot from snapshot to) roots = with_root (new_root to (content_of from snapshot roots)) roots
effect_of (Start at spec) roots = with_root (with_power Running (with_spec spec (root_at at roots))) roots
effect_of (Stop at) roots = with_root (with_power Stopped (root_at at roots)) roots
effect_of (Freeze at) roots = with_root (with_power Frozen (root_at at roots)) roots
effect_of (Thaw at) roots = with_root (with_power Running (root_at at roots)) roots
effect_of (Apply at spec) roots = with_root (with_spec spec (root_at at roots)) roots
effect_of (Rename from to) roots = with_root (renamed to (root_at from roots)) (without_root from roots)
effect_of (Snap at name) roots = with_root (snapped name (root_at at roots)) roots
effect_of (Unsnap at name) roots = with_root (unsnapped name (root_at at roots)) roots
effect_of (Restore at name) roots = with_root (restored name (root_at at roots)) roots
