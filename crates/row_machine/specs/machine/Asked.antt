-- What a command speaks of: its object, the name that it gives, the instance that it would change or copy from.
use Rattle.std.specs.Prelude.{◌==◌, if◌then◌else◌}
use Rattle.row_machine.specs.Words.{ℕ, Bool, true, false, List, length, Option, Some, None, codes, unwrap_or, filter}
use Rattle.row_machine.specs.Words.{fold, option_map_or, bytes_eq, ObjectKind, setting, unseen, seen, next_name, Target}
use Rattle.row_machine.specs.Words.{Origin, Body, What, ObjectKind as kind, Origin as origin, What as what, Instance}
use Rattle.row_machine.specs.Words.{Snapshot}
use Rattle.row_machine.specs.Estate.{State, instance_named, expanded_of, is_of_kind}

-- the object that a command speaks of, or the objects of a list
abbrev pub object_of : What → Option Target
object_of (what.List of recursion) = Some of
object_of (what.Get of) = Some of
object_of (what.State of) = Some of
object_of (what.Create of body) = Some of
object_of (what.Put of body) = Some of
object_of (what.Patch of body) = Some of
object_of (what.Move of to) = Some of
object_of (what.Delete of) = Some of
object_of (what.Act of action) = Some of
object_of (what.Restore of snapshot) = Some of
object_of other = None

abbrev pub snapshots_of : State → List ℕ → List ℕ → List Snapshot
snapshots_of state project instance =
    filter (λ snapshot. if bytes_eq snapshot.project project then bytes_eq snapshot.instance instance else false)
    state.snapshots

-- the next name of the pattern after those of the instance's snapshots
abbrev pub next_snapshot : State → Instance → List ℕ
next_snapshot state instance =
    next_name
    (fold (λ numbers snapshot. seen snapshot.name numbers) (unseen pattern)
    (snapshots_of state instance.project instance.name)) where
      pattern : List ℕ
      pattern =
          unwrap_or (setting (expanded_of state.projects state.profiles instance).config (codes "snapshots.pattern"))
          (codes "snap%d")

-- a new snapshot without a name gets the next one
abbrev pub with_name : State → List ℕ → Target → Target
with_name state project of =
    if length of.name == 0
    then option_map_or (λ instance. record of { name = next_snapshot state instance })
    (instance_named state.instances project of.instance) of
    else of

-- the object under the name that a creation or a rename gives it
abbrev pub new_name_of : State → List ℕ → What → Option Target
new_name_of state project (what.Create of body) =
    Some (if is_of_kind kind.Snapshot of then with_name state project of else of)
new_name_of state project (what.Move of to) = Some (record of { name = to })
new_name_of state project other = None

abbrev pub copied_from : ObjectKind → Origin → Option (List ℕ)
copied_from kind.Instance (origin.Copy from snapshot pool) = Some from
copied_from kind other = None

-- the instance that a request on an object of its own changes
abbrev pub instance_in : Target → Option (List ℕ)
instance_in of = instance of.kind where
  instance : ObjectKind → Option (List ℕ)
  instance kind.Instance = Some of.name
  instance kind.Snapshot = Some of.instance
  instance other = None

-- the instance that a creation copies from, or to which it adds a snapshot
abbrev pub instance_made_from : Target → Body → Option (List ℕ)
instance_made_from of body = source of.kind where
  source : ObjectKind → Option (List ℕ)
  source kind.Snapshot = Some of.instance
  source kind = copied_from kind body.origin

-- the instance that a command would change or copy from
abbrev pub instance_changed : What → Option (List ℕ)
instance_changed (what.Create of body) = instance_made_from of body
instance_changed (what.Put of body) = instance_in of
instance_changed (what.Patch of body) = instance_in of
instance_changed (what.Move of to) = instance_in of
instance_changed (what.Delete of) = instance_in of
instance_changed (what.Act of action) = Some of.name
instance_changed (what.Restore of snapshot) = Some of.name
instance_changed other = None

-- whether a command renames or deletes the object of its path
abbrev pub renames_or_deletes : What → Bool
renames_or_deletes (what.Move of to) = true
renames_or_deletes (what.Delete of) = true
renames_or_deletes other = false
