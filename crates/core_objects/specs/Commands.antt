-- The commands on objects whose rows are changed at once.
use Rattle.std.specs.Prelude.{Bool, true, false, ◌&&◌}
use Rattle.size_values.specs.declared.kinds.ObjectKind.{ObjectKind}
use Rattle.size_values.specs.declared.kinds.ObjectKind.TheVariants as kind
use Rattle.records.specs.declared.commands.Origin.{Origin}
use Rattle.records.specs.declared.commands.Origin.TheVariants as origin
use Rattle.records.specs.declared.commands.What.{What}
use Rattle.records.specs.declared.commands.What.TheVariants as what

-- the kinds of these objects
abbrev pub is_object_kind : ObjectKind → Bool
is_object_kind kind.Project = true
is_object_kind kind.Profile = true
is_object_kind kind.Network = true
is_object_kind kind.Pool = true
is_object_kind kind.Volume = true
is_object_kind kind.Instance = false
is_object_kind kind.Snapshot = false
is_object_kind kind.Operation = false

-- of these kinds, the one that has a state: projects, with their usage
abbrev pub has_usage : ObjectKind → Bool
has_usage kind.Project = true
has_usage other = false

-- what is made at once: all but a copy
abbrev pub is_made_at_once : Origin → Bool
is_made_at_once origin.None = true
is_made_at_once (origin.Image alias) = true
is_made_at_once (origin.Copy from snapshot pool) = false

-- a command on these objects, or on the server as a whole
abbrev pub is_object_command : What → Bool
is_object_command what.Root = true
is_object_command what.Server = true
is_object_command (what.List of recursion) = is_object_kind of.kind
is_object_command (what.Get of) = is_object_kind of.kind
is_object_command (what.State of) = has_usage of.kind
is_object_command (what.Create of body) = is_object_kind of.kind && is_made_at_once body.origin
is_object_command (what.Put of body) = is_object_kind of.kind
is_object_command (what.Patch of body) = is_object_kind of.kind
is_object_command (what.Move of to) = is_object_kind of.kind
is_object_command (what.Delete of) = is_object_kind of.kind
is_object_command other = false
