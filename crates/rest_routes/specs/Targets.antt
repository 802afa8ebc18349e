-- The objects that the path of a request names.
use Rattle.std.specs.Prelude.{ℕ, List, [], Result, ok_or}
use Rattle.size_values.specs.declared.kinds.ObjectKind.{ObjectKind}
use Rattle.size_values.specs.declared.kinds.ObjectKind.TheVariants as kind
use Rattle.records.specs.declared.commands.Target.{Target}
use Rattle.records.specs.declared.refusals.Refusal.{Refusal}
use Rattle.rest_json.specs.Ids.{number_of}
use Rattle.rest_routes.specs.Paths.{name_of, pool_of, instance_of}
use Rattle.rest_routes.specs.Refusals.{no_operation}

-- the object of this kind and name that stands where the path says: a volume in its pool, a snapshot in its instance
abbrev pub target_at_path : ObjectKind → List ℕ → List ℕ → Target
target_at_path kind path name =
    record { kind = kind; pool = pool_of kind path; instance = instance_of kind path; name = name }

-- the object that a path names
abbrev pub object_of : ObjectKind → List ℕ → Target
object_of kind path = target_at_path kind path (name_of kind path)

-- all objects of a kind at a path: volumes of its pool, snapshots of its instance
abbrev pub objects_of : ObjectKind → List ℕ → Target
objects_of kind path = target_at_path kind path []

-- the number of the operation that a path names: its text is an id of this boot, and every other text names none
abbrev pub operation_at : List ℕ → ℕ → Result ℕ Refusal
operation_at path boot =
    ok_or (number_of (name_of kind.Operation path) boot) (no_operation (name_of kind.Operation path))
