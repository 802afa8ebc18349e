-- The shapes of bodies: which one a method sends to an endpoint.
use Rattle.std.specs.Prelude.{Option, Some, None, if◌then◌else◌}
use Rattle.serde_json.specs.Data.{Data}
use Rattle.size_values.specs.declared.kinds.ObjectKind.{ObjectKind}
use Rattle.size_values.specs.declared.kinds.ObjectKind.TheVariants as kind
use Rattle.rest_bodies.specs.Origins.{asks_for_copy}
use Rattle.rest_bodies.specs.declared.fields.Shape.{Shape}
use Rattle.rest_bodies.specs.declared.fields.Shape.TheVariants as shape
use Rattle.rest_routes.specs.declared.endpoints.Endpoint.{Endpoint}
use Rattle.rest_routes.specs.declared.endpoints.Endpoint.TheVariants as endpoint
use Rattle.rest_routes.specs.declared.endpoints.Verb.{Verb}
use Rattle.rest_routes.specs.declared.endpoints.Verb.TheVariants as verb

-- a new instance, which is a copy where its source says so, whatever else the body says
abbrev pub instance_shape : Data → Shape
instance_shape body = if asks_for_copy body then shape.InstanceCopy else shape.NewInstance

-- the shape of the body that makes an object of a kind: operations are not made by requests of their own
abbrev pub creation_shape : ObjectKind → Data → Option Shape
creation_shape kind.Project body = Some shape.NewProject
creation_shape kind.Profile body = Some shape.NewProfile
creation_shape kind.Network body = Some shape.NewNetwork
creation_shape kind.Pool body = Some shape.NewPool
creation_shape kind.Volume body = Some shape.NewVolume
creation_shape kind.Instance body = Some (instance_shape body)
creation_shape kind.Snapshot body = Some shape.NewSnapshot
creation_shape kind.Operation body = None

-- the shape of the body by which an object of a kind takes another name: pools, snapshots and operations keep theirs
abbrev pub rename_shape : ObjectKind → Option Shape
rename_shape kind.Project = Some shape.Rename
rename_shape kind.Profile = Some shape.Rename
rename_shape kind.Network = Some shape.Rename
rename_shape kind.Pool = None
rename_shape kind.Volume = Some shape.Rename
rename_shape kind.Instance = Some shape.InstanceRename
rename_shape kind.Snapshot = None
rename_shape kind.Operation = None

-- the shape of the body by which PUT changes an instance, and by which PATCH does
abbrev pub instance_change : Verb → Shape
instance_change verb.Put = shape.InstancePut
instance_change other = shape.InstancePatch

-- the shape of the body that changes an object of a kind: PUT and PATCH send alike ones, but for instances
abbrev pub change_shape : ObjectKind → Verb → Option Shape
change_shape kind.Project verb = Some shape.Change
change_shape kind.Profile verb = Some shape.ProfileChange
change_shape kind.Network verb = Some shape.Change
change_shape kind.Pool verb = Some shape.Change
change_shape kind.Volume verb = Some shape.Change
change_shape kind.Instance verb = Some (instance_change verb)
change_shape kind.Snapshot verb = None
change_shape kind.Operation verb = None

-- the shape of the body that a method sends to an object: POST renames it, PUT and PATCH change it
abbrev pub object_shape : ObjectKind → Verb → Option Shape
object_shape kind verb.Get = None
object_shape kind verb.Post = rename_shape kind
object_shape kind verb.Put = change_shape kind verb.Put
object_shape kind verb.Patch = change_shape kind verb.Patch
object_shape kind verb.Delete = None

-- the shape of the body that a method sends to an endpoint, if one is sent there
abbrev pub shape_of : Endpoint → Verb → Data → Option Shape
shape_of (endpoint.List kind) verb body = creation_shape kind body
shape_of (endpoint.One kind) verb body = object_shape kind verb
shape_of endpoint.State verb body = Some shape.StateChange
shape_of other verb body = None
