-- What POST, PUT and PATCH ask for, whose bodies are JSON objects.
use Rattle.std.specs.Prelude.{ℕ, List, Option, Some, None, Result, Ok, Err, ok_or, codes}
use Rattle.serde_json.specs.Data.{Data}
use Rattle.size_values.specs.declared.kinds.ObjectKind.{ObjectKind}
use Rattle.size_values.specs.declared.kinds.ObjectKind.TheVariants as kind
use Rattle.records.specs.declared.commands.Target.{Target}
use Rattle.records.specs.declared.commands.What.{What}
use Rattle.records.specs.declared.commands.What.TheVariants as what
use Rattle.records.specs.declared.refusals.Rule.{Rule}
use Rattle.records.specs.declared.refusals.Rule.TheVariants as rule
use Rattle.records.specs.declared.refusals.Refusal.{Refusal}
use Rattle.rest_bodies.specs.Actions.{action_at}
use Rattle.rest_bodies.specs.Bodies.{body_of}
use Rattle.rest_bodies.specs.Fields.{body_fault}
use Rattle.rest_bodies.specs.Instances.{restore_at}
use Rattle.rest_bodies.specs.Members.{name_at}
use Rattle.rest_bodies.specs.declared.fields.Shape.{Shape}
use Rattle.rest_bodies.specs.declared.fields.Shape.TheVariants as shape
use Rattle.rest_routes.specs.Answers.{mapped, followed}
use Rattle.rest_routes.specs.Paths.{pool_of}
use Rattle.rest_routes.specs.Refusals.{on_key, plain_refusal}
use Rattle.rest_routes.specs.declared.endpoints.Endpoint.{Endpoint}
use Rattle.rest_routes.specs.declared.endpoints.Endpoint.TheVariants as endpoint
use Rattle.rest_routes.specs.declared.endpoints.Verb.{Verb}
use Rattle.rest_routes.specs.declared.endpoints.Verb.TheVariants as verb
use Rattle.rest_routes.specs.Shapes.{shape_of}
use Rattle.rest_routes.specs.Targets.{target_at_path, object_of}

-- a value that has to be there, or else the request is refused by a rule that tells nothing
abbrev pub needed : {T : Type 0} → Rule → Option T → Result T Refusal
needed rule value = ok_or value (plain_refusal rule)

-- the first field of a body that is at fault is refused by its key
abbrev pub unless_fault : Option (List ℕ) → Result (Unit {0}) Refusal
unless_fault None = Ok tt
unless_fault (Some key) = Err (on_key rule.A5 key)

-- a new object of the name in the body, which stands where the path says
abbrev pub creation_from_body : ObjectKind → List ℕ → Shape → Data → What
creation_from_body kind path shape body =
    what.Create (target_at_path kind path (name_at body)) (body_of shape body (pool_of kind path))

-- the snapshot that a PUT takes its instance back to, if it says so
abbrev pub snapshot_to_restore : Shape → Data → Option (List ℕ)
snapshot_to_restore shape.InstancePut body = restore_at body
snapshot_to_restore other body = None

-- what PUT asks of an object: an instance may be taken back to a snapshot, and else the object is replaced
abbrev pub put_from_body : Option (List ℕ) → Target → Shape → Data → What
put_from_body (Some snapshot) of shape body = what.Restore of snapshot
put_from_body None of shape body = what.Put of (body_of shape body of.pool)

-- what a method with a body asks of the object in the path
abbrev pub change_from_body : Verb → Target → Shape → Data → What
change_from_body verb.Put of shape body = put_from_body (snapshot_to_restore shape body) of shape body
change_from_body verb.Patch of shape body = what.Patch of (body_of shape body of.pool)
change_from_body other of shape body = what.Move of (name_at body)

-- an action on the instance in the path
abbrev pub action_from_body : List ℕ → Data → Result What Refusal
action_from_body path body =
    mapped (λ action. what.Act (object_of kind.Instance path) action)
    (ok_or (action_at body) (on_key rule.A5 (codes "action")))

-- what a body of a shape asks for: a new object, a change of the object in the path, or an action on it
abbrev pub what_from_body : Endpoint → Verb → List ℕ → Shape → Data → Result What Refusal
what_from_body (endpoint.List kind) verb path shape body = Ok (creation_from_body kind path shape body)
what_from_body (endpoint.One kind) verb path shape body = Ok (change_from_body verb (object_of kind path) shape body)
what_from_body endpoint.State verb path shape body = action_from_body path body
what_from_body other verb path shape body = Err (plain_refusal rule.A2)

-- What POST, PUT and PATCH ask for: the body is an object (A4), one is sent there (A2), and each of its fields has its
-- form (A5).
unfoldable pub what_with_body : Endpoint → Verb → List ℕ → Option Data → Result What Refusal
what_with_body endpoint verb path sent =
    followed (needed rule.A4 sent) (λ body.
    followed (needed rule.A2 (shape_of endpoint verb body)) (λ shape.
    followed (unless_fault (body_fault shape body)) (λ fine.
    what_from_body endpoint verb path shape body)))
