-- What GET and DELETE ask for, whose bodies are not read.
use Rattle.std.specs.Prelude.{ℕ, List, Result, Ok, Err}
use Rattle.size_values.specs.declared.kinds.ObjectKind.{ObjectKind}
use Rattle.size_values.specs.declared.kinds.ObjectKind.TheVariants as kind
use Rattle.records.specs.declared.commands.Target.{Target}
use Rattle.records.specs.declared.commands.What.{What}
use Rattle.records.specs.declared.commands.What.TheVariants as what
use Rattle.records.specs.declared.refusals.Rule.TheVariants as rule
use Rattle.records.specs.declared.refusals.Refusal.{Refusal}
use Rattle.rest_routes.specs.Answers.{mapped}
use Rattle.rest_routes.specs.Queries.{asks_objects, wait_timeout}
use Rattle.rest_routes.specs.Refusals.{plain_refusal}
use Rattle.rest_routes.specs.declared.endpoints.Endpoint.{Endpoint}
use Rattle.rest_routes.specs.declared.endpoints.Endpoint.TheVariants as endpoint
use Rattle.rest_routes.specs.declared.endpoints.Verb.{Verb}
use Rattle.rest_routes.specs.declared.endpoints.Verb.TheVariants as verb
use Rattle.rest_routes.specs.declared.query.Query.{Query}
use Rattle.rest_routes.specs.Targets.{object_of, objects_of, operation_at}

-- one object is deleted or shown
abbrev pub get_or_delete : Verb → Target → What
get_or_delete verb.Delete of = what.Delete of
get_or_delete other of = what.Get of

-- one operation is cancelled or shown
abbrev pub get_or_cancel : Verb → ℕ → What
get_or_cancel verb.Delete op = what.Cancel op
get_or_cancel other op = what.GetOp op

-- one object goes by its name, an operation by its number
abbrev pub get_or_delete_at : ObjectKind → Verb → List ℕ → ℕ → Result What Refusal
get_or_delete_at kind.Operation verb path boot = mapped (get_or_cancel verb) (operation_at path boot)
get_or_delete_at kind verb path boot = Ok (get_or_delete verb (object_of kind path))

-- What GET and DELETE ask for at an endpoint. Events are not sent to a client that speaks HTTP alone, and no command asks
-- for a list that is always empty.
abbrev pub what_without_body : Endpoint → Verb → List ℕ → Query → ℕ → Result What Refusal
what_without_body endpoint.Root verb path query boot = Ok what.Root
what_without_body endpoint.Server verb path query boot = Ok what.Server
what_without_body (endpoint.List kind) verb path query boot =
    Ok (what.List (objects_of kind path) (asks_objects query))
what_without_body (endpoint.One kind) verb path query boot = get_or_delete_at kind verb path boot
what_without_body endpoint.Usage verb path query boot = Ok (what.State (object_of kind.Project path))
what_without_body endpoint.State verb path query boot = Ok (what.State (object_of kind.Instance path))
what_without_body endpoint.Wait verb path query boot =
    mapped (λ op. what.Wait op (wait_timeout query)) (operation_at path boot)
what_without_body endpoint.Events verb path query boot = Err (plain_refusal rule.A6)
what_without_body endpoint.Empty verb path query boot = Err (plain_refusal rule.A1)
