-- What a request asks for at its endpoint is formed, whether it sends a body or not.
use Rattle.std.proofs.Common.{◌≡◌, ℕ, Bool, true, false, List, [], Option, Some, None, Result, Ok, Err, IfOk, refl, cond}
use Rattle.std.specs.Prelude.{is_some}
use Rattle.serde_json.specs.Data.{Data}
use Rattle.size_values.specs.declared.kinds.Action.{Action}
use Rattle.size_values.specs.declared.kinds.ObjectKind.{ObjectKind}
use Rattle.size_values.specs.declared.kinds.ObjectKind.TheVariants as kind
use Rattle.records.specs.Forms.{is_named, is_object, is_list, is_timeout, is_request}
use Rattle.records.specs.declared.commands.What.{What}
use Rattle.records.specs.declared.commands.What.TheVariants as what
use Rattle.records.specs.declared.refusals.Refusal.{Refusal}
use Rattle.records.specs.declared.refusals.Rule.TheVariants as rule
use Rattle.rest_bodies.specs.Fields.{fields_of, first_fault, body_fault}
use Rattle.rest_bodies.specs.Instances.{restore_at}
use Rattle.rest_bodies.specs.Origins.{asks_for_copy}
use Rattle.rest_bodies.specs.declared.fields.Shape.{Shape}
use Rattle.rest_bodies.specs.declared.fields.Shape.TheVariants as shape
use Rattle.rest_routes.specs.Answers.{mapped, followed}
use Rattle.rest_routes.specs.Paths.{pool_of}
use Rattle.rest_routes.specs.Endpoints.{has_body}
use Rattle.rest_routes.specs.Queries.{wait_timeout}
use Rattle.rest_routes.specs.declared.endpoints.Endpoint.{Endpoint}
use Rattle.rest_routes.specs.declared.endpoints.Endpoint.TheVariants as endpoint
use Rattle.rest_routes.specs.declared.endpoints.Verb.{Verb}
use Rattle.rest_routes.specs.declared.endpoints.Verb.TheVariants as verb
use Rattle.rest_routes.specs.declared.query.Query.{Query}
use Rattle.rest_routes.specs.Commands.{what_at}
use Rattle.rest_routes.specs.Shapes.{rename_shape, change_shape, object_shape, shape_of}
use Rattle.rest_routes.specs.Targets.{object_of, objects_of, operation_at}
use Rattle.rest_routes.specs.WithBody.{needed, unless_fault, put_from_body, what_from_body, what_with_body}
use Rattle.rest_routes.specs.WithoutBody.{get_or_delete, get_or_cancel, get_or_delete_at, what_without_body}
use Rattle.rest_routes.proofs.FormedBodies.{project_formed, profile_formed, network_formed, pool_formed, volume_body_formed, instance_formed, copy_body_formed, snapshot_formed, change_formed, profile_change_formed, put_profiles, instance_put_formed, instance_patch_formed}

-- the request of an answer is formed, if it is one
abbrev pub AnswerIsFormed : Result What Refusal → Type 0
AnswerIsFormed answer = IfOk answer (λ asked. is_request asked ≡ true)

-- ---- requests that send no body

one_formed : (verb : Verb) (kind : ObjectKind) (path : List ℕ) → is_object is_named (object_of kind path) ≡ true → is_request (get_or_delete verb (object_of kind path)) ≡ true
one_formed verb.Delete kind path h = h
one_formed other kind path h = h

operation_formed : (verb : Verb) (op : ℕ) → is_request (get_or_cancel verb op) ≡ true
operation_formed verb.Delete op = refl
operation_formed other op = refl

-- of an operation that is found
found_formed : (asked : ℕ → What) (found : Result ℕ Refusal) → ((op : ℕ) → is_request (asked op) ≡ true) → AnswerIsFormed (mapped asked found)
found_formed asked (Ok op) h = h op
found_formed asked (Err refusal) h = tt

one_asked_formed : (kind : ObjectKind) (verb : Verb) (path : List ℕ) (boot : ℕ) → AnswerIsFormed (get_or_delete_at kind verb path boot)
one_asked_formed kind.Project verb path boot = one_formed verb kind.Project path refl
one_asked_formed kind.Profile verb path boot = one_formed verb kind.Profile path refl
one_asked_formed kind.Network verb path boot = one_formed verb kind.Network path refl
one_asked_formed kind.Pool verb path boot = one_formed verb kind.Pool path refl
one_asked_formed kind.Volume verb path boot = one_formed verb kind.Volume path refl
one_asked_formed kind.Instance verb path boot = one_formed verb kind.Instance path refl
one_asked_formed kind.Snapshot verb path boot = one_formed verb kind.Snapshot path refl
one_asked_formed kind.Operation verb path boot = found_formed _ (operation_at path boot) (operation_formed verb)

list_formed : (kind : ObjectKind) (path : List ℕ) → is_list (objects_of kind path) ≡ true
list_formed kind.Project path = refl
list_formed kind.Profile path = refl
list_formed kind.Network path = refl
list_formed kind.Pool path = refl
list_formed kind.Volume path = refl
list_formed kind.Instance path = refl
list_formed kind.Snapshot path = refl
list_formed kind.Operation path = refl

read_formed : (endpoint : Endpoint) (verb : Verb) (path : List ℕ) (query : Query) (boot : ℕ) → is_timeout (wait_timeout query) ≡ true
    → AnswerIsFormed (what_without_body endpoint verb path query boot)
read_formed endpoint.Root verb path query boot time = refl
read_formed endpoint.Server verb path query boot time = refl
read_formed (endpoint.List kind) verb path query boot time = list_formed kind path
read_formed (endpoint.One kind) verb path query boot time = one_asked_formed kind verb path boot
read_formed endpoint.Usage verb path query boot time = refl
read_formed endpoint.State verb path query boot time = refl
read_formed endpoint.Wait verb path query boot time = found_formed _ (operation_at path boot) (λ op. time)
read_formed endpoint.Events verb path query boot time = tt
read_formed endpoint.Empty verb path query boot time = tt

-- ---- requests that send a body

-- what a body asks for is formed, where no field is at fault
abbrev JudgedIsFormed : Endpoint → Verb → List ℕ → Shape → Data → Type 0
JudgedIsFormed endpoint verb path shape body =
    AnswerIsFormed (followed (unless_fault (body_fault shape body)) (λ fine. what_from_body endpoint verb path shape body))

judged : (endpoint : Endpoint) (verb : Verb) (path : List ℕ) (shape : Shape) (body : Data)
    → (body_fault shape body ≡ None → AnswerIsFormed (what_from_body endpoint verb path shape body)) → JudgedIsFormed endpoint verb path shape body
judged endpoint verb path shape body fine = by (body_fault shape body) fine
  where
    by : (fault : Option (List ℕ)) → (fault ≡ None → AnswerIsFormed (what_from_body endpoint verb path shape body))
        → AnswerIsFormed (followed (unless_fault fault) (λ fine. what_from_body endpoint verb path shape body))
    by None fine = fine refl
    by (Some key) fine = tt

-- what a body at an endpoint asks for, by its shape
abbrev SaidIsFormed : Endpoint → Verb → List ℕ → Option Shape → Data → Type 0
SaidIsFormed endpoint verb path found body =
    AnswerIsFormed (followed (needed rule.A2 found) (λ shape. followed (unless_fault (body_fault shape body)) (λ fine. what_from_body endpoint verb path shape body)))

module _ (path : List ℕ) (body : Data) where
  new_instance : (verb : Verb) → SaidIsFormed (endpoint.List kind.Instance) verb path (shape_of (endpoint.List kind.Instance) verb body) body
  new_instance verb = by (asks_for_copy body)
    where
      by : (copy : Bool) → SaidIsFormed (endpoint.List kind.Instance) verb path (Some (cond copy shape.InstanceCopy shape.NewInstance)) body
      by true = judged (endpoint.List kind.Instance) verb path shape.InstanceCopy body (copy_body_formed body [])
      by false = judged (endpoint.List kind.Instance) verb path shape.NewInstance body (instance_formed body [])

  new_formed : (kind : ObjectKind) (verb : Verb) → SaidIsFormed (endpoint.List kind) verb path (shape_of (endpoint.List kind) verb body) body
  new_formed kind.Project verb = judged (endpoint.List kind.Project) verb path shape.NewProject body (λ fine. project_formed body [])
  new_formed kind.Profile verb = judged (endpoint.List kind.Profile) verb path shape.NewProfile body (λ fine. profile_formed body [])
  new_formed kind.Network verb = judged (endpoint.List kind.Network) verb path shape.NewNetwork body (λ fine. network_formed body [])
  new_formed kind.Pool verb = judged (endpoint.List kind.Pool) verb path shape.NewPool body (pool_formed body [])
  new_formed kind.Volume verb =
      judged (endpoint.List kind.Volume) verb path shape.NewVolume body (λ fine. volume_body_formed body (pool_of kind.Volume path))
  new_formed kind.Instance verb = new_instance verb
  new_formed kind.Snapshot verb = judged (endpoint.List kind.Snapshot) verb path shape.NewSnapshot body (λ fine. snapshot_formed body [])
  new_formed kind.Operation verb = tt

  -- a PUT of an instance restores it, or else its fields were judged
  instance_put : body_fault shape.InstancePut body ≡ None → is_request (put_from_body (restore_at body) (object_of kind.Instance path) shape.InstancePut body) ≡ true
  unfolding body_fault
  instance_put fine = by (restore_at body) fine
    where
      by : (o : Option (List ℕ)) → first_fault (cond (is_some o) [] (fields_of shape.InstancePut)) body ≡ None
          → is_request (put_from_body o (object_of kind.Instance path) shape.InstancePut body) ≡ true
      by (Some snapshot) fine = refl
      by None fine = instance_put_formed body [] (put_profiles body fine)

  -- POST, PUT and PATCH of an object of each kind
  renamed_formed : (kind : ObjectKind) → SaidIsFormed (endpoint.One kind) verb.Post path (rename_shape kind) body
  renamed_formed kind.Project = judged (endpoint.One kind.Project) verb.Post path shape.Rename body (λ fine. refl)
  renamed_formed kind.Profile = judged (endpoint.One kind.Profile) verb.Post path shape.Rename body (λ fine. refl)
  renamed_formed kind.Network = judged (endpoint.One kind.Network) verb.Post path shape.Rename body (λ fine. refl)
  renamed_formed kind.Volume = judged (endpoint.One kind.Volume) verb.Post path shape.Rename body (λ fine. refl)
  renamed_formed kind.Instance = judged (endpoint.One kind.Instance) verb.Post path shape.InstanceRename body (λ fine. refl)
  renamed_formed kind.Pool = tt
  renamed_formed kind.Snapshot = tt
  renamed_formed kind.Operation = tt

  put_formed : (kind : ObjectKind) → SaidIsFormed (endpoint.One kind) verb.Put path (change_shape kind verb.Put) body
  put_formed kind.Project = judged (endpoint.One kind.Project) verb.Put path shape.Change body (λ fine. change_formed body [])
  put_formed kind.Profile = judged (endpoint.One kind.Profile) verb.Put path shape.ProfileChange body (λ fine. profile_change_formed body [])
  put_formed kind.Network = judged (endpoint.One kind.Network) verb.Put path shape.Change body (λ fine. change_formed body [])
  put_formed kind.Pool = judged (endpoint.One kind.Pool) verb.Put path shape.Change body (λ fine. change_formed body [])
  put_formed kind.Volume = judged (endpoint.One kind.Volume) verb.Put path shape.Change body (λ fine. change_formed body (pool_of kind.Volume path))
  put_formed kind.Instance = judged (endpoint.One kind.Instance) verb.Put path shape.InstancePut body instance_put
  put_formed kind.Snapshot = tt
  put_formed kind.Operation = tt

  patch_formed : (kind : ObjectKind) → SaidIsFormed (endpoint.One kind) verb.Patch path (change_shape kind verb.Patch) body
  patch_formed kind.Project = judged (endpoint.One kind.Project) verb.Patch path shape.Change body (λ fine. change_formed body [])
  patch_formed kind.Profile = judged (endpoint.One kind.Profile) verb.Patch path shape.ProfileChange body (λ fine. profile_change_formed body [])
  patch_formed kind.Network = judged (endpoint.One kind.Network) verb.Patch path shape.Change body (λ fine. change_formed body [])
  patch_formed kind.Pool = judged (endpoint.One kind.Pool) verb.Patch path shape.Change body (λ fine. change_formed body [])
  patch_formed kind.Volume = judged (endpoint.One kind.Volume) verb.Patch path shape.Change body (λ fine. change_formed body (pool_of kind.Volume path))
  patch_formed kind.Instance = judged (endpoint.One kind.Instance) verb.Patch path shape.InstancePatch body (instance_patch_formed body [])
  patch_formed kind.Snapshot = tt
  patch_formed kind.Operation = tt

  changed_formed : (kind : ObjectKind) (verb : Verb) → SaidIsFormed (endpoint.One kind) verb path (object_shape kind verb) body
  changed_formed kind verb.Get = tt
  changed_formed kind verb.Post = renamed_formed kind
  changed_formed kind verb.Put = put_formed kind
  changed_formed kind verb.Patch = patch_formed kind
  changed_formed kind verb.Delete = tt

  -- an action that is found
  acted : (found : Result Action Refusal) → AnswerIsFormed (mapped (λ action. what.Act (object_of kind.Instance path) action) found)
  acted (Ok action) = refl
  acted (Err refusal) = tt

  said_formed : (endpoint : Endpoint) (verb : Verb) → SaidIsFormed endpoint verb path (shape_of endpoint verb body) body
  said_formed (endpoint.List kind) verb = new_formed kind verb
  said_formed (endpoint.One kind) verb = changed_formed kind verb
  said_formed endpoint.State verb = judged endpoint.State verb path shape.StateChange body (λ fine. acted _)
  said_formed endpoint.Root verb = tt
  said_formed endpoint.Server verb = tt
  said_formed endpoint.Usage verb = tt
  said_formed endpoint.Wait verb = tt
  said_formed endpoint.Events verb = tt
  said_formed endpoint.Empty verb = tt

sent_formed : (endpoint : Endpoint) (verb : Verb) (path : List ℕ) (sent : Option Data) → AnswerIsFormed (what_with_body endpoint verb path sent)
unfolding what_with_body
sent_formed endpoint verb path None = tt
sent_formed endpoint verb path (Some body) = said_formed path body endpoint verb

-- ---- both

pub asked_formed : (endpoint : Endpoint) (verb : Verb) (path : List ℕ) (query : Query) (boot : ℕ) (sent : Option Data) → is_timeout (wait_timeout query) ≡ true
    → AnswerIsFormed (what_at endpoint verb path query boot sent)
asked_formed endpoint verb path query boot sent time = by (has_body verb) (sent_formed endpoint verb path sent) (read_formed endpoint verb path query boot time)
  where
    by : (b : Bool) → AnswerIsFormed (what_with_body endpoint verb path sent) → AnswerIsFormed (what_without_body endpoint verb path query boot)
        → AnswerIsFormed (cond b (what_with_body endpoint verb path sent) (what_without_body endpoint verb path query boot))
    by true h k = h
    by false h k = k
