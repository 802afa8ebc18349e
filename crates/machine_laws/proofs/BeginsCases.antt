-- The forms that an operation has when it begins, with what the rules on names and on what stands in the way establish.
use Rattle.std.proofs.Common.{◌≡◌, ℕ, true, false, Option, Some, None, List, refl, sym, ◌∙◌}
use Rattle.std.specs.Option.{option_map}
use Rattle.size_values.specs.declared.kinds.ObjectKind.{ObjectKind}
use Rattle.size_values.specs.declared.kinds.ObjectKind.TheVariants as kind
use Rattle.size_values.specs.declared.kinds.Action.{Action}
use Rattle.records.specs.declared.commands.Body.{Body}
use Rattle.records.specs.declared.commands.Command.{Command}
use Rattle.records.specs.declared.commands.What.{What}
use Rattle.records.specs.declared.commands.What.TheVariants as what
use Rattle.records.specs.declared.rows.Row.{Row}
use Rattle.records.specs.declared.rows.Row.TheVariants as row
use Rattle.row_machine.specs.machine.Task.{Task}
use Rattle.row_machine.specs.machine.State.{State}
use Rattle.row_machine.specs.machine.Rows.{project_named, profile_named, network_named, pool_named, volume_named, instance_named, snapshot_named}
use Rattle.row_machine.specs.machine.Homes.{home_of}
use Rattle.row_machine.specs.declared.changes.RowChange.{RowChange}
use Rattle.row_machine.specs.machine.Plans.{Plan, nothing, changes, starts, plan_of, if_there, plan_put, plan_patch, plan_move, plan_delete}
use Rattle.machine_laws.proofs.Cases.{IsAccepted, Begins}
use Rattle.machine_laws.proofs.Commands.{command_of, target, nothing_begins, never_changes}
use Rattle.machine_laws.proofs.Entering.{updates-instance, renames-instance, deletes-instance, deletes-snapshot, acts-on, restores-to}
use Rattle.machine_laws.proofs.Copying.{makes-instance, makes-snapshot, copies-volume}

-- ---- plans that begin nothing

at_once : {X Y : Type 0} {task : Task} (r : X → Row) (by_row : Row → Plan) (cs : X → List RowChange) → ((x : X) → by_row (r x) ≡ changes (cs x))
    → (o : Option X) → if_there by_row (option_map r o) ≡ starts task → Y
at_once r by_row cs is None e = nothing_begins e
at_once r by_row cs is (Some x) e = never_changes (sym (is x) ∙ e)

not_at_all : {X Y : Type 0} {task : Task} (r : X → Row) (by_row : Row → Plan) → ((x : X) → by_row (r x) ≡ nothing)
    → (o : Option X) → if_there by_row (option_map r o) ≡ starts task → Y
not_at_all r by_row is None e = nothing_begins e
not_at_all r by_row is (Some x) e = nothing_begins (sym (is x) ∙ e)

unformed : {X : Type 0} → false ≡ true → X
unformed e = cc

-- ---- by command

creates : {expects : Option (List ℕ)} (s : State) (project : List ℕ) (k : ObjectKind) (pool instance name : List ℕ) (body : Body) (moment : ℕ) (task : Task)
    → IsAccepted s (command_of project expects (what.Create (target k pool instance name) body)) moment (starts task) → Begins s task
unfolding plan_of
creates s project kind.Project pool instance name body moment task h = never_changes h.plan
creates s project kind.Profile pool instance name body moment task h = never_changes h.plan
creates s project kind.Network pool instance name body moment task h = never_changes h.plan
creates s project kind.Pool pool instance name body moment task h = never_changes h.plan
creates s project kind.Volume pool instance name body moment task h = copies-volume s project pool instance name body moment task h
creates s project kind.Instance pool instance name body moment task h = makes-instance s project pool instance name body moment task h
creates s project kind.Snapshot pool instance name body moment task h = makes-snapshot s project pool instance name body moment task h
creates s project kind.Operation pool instance name body moment task h = nothing_begins h.plan

puts : {expects : Option (List ℕ)} (s : State) (project : List ℕ) (k : ObjectKind) (pool instance name : List ℕ) (body : Body) (moment : ℕ) (task : Task)
    → IsAccepted s (command_of project expects (what.Put (target k pool instance name) body)) moment (starts task) → Begins s task
unfolding plan_of
puts s project kind.Project pool instance name body moment task h =
    at_once row.Project (plan_put s project (target kind.Project pool instance name) body) _ (λ r. refl) (project_named s.projects name) h.plan
puts s project kind.Profile pool instance name body moment task h =
    at_once row.Profile (plan_put s project (target kind.Profile pool instance name) body) _ (λ r. refl) (profile_named s.profiles (home_of s.projects project kind.Profile) name) h.plan
puts s project kind.Network pool instance name body moment task h =
    at_once row.Network (plan_put s project (target kind.Network pool instance name) body) _ (λ r. refl) (network_named s.networks (home_of s.projects project kind.Network) name) h.plan
puts s project kind.Pool pool instance name body moment task h =
    at_once row.Pool (plan_put s project (target kind.Pool pool instance name) body) _ (λ r. refl) (pool_named s.pools name) h.plan
puts s project kind.Volume pool instance name body moment task h =
    at_once row.Volume (plan_put s project (target kind.Volume pool instance name) body) _ (λ r. refl) (volume_named s.volumes (home_of s.projects project kind.Volume) pool name) h.plan
puts s project kind.Instance pool instance name body moment task h = updates-instance s project pool instance name body moment task h
puts s project kind.Snapshot pool instance name body moment task h =
    not_at_all row.Snapshot (plan_put s project (target kind.Snapshot pool instance name) body) (λ r. refl) (snapshot_named s.snapshots project instance name) h.plan
puts s project kind.Operation pool instance name body moment task h = nothing_begins h.plan

patches : {expects : Option (List ℕ)} (s : State) (project : List ℕ) (k : ObjectKind) (pool instance name : List ℕ) (body : Body) (moment : ℕ) (task : Task)
    → IsAccepted s (command_of project expects (what.Patch (target k pool instance name) body)) moment (starts task) → Begins s task
unfolding plan_of
patches s project kind.Project pool instance name body moment task h = at_once row.Project (plan_patch body) _ (λ r. refl) (project_named s.projects name) h.plan
patches s project kind.Profile pool instance name body moment task h =
    at_once row.Profile (plan_patch body) _ (λ r. refl) (profile_named s.profiles (home_of s.projects project kind.Profile) name) h.plan
patches s project kind.Network pool instance name body moment task h =
    at_once row.Network (plan_patch body) _ (λ r. refl) (network_named s.networks (home_of s.projects project kind.Network) name) h.plan
patches s project kind.Pool pool instance name body moment task h = at_once row.Pool (plan_patch body) _ (λ r. refl) (pool_named s.pools name) h.plan
patches s project kind.Volume pool instance name body moment task h =
    at_once row.Volume (plan_patch body) _ (λ r. refl) (volume_named s.volumes (home_of s.projects project kind.Volume) pool name) h.plan
patches s project kind.Instance pool instance name body moment task h = at_once row.Instance (plan_patch body) _ (λ r. refl) (instance_named s.instances project name) h.plan
patches s project kind.Snapshot pool instance name body moment task h = not_at_all row.Snapshot (plan_patch body) (λ r. refl) (snapshot_named s.snapshots project instance name) h.plan
patches s project kind.Operation pool instance name body moment task h = nothing_begins h.plan

moves : {expects : Option (List ℕ)} (s : State) (project : List ℕ) (k : ObjectKind) (pool instance name to : List ℕ) (moment : ℕ) (task : Task)
    → IsAccepted s (command_of project expects (what.Move (target k pool instance name) to)) moment (starts task) → Begins s task
unfolding plan_of
moves s project kind.Project pool instance name to moment task h =
    at_once row.Project (plan_move s project (target kind.Project pool instance name) to) _ (λ r. refl) (project_named s.projects name) h.plan
moves s project kind.Profile pool instance name to moment task h =
    at_once row.Profile (plan_move s project (target kind.Profile pool instance name) to) _ (λ r. refl) (profile_named s.profiles (home_of s.projects project kind.Profile) name) h.plan
moves s project kind.Network pool instance name to moment task h =
    at_once row.Network (plan_move s project (target kind.Network pool instance name) to) _ (λ r. refl) (network_named s.networks (home_of s.projects project kind.Network) name) h.plan
moves s project kind.Pool pool instance name to moment task h =
    not_at_all row.Pool (plan_move s project (target kind.Pool pool instance name) to) (λ r. refl) (pool_named s.pools name) h.plan
moves s project kind.Volume pool instance name to moment task h =
    at_once row.Volume (plan_move s project (target kind.Volume pool instance name) to) _ (λ r. refl) (volume_named s.volumes (home_of s.projects project kind.Volume) pool name) h.plan
moves s project kind.Instance pool instance name to moment task h = renames-instance s project pool instance name to moment task h
moves s project kind.Snapshot pool instance name to moment task h =
    not_at_all row.Snapshot (plan_move s project (target kind.Snapshot pool instance name) to) (λ r. refl) (snapshot_named s.snapshots project instance name) h.plan
moves s project kind.Operation pool instance name to moment task h = nothing_begins h.plan

removes : {expects : Option (List ℕ)} (s : State) (project : List ℕ) (k : ObjectKind) (pool instance name : List ℕ) (moment : ℕ) (task : Task)
    → IsAccepted s (command_of project expects (what.Delete (target k pool instance name))) moment (starts task) → Begins s task
unfolding plan_of
removes s project kind.Project pool instance name moment task h =
    at_once row.Project (plan_delete s project (target kind.Project pool instance name)) _ (λ r. refl) (project_named s.projects name) h.plan
removes s project kind.Profile pool instance name moment task h =
    at_once row.Profile (plan_delete s project (target kind.Profile pool instance name)) _ (λ r. refl) (profile_named s.profiles (home_of s.projects project kind.Profile) name) h.plan
removes s project kind.Network pool instance name moment task h =
    at_once row.Network (plan_delete s project (target kind.Network pool instance name)) _ (λ r. refl) (network_named s.networks (home_of s.projects project kind.Network) name) h.plan
removes s project kind.Pool pool instance name moment task h =
    at_once row.Pool (plan_delete s project (target kind.Pool pool instance name)) _ (λ r. refl) (pool_named s.pools name) h.plan
removes s project kind.Volume pool instance name moment task h =
    at_once row.Volume (plan_delete s project (target kind.Volume pool instance name)) _ (λ r. refl) (volume_named s.volumes (home_of s.projects project kind.Volume) pool name) h.plan
removes s project kind.Instance pool instance name moment task h = deletes-instance s project pool instance name moment task h
removes s project kind.Snapshot pool instance name moment task h = deletes-snapshot s project pool instance name moment task h
removes s project kind.Operation pool instance name moment task h = nothing_begins h.plan

-- only an instance has a change of state
acts : {expects : Option (List ℕ)} (s : State) (project : List ℕ) (k : ObjectKind) (pool instance name : List ℕ) (action : Action) (moment : ℕ) (task : Task)
    → IsAccepted s (command_of project expects (what.Act (target k pool instance name) action)) moment (starts task) → Begins s task
acts s project kind.Instance pool instance name action moment task h = acts-on s project pool instance name action moment task h
acts s project kind.Project pool instance name action moment task h = unformed h.formed
acts s project kind.Profile pool instance name action moment task h = unformed h.formed
acts s project kind.Network pool instance name action moment task h = unformed h.formed
acts s project kind.Pool pool instance name action moment task h = unformed h.formed
acts s project kind.Volume pool instance name action moment task h = unformed h.formed
acts s project kind.Snapshot pool instance name action moment task h = unformed h.formed
acts s project kind.Operation pool instance name action moment task h = unformed h.formed

restores : {expects : Option (List ℕ)} (s : State) (project : List ℕ) (k : ObjectKind) (pool instance name snapshot : List ℕ) (moment : ℕ) (task : Task)
    → IsAccepted s (command_of project expects (what.Restore (target k pool instance name) snapshot)) moment (starts task) → Begins s task
restores s project kind.Instance pool instance name snapshot moment task h = restores-to s project pool instance name snapshot moment task h
restores s project kind.Project pool instance name snapshot moment task h = unformed h.formed
restores s project kind.Profile pool instance name snapshot moment task h = unformed h.formed
restores s project kind.Network pool instance name snapshot moment task h = unformed h.formed
restores s project kind.Pool pool instance name snapshot moment task h = unformed h.formed
restores s project kind.Volume pool instance name snapshot moment task h = unformed h.formed
restores s project kind.Snapshot pool instance name snapshot moment task h = unformed h.formed
restores s project kind.Operation pool instance name snapshot moment task h = unformed h.formed

by : (s : State) (project : List ℕ) (expects : Option (List ℕ)) (w : What) (moment : ℕ) (task : Task) → IsAccepted s (command_of project expects w) moment (starts task) → Begins s task
unfolding plan_of
by s project expects (what.Create of body) moment task h = creates s project of.kind of.pool of.instance of.name body moment task h
by s project expects (what.Put of body) moment task h = puts s project of.kind of.pool of.instance of.name body moment task h
by s project expects (what.Patch of body) moment task h = patches s project of.kind of.pool of.instance of.name body moment task h
by s project expects (what.Move of to) moment task h = moves s project of.kind of.pool of.instance of.name to moment task h
by s project expects (what.Delete of) moment task h = removes s project of.kind of.pool of.instance of.name moment task h
by s project expects (what.Act of action) moment task h = acts s project of.kind of.pool of.instance of.name action moment task h
by s project expects (what.Restore of snapshot) moment task h = restores s project of.kind of.pool of.instance of.name snapshot moment task h
by s project expects what.Root moment task h = nothing_begins h.plan
by s project expects what.Server moment task h = nothing_begins h.plan
by s project expects (what.List of recursion) moment task h = nothing_begins h.plan
by s project expects (what.Get of) moment task h = nothing_begins h.plan
by s project expects (what.State of) moment task h = nothing_begins h.plan
by s project expects (what.GetOp op) moment task h = nothing_begins h.plan
by s project expects (what.Cancel op) moment task h = nothing_begins h.plan
by s project expects (what.Wait op timeout) moment task h = nothing_begins h.plan

pub begins : {s : State} {c : Command} {moment : ℕ} {task : Task} → IsAccepted s c moment (starts task) → Begins s task
begins {s} {c} {moment} {task} h = by s c.project c.expects c.what moment task h
