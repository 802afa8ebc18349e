-- Each command that begins an operation has a plan that starts a task.
use Rattle.std.proofs.Common.{◌≡◌, ℕ, true, false, ◌&&◌, List, Option, Some, None}
use Rattle.std.specs.Option.{is_some, option_map}
use Rattle.plain_lists.proofs.FirstLemmas.{none_both, told_unless}
use Rattle.size_values.specs.declared.kinds.ObjectKind.{ObjectKind}
use Rattle.size_values.specs.declared.kinds.ObjectKind.TheVariants as kind
use Rattle.records.specs.Forms.{is_change, is_changeable, is_formed, is_instance, is_named, is_renamable, is_request, stands_in}
use Rattle.records.specs.declared.rows.Row.{Row}
use Rattle.records.specs.declared.rows.Row.TheVariants as row
use Rattle.records.specs.declared.commands.Body.{Body}
use Rattle.records.specs.declared.commands.Command.{Command}
use Rattle.records.specs.declared.commands.What.{What}
use Rattle.records.specs.declared.commands.What.TheVariants as what
use Rattle.row_machine.specs.machine.Task.{Task}
use Rattle.row_machine.specs.machine.State.{State}
use Rattle.row_machine.specs.machine.Rows.{instance_named, snapshot_named}
use Rattle.row_machine.specs.machine.NameRules.{is_there, object_missing, snapshot_missing, what_is_missing}
use Rattle.row_machine.specs.machine.Plans.{Plan, nothing, changes, starts, if_there, plan_delete, plan_move, plan_of, plan_put, plan_restore, row_of}
use Rattle.row_machine.specs.machine.Tasks.{act_task}
use Rattle.row_machine.specs.machine.Rules.{names_broken}
use Rattle.size_values.specs.declared.kinds.Action.{Action}
use Rattle.machine_laws.proofs.Commands.{command_of, target}
use Rattle.machine_laws.proofs.Speaking.{about-delete, about-move, about-put}
use Rattle.machine_laws.proofs.Told.{names-right, object-there}
use Rattle.plans_tasks.specs.Begun.{task_in}
use Rattle.core_objects.specs.Commands.{is_object_command, is_object_kind}
use Rattle.core_objects.proofs.ObjectChanges.{its-object}
use Rattle.core_instances.specs.declared.ways.Way.TheVariants as way
use Rattle.core_instances.specs.Ways.{way_of}
use Rattle.core_instances.proofs.Making.{begins-there, creates}

-- the row of what is there begins an operation
begins-row : {X : Type 0} (as_row : X → Row) (plan : Row → Plan) (o : Option X) → ((x : X) → task_in (plan (as_row x)) ≡ None → ⊥) → is_some o ≡ true
    → task_in (if_there plan (option_map as_row o)) ≡ None → ⊥
begins-row as_row plan None begins there e = cc
begins-row as_row plan (Some x) begins there e = begins x e

module _ (s : State) (project pool instance name : List ℕ) where
  -- of what PUT changes, only instances are changed in the background
  puts : (k : ObjectKind) (body : Body) → ((is_changeable k && stands_in k pool instance) && is_change k body) ≡ true → is_object_kind k ≡ false
      → is_there s project (target k pool instance name) ≡ true
      → task_in (if_there (plan_put s project (target k pool instance name) body) (row_of s project (target k pool instance name))) ≡ None → ⊥
  puts kind.Instance body formed other there e =
      begins-row row.Instance (plan_put s project (target kind.Instance pool instance name) body) (instance_named s.instances project name) (λ i e. cc) there e
  puts k body formed other there e = cc

  -- of what is renamed, only instances in the background
  moves : (k : ObjectKind) (to : List ℕ) → (is_renamable k && stands_in k pool instance) ≡ true → is_object_kind k ≡ false
      → is_there s project (target k pool instance name) ≡ true
      → task_in (if_there (plan_move s project (target k pool instance name) to) (row_of s project (target k pool instance name))) ≡ None → ⊥
  moves kind.Instance to formed other there e =
      begins-row row.Instance (plan_move s project (target kind.Instance pool instance name) to) (instance_named s.instances project name) (λ i e. cc) there e
  moves k to formed other there e = cc

  -- instances and snapshots are deleted in the background
  deletes : (k : ObjectKind) → (is_named k && stands_in k pool instance) ≡ true → is_object_kind k ≡ false
      → is_there s project (target k pool instance name) ≡ true
      → task_in (if_there (plan_delete s project (target k pool instance name)) (row_of s project (target k pool instance name))) ≡ None → ⊥
  deletes kind.Instance formed other there e =
      begins-row row.Instance (plan_delete s project (target kind.Instance pool instance name)) (instance_named s.instances project name) (λ i e. cc) there e
  deletes kind.Snapshot formed other there e =
      begins-row row.Snapshot (plan_delete s project (target kind.Snapshot pool instance name)) (snapshot_named s.snapshots project instance name) (λ r e. cc) there e
  deletes k formed other there e = cc

  -- the state of an instance is changed
  acts : (k : ObjectKind) (action : Action) → (is_instance k && stands_in k pool instance) ≡ true → object_missing s project (target k pool instance name) ≡ None
      → task_in (if_there (λ i. starts (act_task s project (target k pool instance name) action i)) (instance_named s.instances project name)) ≡ None → ⊥
  acts kind.Instance action formed found e =
      begins-there _ (instance_named s.instances project name) (λ i e. cc) (object-there s project (target kind.Instance pool instance name) found).1 e
  acts k action formed found e = cc

  -- an instance is taken back to its snapshot
  restores : (k : ObjectKind) (snapshot : List ℕ) → (is_instance k && stands_in k pool instance) ≡ true → object_missing s project (target k pool instance name) ≡ None
      → snapshot_missing s project name snapshot ≡ None
      → task_in (if_there (plan_restore s project (target k pool instance name) snapshot) (instance_named s.instances project name)) ≡ None → ⊥
  restores kind.Instance snapshot formed found kept e =
      begins-there _ (instance_named s.instances project name)
      (λ i. begins-there _ (snapshot_named s.snapshots project name snapshot) (λ r e. cc) (told_unless _ _ kept))
      (object-there s project (target kind.Instance pool instance name) found).1 e
  restores k snapshot formed found kept e = cc

-- nothing that the command needs is missing
none-missing : (s : State) (project : List ℕ) (expects : Option (List ℕ)) (w : What) → names_broken s (command_of project expects w) ≡ None → what_is_missing s project w ≡ None
none-missing s project expects w free = (names-right s (command_of project expects w) free).objects

by-what : (s : State) (project : List ℕ) (expects : Option (List ℕ)) (w : What) (moment : ℕ) → is_request w ≡ true → is_object_command w ≡ false → way_of w ≡ way.Begin
    → names_broken s (command_of project expects w) ≡ None → what_is_missing s project w ≡ None → task_in (plan_of s (command_of project expects w) moment) ≡ None → ⊥
unfolding plan_of what_is_missing
by-what s project expects (what.Create of body) moment formed other is free found e =
    creates s project of.pool of.instance of.name body moment of.kind formed other found e
by-what s project expects (what.Put of body) moment formed other is free found e =
    puts s project of.pool of.instance of.name of.kind body formed other (its-object s project expects (what.Put of body) of (about-put of body) free) e
by-what s project expects (what.Move of to) moment formed other is free found e =
    moves s project of.pool of.instance of.name of.kind to formed other (its-object s project expects (what.Move of to) of (about-move of to) free) e
by-what s project expects (what.Delete of) moment formed other is free found e =
    deletes s project of.pool of.instance of.name of.kind formed other (its-object s project expects (what.Delete of) of (about-delete of) free) e
by-what s project expects (what.Act of action) moment formed other is free found e =
    acts s project of.pool of.instance of.name of.kind action formed found e
by-what s project expects (what.Restore of snapshot) moment formed other is free found e =
    let parts = none_both (object_missing s project of) _ found in
    restores s project of.pool of.instance of.name of.kind snapshot formed parts.0 (none_both (snapshot_missing s project of.name snapshot) None parts.1).0 e
by-what s project expects w moment formed other is free found e = cc

-- a command that begins an operation has a plan for it
pub is-planned : (s : State) (c : Command) (moment : ℕ) → is_formed c ≡ true → is_object_command c.what ≡ false → way_of c.what ≡ way.Begin
    → names_broken s c ≡ None → task_in (plan_of s c moment) ≡ None → ⊥
is-planned s c moment formed other is free e =
    by-what s c.project c.expects c.what moment formed other is free (none-missing s c.project c.expects c.what free) e

-- the plan of the operation that begins
pub plan-starts : (plan : Plan) (task : Task) → task_in plan ≡ Some task → plan ≡ starts task
plan-starts nothing task e = cc
plan-starts (changes cs) task e = cc
plan-starts (starts work) task e = cc
