-- A PATCH of an instance changes its row at once, and a cancel names its operation.
use Rattle.std.proofs.Common.{◌≡◌, ◌≢◌, ℕ, true, false, ◌&&◌, List, Option, Some, None}
use Rattle.std.specs.Option.{is_some, option_map}
use Rattle.size_values.specs.declared.kinds.ObjectKind.{ObjectKind}
use Rattle.size_values.specs.declared.kinds.ObjectKind.TheVariants as kind
use Rattle.records.specs.Forms.{is_change, is_changeable, is_formed, is_request, stands_in}
use Rattle.records.specs.declared.rows.Instance.{Instance}
use Rattle.records.specs.declared.rows.Row.TheVariants as row
use Rattle.records.specs.declared.commands.Body.{Body}
use Rattle.records.specs.declared.commands.Command.{Command}
use Rattle.records.specs.declared.commands.What.{What}
use Rattle.records.specs.declared.commands.What.TheVariants as what
use Rattle.row_machine.specs.machine.State.{State}
use Rattle.row_machine.specs.machine.Rows.{instance_named}
use Rattle.row_machine.specs.machine.NameRules.{is_there}
use Rattle.row_machine.specs.machine.Plans.{if_there, row_of, plan_of, plan_patch}
use Rattle.row_machine.specs.machine.Rules.{names_broken}
use Rattle.machine_laws.proofs.Commands.{command_of, target}
use Rattle.machine_laws.proofs.Speaking.{about-patch}
use Rattle.plans_objects.specs.Planning.{changes_in}
use Rattle.core_objects.specs.Commands.{is_object_command, is_object_kind}
use Rattle.core_objects.proofs.ObjectChanges.{its-object}
use Rattle.core_instances.specs.declared.ways.Way.TheVariants as way
use Rattle.core_instances.specs.Ways.{way_of}

-- an instance that is there
there : (body : Body) (o : Option Instance) → is_some o ≡ true → changes_in (if_there (plan_patch body) (option_map row.Instance o)) ≡ None → ⊥
there body None is e = cc
there body (Some i) is e = cc

-- of what PATCH changes, only instances are no objects whose rows are changed at once
patches : (s : State) (project : List ℕ) (k : ObjectKind) (pool instance name : List ℕ) (body : Body)
    → ((is_changeable k && stands_in k pool instance) && is_change k body) ≡ true → is_object_kind k ≡ false
    → is_there s project (target k pool instance name) ≡ true
    → changes_in (if_there (plan_patch body) (row_of s project (target k pool instance name))) ≡ None → ⊥
patches s project kind.Instance pool instance name body formed other found e = there body (instance_named s.instances project name) found e
patches s project k pool instance name body formed other found e = cc

by-what : (s : State) (project : List ℕ) (expects : Option (List ℕ)) (w : What) (moment : ℕ) → is_request w ≡ true → is_object_command w ≡ false → way_of w ≡ way.Change
    → names_broken s (command_of project expects w) ≡ None → changes_in (plan_of s (command_of project expects w) moment) ≡ None → ⊥
unfolding plan_of
by-what s project expects (what.Patch of body) moment formed other is free e =
    patches s project of.kind of.pool of.instance of.name body formed other (its-object s project expects (what.Patch of body) of (about-patch of body) free) e
by-what s project expects w moment formed other is free e = cc

pub changes-some : (s : State) (c : Command) (moment : ℕ) → is_formed c ≡ true → is_object_command c.what ≡ false → way_of c.what ≡ way.Change
    → names_broken s c ≡ None → changes_in (plan_of s c moment) ≢ None
changes-some s c moment formed other is free = by-what s c.project c.expects c.what moment formed other is free

-- the operation that a cancel names
pub cancels : (w : What) (number : ℕ) → way_of w ≡ way.Cancel number → w ≡ what.Cancel number
cancels (what.Cancel op) number is = cc
cancels w number is = cc
