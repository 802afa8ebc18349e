-- What is sought of single commands.
use Rattle.std.specs.Prelude.{ℕ, ◌==◌, List, [], ◌∷◌, length, Option, None, is_some, if◌then◌else◌, option_and_then}
use Rattle.plain_lists.specs.Firsts.{first}
use Rattle.size_values.specs.declared.kinds.ObjectKind.TheVariants as kind
use Rattle.records.specs.declared.refusals.Refusal.{Refusal}
use Rattle.records.specs.declared.commands.Target.{Target}
use Rattle.records.specs.declared.commands.Body.{Body}
use Rattle.records.specs.declared.commands.What.TheVariants as what
use Rattle.row_machine.specs.machine.State.{State}
use Rattle.row_machine.specs.machine.Rows.{instance_named}
use Rattle.row_machine.specs.machine.Asked.{new_name_of}
use Rattle.row_machine.specs.machine.NameRules.{missing_unless, snapshot_missing, name_broken}

-- the instance that a copy is made from is missing, or the snapshot of it where one is named
abbrev pub instance_source_missing : State → List ℕ → List ℕ → List ℕ → Option Refusal
instance_source_missing state project from snapshot = first
    (missing_unless (is_some (instance_named state.instances project from)) kind.Instance from
    ∷ (if length snapshot == 0 then None else snapshot_missing state project from snapshot)
    ∷ [])

-- what is wrong with the name of a new object
abbrev pub new_name_broken : State → List ℕ → Target → Body → Option Refusal
new_name_broken state project of body =
    option_and_then (name_broken state project) (new_name_of state project (what.Create of body))
