-- An operation that begins is by its deed, and has all its calls before it.
use Rattle.std.proofs.Common.{◌≡◌, Bool, true, false, map, refl, ap}
use Rattle.std.specs.Option.{option_map}
use Rattle.size_values.specs.declared.kinds.Action.{Action}
use Rattle.size_values.specs.declared.kinds.Action.TheVariants as action
use Rattle.instance_states.specs.Plans.{calls_of, calls_of_action, undo_of, name_of}
use Rattle.host_model.specs.declared.place.Place.{Place}
use Rattle.row_machine.specs.machine.Task.{Task}
use Rattle.row_machine.specs.machine.State.{State}
use Rattle.row_machine.specs.machine.HostCalls.{act_calls}
use Rattle.row_machine.specs.machine.Plans.{instance_target}
use Rattle.row_machine.specs.facts.Whole.{IsByDeed}
use Rattle.machine_laws.proofs.Cases.{Begins}
use Rattle.machine_laws.proofs.Cases.Begins.{creates, copies_instance, copies_snapshot, copies_volume, updates, restores, renames, deletes, acts, snaps, unsnaps}

-- its target, its source, its claim and what this replaces are those of its deed
pub begins-by_deed : {s : State} {task : Task} → Begins s task → IsByDeed task
begins-by_deed (creates project name body moment there new profiles early) =
    record { target = refl; source = refl; kind = refl; named = λ not_rename. refl; replaces = refl }
begins-by_deed (copies_instance name body moment i idle new profiles early) =
    record { target = refl; source = refl; kind = refl; named = λ not_rename. refl; replaces = refl }
begins-by_deed (copies_snapshot name body moment i r idle found new profiles early) =
    record { target = refl; source = refl; kind = refl; named = λ not_rename. refl; replaces = refl }
begins-by_deed (copies_volume pool name body moment v home found from_pool to_pool new early) =
    record { target = refl; source = refl; kind = refl; named = λ not_rename. refl; replaces = refl }
begins-by_deed (updates old i idle same) =
    record { target = refl; source = refl; kind = refl; named = λ not_rename. ap instance_target same.name; replaces = refl }
begins-by_deed (restores i r idle allowed found) =
    record { target = refl; source = refl; kind = refl; named = λ not_rename. refl; replaces = refl }
begins-by_deed (renames i to idle allowed new) =
    record { target = refl; source = refl; kind = refl; named = λ not_rename. absurd (not_rename refl); replaces = refl }
begins-by_deed (deletes i idle allowed) =
    record { target = refl; source = refl; kind = refl; named = λ not_rename. tt; replaces = refl }
begins-by_deed (acts does i idle allowed) =
    record { target = refl; source = refl; kind = refl; named = λ not_rename. tt; replaces = refl }
begins-by_deed (snaps name moment i idle allowed new early) =
    record { target = refl; source = refl; kind = refl; named = λ not_rename. refl; replaces = refl }
begins-by_deed (unsnaps i r idle found) =
    record { target = refl; source = refl; kind = refl; named = λ not_rename. tt; replaces = refl }

-- all calls of its deed are left, and the call that takes it back
pub record IsPlanned (task : Task) : Type 0 where
  pub calls : map name_of task.calls ≡ calls_of task.deed
  pub undo : option_map name_of task.undo ≡ undo_of task.deed
  pub done : task.done ≡ 0

act-calls : (does : Action) (ephemeral : Bool) (at : Place) (spec : _) → map name_of (act_calls does ephemeral at spec) ≡ calls_of_action does ephemeral
act-calls action.Start ephemeral at spec = refl
act-calls action.Stop true at spec = refl
act-calls action.Stop false at spec = refl
act-calls action.Restart ephemeral at spec = refl
act-calls action.Freeze ephemeral at spec = refl
act-calls action.Unfreeze ephemeral at spec = refl

pub begins-planned : {s : State} {task : Task} → Begins s task → IsPlanned task
begins-planned (creates project name body moment there new profiles early) = record { calls = refl; undo = refl; done = refl }
begins-planned (copies_instance name body moment i idle new profiles early) = record { calls = refl; undo = refl; done = refl }
begins-planned (copies_snapshot name body moment i r idle found new profiles early) = record { calls = refl; undo = refl; done = refl }
begins-planned (copies_volume pool name body moment v home found from_pool to_pool new early) = record { calls = refl; undo = refl; done = refl }
begins-planned (updates old i idle same) = record { calls = refl; undo = refl; done = refl }
begins-planned (restores i r idle allowed found) = record { calls = refl; undo = refl; done = refl }
begins-planned (renames i to idle allowed new) = record { calls = refl; undo = refl; done = refl }
begins-planned (deletes i idle allowed) = record { calls = refl; undo = refl; done = refl }
begins-planned (acts does i idle allowed) = record { calls = act-calls does i.ephemeral _ _; undo = refl; done = refl }
begins-planned (snaps name moment i idle allowed new early) = record { calls = refl; undo = refl; done = refl }
begins-planned (unsnaps i r idle found) = record { calls = refl; undo = refl; done = refl }
