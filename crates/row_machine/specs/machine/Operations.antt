-- Background operations: how one is entered, what each status becomes, and how one ends.
use Rattle.std.specs.Prelude.{◌+◌, ◌==◌, ◌&&◌, ◌∷◌, ◌++◌, if◌then◌else◌}
use Rattle.row_machine.specs.Words.{ℕ, nat_lt, Bool, true, List, [], map, find, Option, Some, None, is_some}
use Rattle.row_machine.specs.Words.{option_and_then, option_map_or, option_to_list, result_ok, dropped, changed_first}
use Rattle.row_machine.specs.Words.{Amounts, Action, Deed, Power, Error, HostCall, undo_of, after_of, OpFault, Status}
use Rattle.row_machine.specs.Words.{granted_more, converted_more, returned_more, Action as action, Deed as deed}
use Rattle.row_machine.specs.Words.{Status as status, Row as row, no_amounts, Operation, OpFault as op_fault, Instance}
use Rattle.row_machine.specs.Words.{RowChange, RowChange as change, PoolPart, no_part}
use Rattle.row_machine.specs.Estate.{breaks_instance, Task, instance_named, snapshot_named, is_power_of}
use Rattle.row_machine.specs.Readings.{share_of, part_of_share, project_of_row, claimed_instance, applied, removal}
use Rattle.row_machine.specs.Readings.{snapshots_of}
use Rattle.operations.specs.OperationTable as kept
use Rattle.reservations.specs.declared.books.Hold.{Hold}
use Rattle.row_machine.specs.machine.State.{State}

-- ---- shares

-- whether it is the share of this operation
abbrev pub is_held_by : ℕ → Hold → Bool
is_held_by op hold = hold.op == op

-- the share that an operation holds
abbrev pub held_share : State → ℕ → Amounts
held_share state op = option_map_or (λ hold. hold.share) (find (is_held_by op) state.held) no_amounts

-- the part of it on a pool
abbrev pub held_on_pool : State → ℕ → PoolPart
held_on_pool state op = option_map_or (λ hold. hold.part) (find (is_held_by op) state.held) no_part

-- the share is no longer held
abbrev pub without_share : ℕ → State → State
without_share op state = record state { held = dropped (is_held_by op) state.held }

-- it became its object's
abbrev pub converted : ℕ → State → State
converted op state = record (without_share op state) {
  books = converted_more (held_share state op) (held_on_pool state op) state.books;
}

-- it was returned
abbrev pub returned : ℕ → State → State
returned op state = record (without_share op state) {
  books = returned_more (held_share state op) (held_on_pool state op) state.books;
}

-- ---- entering

-- the project whose limits a task counts for
abbrev pub project_of_task : Task → List ℕ
project_of_task task = option_map_or project_of_row task.claim task.project

-- One more operation, which waits for its first call and claims its row. Only what has an undo call may be cancelled.
abbrev pub claiming : State → Task → ℕ → State
claiming state task moment =
    record state { operations = kept.entered (is_some (undo_of task.deed)) task moment state.operations }

-- the same, with the share that the operation holds from now on
unfoldable pub entered : State → Task → ℕ → State
entered state task moment = record (claiming state task moment) {
  held =
      state.held
      ++ record {
        op = state.operations.next;
        project = project_of_task task;
        share = share_of state task;
        part = part_of_share state task;
      }
      ∷ [];
  books = granted_more (share_of state task) (part_of_share state task) state.books;
}

-- ---- going on

abbrev pub with_task : ℕ → Task → State → State
with_task number task state = record state { operations = kept.with_work number task state.operations }

abbrev pub moved : ℕ → Status → ℕ → State → State
moved number now moment state = record state { operations = kept.moved number now moment state.operations }

abbrev pub handing_out : Task → List HostCall → Task
handing_out task rest = record task { calls = rest }

abbrev pub one_more_done : Task → List HostCall → Task
one_more_done task rest = record task { calls = rest; done = task.done + 1 }

abbrev pub undone : Task → Task
undone task = record task { undo = None }

-- ---- ends

abbrev pub with_power : State → List ℕ → List ℕ → Power → State
with_power state project name power = record state {
  powers =
      changed_first (is_power_of project name) (λ instance_power. record instance_power { power = power }) state.powers;
}

abbrev pub removes_instance : State → List ℕ → List ℕ → List RowChange
removes_instance state project name = map removal
    (map row.Snapshot (snapshots_of state project name)
    ++ map row.Instance (option_to_list (instance_named state.instances project name)))

-- a row takes the place of an instance of another name, and its snapshots go with it
abbrev pub renames_instance : State → Task → Instance → List RowChange
renames_instance state task instance =
    removes_instance state task.project task.target.name
    ++ map change.Put
    (row.Instance instance
    ∷ map (λ snapshot. row.Snapshot (record snapshot { instance = instance.name; project = instance.project }))
    (snapshots_of state task.project task.target.name))

abbrev pub success_changes : State → Task → List RowChange
success_changes state task = changes task.deed where
  act_changes : Action → Bool → List RowChange
  act_changes action.Stop true = removes_instance state task.project task.target.name
  act_changes other ephemeral = []

  changes : Deed → List RowChange
  changes deed.Rename = option_map_or (renames_instance state task) (claimed_instance task) []
  changes deed.Delete = removes_instance state task.project task.target.name
  changes (deed.Act does ephemeral) = act_changes does ephemeral
  changes deed.Unsnap =
      map removal
      (map row.Snapshot
      (option_to_list (snapshot_named state.snapshots task.project task.target.instance task.target.name)))
  changes other = map change.Put (option_to_list task.claim)

abbrev pub power_after : State → Task → Option Power
power_after state task = after task.deed where
  by_action : Action → Option Power
  by_action does =
      option_and_then (λ instance_power. result_ok (after_of instance_power.power does))
      (find (is_power_of task.project task.target.name) state.powers)

  after : Deed → Option Power
  after (deed.Act does ephemeral) = by_action does
  after other = None

abbrev pub with_power_after : Task → Option Power → State → State
with_power_after task None state = state
with_power_after task (Some power) state = with_power state task.project task.target.name power

abbrev pub ended : ℕ → Status → OpFault → ℕ → State → State
ended number now why moment state = record state { operations = kept.ends number now why moment state.operations }

-- Success: the status of the target and the rows are those that the deed makes, and the share is converted.
unfoldable pub succeeded : State → Operation Task → ℕ → State
succeeded state operation moment =
    converted operation.number
    (ended operation.number status.Success op_fault.None moment
    (applied (with_power_after operation.work (power_after state operation.work) state)
    (success_changes state operation.work)))

-- the status of the target after a failure, of which this many calls were done
abbrev pub after_failure : Task → ℕ → State → State
after_failure task done state =
    if nat_lt 0 done && breaks_instance task.deed then with_power state task.project task.target.name Error else state

-- Failure after this many calls were done: all rows stay, and the share is returned.
unfoldable pub failed : State → Operation Task → OpFault → ℕ → ℕ → State
failed state operation why done moment =
    returned operation.number
    (ended operation.number status.Failure why moment (after_failure operation.work done state))

-- Cancelled: all rows stay, and the share is returned.
unfoldable pub cancelled : State → ℕ → ℕ → State
cancelled state number moment = returned number (ended number status.Cancelled op_fault.None moment state)
