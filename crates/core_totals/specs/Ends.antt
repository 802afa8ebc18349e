-- What the end of an operation makes of totals.
use Rattle.std.specs.Prelude.{◌≡◌, ℕ, Bool, true, false, Option, Some, None, IfSome, find, if◌then◌else◌}
use Rattle.std.specs.Option.{option_map_or}
use Rattle.size_values.specs.declared.amounts.Amounts.{Amounts}
use Rattle.size_values.specs.declared.pool_part.PoolPart.{PoolPart}
use Rattle.size_values.specs.declared.kinds.Action.TheVariants as action
use Rattle.size_values.specs.declared.kinds.Deed.{Deed}
use Rattle.size_values.specs.declared.kinds.Deed.TheVariants as deed
use Rattle.operations.specs.declared.operation.Operation.{Operation}
use Rattle.operations.specs.declared.status.Status.{Status}
use Rattle.operations.specs.declared.status.Status.TheVariants as status
use Rattle.operations.specs.OperationTable.{live_at}
use Rattle.row_machine.specs.machine.Claims.{claimed_instance, project_of_row}
use Rattle.row_machine.specs.machine.Rows.{instance_named}
use Rattle.row_machine.specs.machine.State.{State}
use Rattle.row_machine.specs.machine.Task.{Task}
use Rattle.row_machine.specs.machine.Operations.{is_held_by, held_share, held_on_pool}
use Rattle.row_readings.specs.Footprints.{no_footprint, footprint_above, instance_footprint}
use Rattle.row_readings.specs.declared.amounts.Footprint.{Footprint}
use Rattle.core_totals.specs.declared.ends.Counted.{Counted}
use Rattle.core_totals.specs.declared.totals.Totals.{Totals}
use Rattle.core_totals.specs.Totals.{lowered, nothing_known}

-- the share that an operation holds, with the part of it on a pool
abbrev pub held_footprint : State → ℕ → Footprint
held_footprint state number = record { amounts = held_share state number; on = held_on_pool state number }

-- what was claimed counts no more
abbrev pub given_back : Task → Amounts → PoolPart → Totals → Totals
given_back task share part totals =
    option_map_or (λ row. lowered (project_of_row row) share part totals) task.claim totals

-- the same of what an operation holds, if it holds something
abbrev pub held_given_back : State → ℕ → Task → Totals → Totals
held_given_back state number task totals =
    option_map_or (λ hold. given_back task hold.share hold.part totals) (find (is_held_by number) state.held) totals

-- whether the success of a deed makes its project use just what was claimed for it, and what it used before
abbrev pub leaves_usage : Deed → Bool
leaves_usage deed.Create = true
leaves_usage deed.Copy = true
leaves_usage deed.Snap = true
leaves_usage deed.Unsnap = true
leaves_usage (deed.Act action.Stop ephemeral) = if ephemeral then false else true
leaves_usage (deed.Act does ephemeral) = true
leaves_usage other = false

-- whether the success of a deed changes its target under its name, or removes it
abbrev pub has_fall : Deed → Bool
has_fall deed.Update = true
has_fall deed.Restore = true
has_fall deed.Delete = true
has_fall (deed.Act action.Stop ephemeral) = ephemeral
has_fall other = false

-- By how much that lowers what its project uses: by the parts in which the claimed row, or none, lies below the target,
-- on the target's pool too.
abbrev pub fall_of : State → Task → Footprint
fall_of state task = option_map_or
    (λ old. footprint_above (instance_footprint state old)
    (option_map_or (instance_footprint state) (claimed_instance task) no_footprint))
    (instance_named state.instances task.project task.target.name) no_footprint

-- an operation that has such a fall
abbrev pub HasFall : State → Option (Operation Task) → Footprint → Type 0
HasFall state None fall = Unit {0}
HasFall state (Some operation) fall = (has_fall operation.work.deed ≡ true) × (fall ≡ fall_of state operation.work)

-- what the operation of a number counts for: the share that it holds, and the fall of its success, where they are known
pub record IsCounted (state : State) (number : ℕ) (counted : Counted) : Type 0 where
  pub share : IfSome counted.share (λ share. share ≡ held_footprint state number)
  pub fall : IfSome counted.fall (HasFall state (live_at state.operations number))

-- after an end that gives back what was claimed; where that is not known, nothing is
abbrev pub after_return : Task → Option Footprint → Totals → Totals
after_return task (Some share) totals = given_back task share.amounts share.on totals
after_return task None totals = nothing_known

-- after a success
abbrev pub after_success : Task → Option Footprint → Totals → Totals
after_success task (Some fall) totals = lowered task.project fall.amounts fall.on totals
after_success task None totals = if leaves_usage task.deed then totals else nothing_known

-- by how it ended; of an operation that did not, nothing is known
abbrev pub after_status : Status → Task → Counted → Totals → Totals
after_status status.Failure task counted totals = after_return task counted.share totals
after_status status.Cancelled task counted totals = after_return task counted.share totals
after_status status.Success task counted totals = after_success task counted.fall totals
after_status other task counted totals = nothing_known

abbrev pub after_end_of : Operation Task → Counted → Totals → Totals
after_end_of operation counted totals = after_status operation.status operation.work counted totals

-- of the operation that is kept
abbrev pub after_end : Option (Operation Task) → Counted → Totals → Totals
after_end None counted totals = nothing_known
after_end (Some operation) counted totals = after_end_of operation counted totals
