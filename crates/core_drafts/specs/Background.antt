-- What contracts see of the operations of a draft.
use Rattle.std.specs.Prelude.{ℕ, ◌+◌, ◌-◌, ◌<◌, ◌^◌, List, [], ◌∷◌, ◌++◌, find, Option, Some, None, IfSome, is_some}
use Rattle.std.specs.Prelude.{length, take, option_and_then, option_map}
use Rattle.host_model.specs.declared.call.HostCall.{HostCall}
use Rattle.instance_states.specs.Plans.{undo_of}
use Rattle.operations.specs.declared.operation.Operation.{Operation}
use Rattle.operations.specs.declared.operation.OpFault.TheVariants as fault
use Rattle.operations.specs.declared.status.Status.TheVariants as status
use Rattle.operations.specs.OperationTable.{OperationTable, live_at}
use Rattle.reservations.specs.declared.books.Books.{Books}
use Rattle.reservations.specs.declared.books.Hold.{Hold}
use Rattle.core_drafts.specs.declared.calls.Handing.{Handing}
use Rattle.core_drafts.specs.declared.calls.Handing.TheVariants as handing
use Rattle.row_machine.specs.machine.Task.{Task}
use Rattle.reservations.specs.Holdings.{has_op, granted_more}
use Rattle.row_machine.specs.machine.State.{State}
use Rattle.size_values.specs.Amounts.{nothing}
use Rattle.size_values.specs.PoolParts.{no_part}
use Rattle.size_values.specs.declared.pool_part.PoolPart.{PoolPart}
use Rattle.size_values.specs.declared.amounts.Amounts.{Amounts}
use Rattle.std.specs.Option.{option_map_or}
use Rattle.row_machine.specs.machine.Operations.{handing_out, one_more_done, undone}

-- how many operations can be entered, and how many shares held, without taking memory; and the greatest operation that
-- ever held a share, 0 where none did
pub record Backing : Type 0 where
  pub claim_room : ℕ
  pub hold_room : ℕ
  pub greatest : ℕ

-- the kept operations, the shares that they hold, the books, and what there is memory for
pub record Background : Type 0 where
  pub operations : OperationTable Task
  pub held : List Hold
  pub books : Books
  pub backing : Backing

-- the state with these operations and shares
abbrev pub with_background : Background → State → State
with_background background state =
    record state { operations = background.operations; held = background.held; books = background.books }

-- ---- shares

-- the share that this operation holds
abbrev pub share_in : List Hold → ℕ → Amounts
share_in held op = option_map_or (λ (hold : Hold). hold.share) (find (has_op op) held) nothing

-- the part on a pool of the share that this operation holds
abbrev pub part_in : List Hold → ℕ → PoolPart
part_in held op = option_map_or (λ (hold : Hold). hold.part) (find (has_op op) held) no_part

-- the operation that was entered last holds this share of a project from now on, with this part on a pool
abbrev pub holding : List ℕ → Amounts → PoolPart → State → State
holding project share on state = record state {
  held = state.held ++ record { op = state.operations.next - 1; project = project; share = share; part = on } ∷ [];
  books = granted_more share on state.books;
}

-- ---- claims

-- an operation that waits for its first call
abbrev pub pending_of : ℕ → Task → ℕ → Operation Task
pending_of number task moment = record {
  number = number;
  created = moment;
  updated = moment;
  status = status.Pending;
  may_cancel = is_some (undo_of task.deed);
  fault = fault.None;
  work = task;
}

-- the operations as they were before the one that was entered last
abbrev pub before_claim : OperationTable Task → OperationTable Task
before_claim kept = record { live = take (length kept.live - 1) kept.live; ended = kept.ended; next = kept.next - 1 }

-- ---- calls

-- the call that a task hands out, and the task after it: the first call that is left, the same once one more was done,
-- or the call that takes the deed back
abbrev pub handed : Handing → Task → Option (HostCall × Task)
handed handing.First task = by_calls task.calls where
  by_calls : List HostCall → Option (HostCall × Task)
  by_calls [] = None
  by_calls (call ∷ rest) = Some (call, handing_out task rest)
handed handing.Next task = by_calls task.calls where
  by_calls : List HostCall → Option (HostCall × Task)
  by_calls [] = None
  by_calls (call ∷ rest) = Some (call, one_more_done task rest)
handed handing.Undo task = option_map (λ call. (call, undone task)) task.undo

-- what the live operation of this number hands out
abbrev pub handed_at : Handing → OperationTable Task → ℕ → Option (HostCall × Task)
handed_at which kept number =
    option_and_then (λ (operation : Operation Task). handed which operation.work) (live_at kept number)

-- one more call can be counted
abbrev pub HasCount : Handing → Task → Type 0
HasCount handing.Next task = task.done + 1 < 2 ^ 32
HasCount other task = Unit {0}

-- the same of the live operation of this number
abbrev pub HasCountAt : Handing → OperationTable Task → ℕ → Type 0
HasCountAt which kept number =
    IfSome (live_at kept number) (λ (operation : Operation Task). HasCount which operation.work)
