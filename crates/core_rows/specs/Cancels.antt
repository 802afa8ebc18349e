-- What a cancel makes of a live operation.
use Rattle.std.specs.Prelude.{ℕ, Bool, true, false}
use Rattle.std.specs.Option.{option_map_or}
use Rattle.operations.specs.OperationTable.{live_at}
use Rattle.operations.specs.Statuses.{is_pending}
use Rattle.operations.specs.declared.status.Status.TheVariants.{Cancelling}
use Rattle.row_machine.specs.machine.State.{State}
use Rattle.row_machine.specs.machine.Operations.{cancelled, moved}

-- whether the live operation of a number waits for its first call
abbrev pub waits : State → ℕ → Bool
waits state number = option_map_or (λ operation. is_pending operation.status) (live_at state.operations number) false

-- one that waits has ended as cancelled, and another is being cancelled
abbrev pub stopped : State → ℕ → ℕ → Bool → State
stopped state number moment true = cancelled state number moment
stopped state number moment false = moved number Cancelling moment state
