-- An accepted command, and a live operation: what the laws by kind of change take for granted.
use Rattle.std.specs.Prelude.{◌≡◌, ℕ, ◌<◌, true, Some, None}
use Rattle.size_values.specs.Moments.{moment_limit}
use Rattle.operations.specs.declared.operation.Operation.{Operation}
use Rattle.operations.specs.declared.status.Status.{Status}
use Rattle.operations.specs.OperationTable.{live_at}
use Rattle.records.specs.Forms.{is_formed}
use Rattle.records.specs.declared.commands.Command.{Command}
use Rattle.row_machine.specs.machine.Task.{Task}
use Rattle.row_machine.specs.machine.State.{State}
use Rattle.row_machine.specs.machine.Plans.{Plan, plan_of}
use Rattle.row_machine.specs.machine.Rules.{broken}
use Rattle.row_machine.specs.facts.Whole.{IsWhole}

-- a command that a client can give, at a moment before the year 10000, which breaks no rule, and what is planned for it
pub record IsAccepted (state : State) (command : Command) (moment : ℕ) (planned : Plan) : Type 0 where
  pub whole : IsWhole state
  pub formed : is_formed command ≡ true
  pub early : moment < moment_limit
  pub unbroken : broken state command moment ≡ None
  pub plan : plan_of state command moment ≡ planned

-- a live operation of this status
pub record IsLiveAs (state : State) (operation : Operation Task) (now : Status) : Type 0 where
  pub whole : IsWhole state
  pub live : live_at state.operations operation.number ≡ Some operation
  pub status : operation.status ≡ now
