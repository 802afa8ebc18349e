-- What the success of an operation does to usage.
use Rattle.std.specs.Prelude.{◌≡◌, ◌≢◌, ℕ, ◌+◌, ◌-◌, ◌≤◌, List, [], Some, true}
use Rattle.size_values.specs.Amounts.{part, minus_of}
use Rattle.size_values.specs.PoolParts.{on_pool}
use Rattle.size_values.specs.declared.amounts.Part.{Part}
use Rattle.host_model.specs.declared.report.Report.TheVariants as report
use Rattle.operations.specs.declared.operation.Operation.{Operation}
use Rattle.operations.specs.declared.status.Status.TheVariants as status
use Rattle.operations.specs.OperationTable.{live_at}
use Rattle.records.specs.declared.rows.Instance.{Instance}
use Rattle.row_machine.specs.declared.events.Event.TheVariants as event
use Rattle.row_machine.specs.machine.Task.{Task}
use Rattle.row_machine.specs.machine.State.{State}
use Rattle.row_machine.specs.machine.Rows.{instance_named}
use Rattle.row_machine.specs.machine.Claims.{claimed_instance, amounts_of_instance, part_of_instance}
use Rattle.row_machine.specs.machine.Usage.{usage_of, used_on}
use Rattle.row_machine.specs.machine.Accept.{After}
use Rattle.row_machine.specs.machine.Step.{well, step}
use Rattle.row_machine.specs.facts.Whole.{IsWhole}
use Rattle.row_machine.specs.machine.Deeds.{keeps_name}

-- a running operation whose last call is reported as done
pub record IsLastDone (state : State) (operation : Operation Task) : Type 0 where
  pub whole : IsWhole state
  pub live : live_at state.operations operation.number ≡ Some operation
  pub running : operation.status ≡ status.Running
  pub calls : operation.work.calls ≡ []

-- The target of an operation stands, and a changed row of it is claimed. Between these states the usage of its project
-- falls by exactly the parts in which the new row lies below the old one, on each pool too, and that of every other
-- project stays.
pub record LowersUsage (state later : State) (operation : Operation Task) : Type 0 where
  pub old : Instance
  pub new : Instance
  pub stands : instance_named state.instances operation.work.project operation.work.target.name ≡ Some old
  pub claimed : claimed_instance operation.work ≡ Some new
  pub own : (a_part : Part)
      → part a_part (usage_of state operation.work.project)
      ≡ part a_part (usage_of later operation.work.project)
      + part a_part (minus_of (amounts_of_instance state old) (amounts_of_instance state new))
  pub others : (project : List ℕ) → project ≢ operation.work.project → (a_part : Part)
      → part a_part (usage_of later project) ≡ part a_part (usage_of state project)
  pub own_pools : (pool : List ℕ)
      → used_on state operation.work.project pool
      ≡ used_on later operation.work.project pool
      + (on_pool pool (part_of_instance state old) - on_pool pool (part_of_instance state new))
  pub other_pools : (project : List ℕ) → project ≢ operation.work.project → (pool : List ℕ)
      → used_on later project pool ≡ used_on state project pool

-- an update or a restore that succeeds
abbrev pub UpdatesLower : Type 0
UpdatesLower =
    (state : State) (operation : Operation Task) (moment : ℕ) (after : After) →
    IsLastDone state operation → keeps_name operation.work.deed ≡ true
    → step state (event.Done operation.number report.Done moment) well ≡ Some after
    → LowersUsage state after.state operation

-- usage no greater than it was, of each project, part by part and on each pool
pub record RaisesNothing (state later : State) : Type 0 where
  pub parts : (project : List ℕ) (a_part : Part)
      → part a_part (usage_of later project) ≤ part a_part (usage_of state project)
  pub pools : (project pool : List ℕ) → used_on later project pool ≤ used_on state project pool

-- whatever succeeds raises no part of the usage of any project, nor what it uses of any pool
abbrev pub SuccessesRaiseNothing : Type 0
SuccessesRaiseNothing = (state : State) (operation : Operation Task) (moment : ℕ) (after : After)
    → IsLastDone state operation → step state (event.Done operation.number report.Done moment) well ≡ Some after
    → RaisesNothing state after.state
