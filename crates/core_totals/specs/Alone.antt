-- A new operation is judged by what it claims alone.
use Rattle.std.specs.Prelude.{◌≡◌, ℕ, List}
use Rattle.rules_limits.specs.OneProject.{claim_lacks_amount, share_broken}
use Rattle.rules_limits.specs.declared.one_operation.Beside.{Beside}
use Rattle.rules_policy.specs.Alone.{claim_forbidden}
use Rattle.row_machine.specs.facts.Whole.{IsWhole}
use Rattle.row_machine.specs.machine.Claims.{part_of_share}
use Rattle.row_machine.specs.machine.LimitRules.{counts_broken, limits_broken}
use Rattle.row_machine.specs.machine.PolicyRules.{policy_broken}
use Rattle.row_machine.specs.machine.State.{State}
use Rattle.row_machine.specs.machine.Task.{Task}
use Rattle.row_machine.specs.machine.Usage.{usage_of, used_on}
use Rattle.row_machine.specs.machine.Operations.{claiming, project_of_task}
use Rattle.row_readings.specs.Footprints.{share_footprint}

-- all that a project uses, as far as a share is judged by it that has a part on this pool
abbrev pub all_beside : State → List ℕ → List ℕ → Beside
all_beside state project pool =
    record { amounts = usage_of state project; on_pool = used_on state project pool }

-- the same of the project and the pool of the share of an operation
abbrev pub beside_share : State → Task → Beside
beside_share state task = all_beside state (project_of_task task) (part_of_share state task).pool

-- Where all facts hold, a rule on what is counted (L0), on policy (F1 to F7) or on limits (L1 to L9) that the state
-- with one more operation breaks is one that the claimed row breaks alone: of the limits, what its project uses
-- before it and its share decide.
pub record IsJudgedAlone (state : State) (task : Task) (moment : ℕ) : Type 0 where
  pub counts : counts_broken (claiming state task moment) ≡ claim_lacks_amount state (project_of_task task) task
  pub policy : policy_broken (claiming state task moment) ≡ claim_forbidden state task
  pub limits : limits_broken state (claiming state task moment)
      ≡ share_broken state.projects (project_of_task task) (beside_share state task) (share_footprint state task)

abbrev pub ClaimsAreJudgedAlone : Type 0
ClaimsAreJudgedAlone = (state : State) (task : Task) (moment : ℕ) → IsWhole state → IsJudgedAlone state task moment
