-- What changes of rows and new operations break, and the reply that tells it.
use Rattle.std.specs.Prelude.{ℕ, List, [], ◌∷◌, Option, option_map}
use Rattle.std.specs.Option.{option_to_list}
use Rattle.plain_lists.specs.Firsts.{first}
use Rattle.size_values.specs.declared.memory.Or.{Or}
use Rattle.size_values.specs.declared.memory.Or.TheVariants as or
use Rattle.operations.specs.declared.faults.EnterFault.{EnterFault}
use Rattle.records.specs.declared.commands.Command.{Command}
use Rattle.records.specs.declared.refusals.Refusal.{Refusal}
use Rattle.records.specs.declared.replies.Reply.{Reply}
use Rattle.records.specs.declared.replies.Reply.TheVariants as reply
use Rattle.records.specs.declared.rows.Row.{Row}
use Rattle.row_machine.specs.machine.State.{State}
use Rattle.row_machine.specs.machine.SettingRules.{settings_broken}
use Rattle.row_machine.specs.machine.PolicyRules.{policy_broken, snapshot_blocked}
use Rattle.row_machine.specs.machine.LimitRules.{counts_broken, limits_broken, project_without_amount}
use Rattle.row_machine.specs.machine.TableRules.{enter_refusal, tables_broken}
use Rattle.row_machine.specs.machine.Task.{Task}
use Rattle.row_readings.specs.declared.amounts.Footprint.{Footprint}
use Rattle.row_readings.specs.declared.pool_limits.PoolLimit.{PoolLimit}
use Rattle.core_totals.specs.OneProject.{in_use, projects_of}
use Rattle.rules_limits.specs.OneProject.{claim_lacks_amount, of_project, share_broken, uses_over}
use Rattle.rules_limits.specs.declared.one_operation.Beside.{Beside}
use Rattle.rules_limits.specs.declared.one_project.InUse.{InUse}
use Rattle.rules_policy.specs.Alone.{claim_forbidden}
use Rattle.rules_policy.specs.Within.{policy_broken_in}

-- the first rule that changes break which put these rows, judged over the state after them
unfoldable pub changes_judged : State → State → List Row → Option Refusal
changes_judged state later rows = first
    (settings_broken later rows
    ∷ policy_broken later
    ∷ counts_broken later
    ∷ limits_broken state later
    ∷ tables_broken later rows
    ∷ [])

-- the first rule on policy and limits that changes break, of all projects, judged over the state after them
abbrev pub projects_judged : State → State → Option Refusal
projects_judged state later = first (policy_broken later ∷ counts_broken later ∷ limits_broken state later ∷ [])

-- the same of the projects of a name: rules on policy, on what is counted, and on limits, by what they used before of
-- these and of these limited pools
unfoldable pub project_forbidden : List ℕ → State → Option Refusal
project_forbidden project later = policy_broken_in later (projects_of later project)

unfoldable pub project_lacks_amount : List ℕ → State → Option Refusal
project_lacks_amount project later = of_project (project_without_amount later) later.projects project

unfoldable pub project_exceeds : List ℕ → List PoolLimit → InUse → State → Option Refusal
project_exceeds project pools used later =
    of_project (uses_over pools used (in_use later project pools)) later.projects project

abbrev pub project_judged : List ℕ → List PoolLimit → InUse → State → Option Refusal
project_judged project pools used later = first
    (project_forbidden project later
    ∷ project_lacks_amount project later
    ∷ project_exceeds project pools used later
    ∷ [])

-- The first rule that a new operation breaks, judged over the state with it, by what it claims alone: by why it could
-- not be entered, and by what the project of its share uses beside it.
unfoldable pub claim_judged : Command → State → Option EnterFault → List ℕ → Beside → Footprint → Task → Option Refusal
claim_judged command later fault project used share task = first
    (settings_broken later (option_to_list task.claim)
    ∷ claim_forbidden later task
    ∷ snapshot_blocked later command
    ∷ claim_lacks_amount later project task
    ∷ share_broken later.projects project used share
    ∷ option_map enter_refusal fault
    ∷ tables_broken later (option_to_list task.claim)
    ∷ [])

-- the reply that tells a refusal, or that memory was refused
abbrev pub reply_for : Or Refusal → Reply
reply_for or.NoMemory = reply.NoMemory
reply_for (or.Why refusal) = reply.Refused refusal
