-- The rules on policy for a new operation alone, and for a new profile: where all facts hold before it, nothing but
-- what it claims, or what the profile has, can break them.
use Rattle.std.specs.Prelude.{List, [], ◌∷◌, Option, option_and_then}
use Rattle.plain_lists.specs.Firsts.{first_of}
use Rattle.restrictions.specs.declared.rows.Subject.TheVariants as subject
use Rattle.restrictions.specs.Forbids.{first_forbidden}
use Rattle.restrictions.specs.Policies.{policy_of}
use Rattle.records.specs.declared.refusals.Refusal.{Refusal}
use Rattle.records.specs.declared.rows.Project.{Project}
use Rattle.records.specs.declared.rows.Profile.{Profile}
use Rattle.row_machine.specs.machine.PolicyRules.{forbids_profile}
use Rattle.row_machine.specs.machine.Rows.{project_named}
use Rattle.row_machine.specs.machine.State.{State}
use Rattle.row_machine.specs.machine.Task.{Task}
use Rattle.rules_policy.specs.Within.{own_claim}

-- the first rule that the claimed instance breaks in one of these projects, where it is its own
abbrev pub claim_forbidden_in : State → List Project → Task → Option Refusal
claim_forbidden_in state projects task =
    first_of (λ number. first_of (λ project. own_claim state project number task) projects)
    (1 ∷ 2 ∷ 3 ∷ 4 ∷ 5 ∷ 6 ∷ 7 ∷ [])

-- F1 to F7: the first rule that the claimed instance breaks in a project of its own.
unfoldable pub claim_forbidden : State → Task → Option Refusal
claim_forbidden state task = claim_forbidden_in state state.projects task

-- the rule of the first thing that the policy of a project forbids of what a profile has
abbrev pub first_forbids : Project → Profile → Option Refusal
first_forbids project profile =
    option_and_then (λ found. forbids_profile project found.rule profile)
    (first_forbidden (policy_of project.config) subject.Profile profile.config profile.devices)

-- F1 to F7: the first rule that a profile breaks in its project.
unfoldable pub profile_forbidden : State → Profile → Option Refusal
profile_forbidden state profile =
    option_and_then (λ project. first_forbids project profile) (project_named state.projects profile.project)
