-- What a project forbids within itself: nothing of what belongs to other projects; and what some projects forbid.
use Rattle.std.specs.Prelude.{ℕ, List, [], ◌∷◌, Option, None, if◌then◌else◌, option_and_then}
use Rattle.std.specs.Str.{bytes_eq}
use Rattle.plain_lists.specs.Firsts.{first, first_of}
use Rattle.records.specs.declared.refusals.Refusal.{Refusal}
use Rattle.records.specs.declared.rows.Project.{Project}
use Rattle.records.specs.declared.rows.Profile.{Profile}
use Rattle.records.specs.declared.rows.Instance.{Instance}
use Rattle.row_machine.specs.machine.Task.{Task}
use Rattle.row_machine.specs.machine.State.{State}
use Rattle.row_machine.specs.machine.Claims.{claimed_instance}
use Rattle.row_machine.specs.machine.PolicyRules.{forbids_profile, forbids_instance, project_forbids}

-- a profile of the project
abbrev pub own_profile : Project → ℕ → Profile → Option Refusal
own_profile project number profile =
    if bytes_eq profile.project project.name then forbids_profile project number profile else None

-- an instance of the project
abbrev pub own_instance : State → Project → ℕ → Instance → Option Refusal
own_instance state project number instance =
    if bytes_eq instance.project project.name then forbids_instance state project number instance else None

-- an instance of the project that an operation would put
abbrev pub own_claim : State → Project → ℕ → Task → Option Refusal
own_claim state project number task = option_and_then (own_instance state project number) (claimed_instance task)

-- profiles, then instances, then claims
abbrev pub own_objects : State → Project → ℕ → Option Refusal
own_objects state project number = first
    (first_of (own_profile project number) state.profiles
    ∷ first_of (own_instance state project number) state.instances
    ∷ first_of (λ operation. own_claim state project number operation.work) state.operations.live
    ∷ [])

-- F1 to F7 of some projects: the first rule that is broken, and the first of them at which it is
abbrev pub policy_broken_in : State → List Project → Option Refusal
policy_broken_in state projects =
    first_of (λ number. first_of (project_forbids state number) projects) (1 ∷ 2 ∷ 3 ∷ 4 ∷ 5 ∷ 6 ∷ 7 ∷ [])
