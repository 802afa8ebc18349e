-- What a project forbids within itself asks nothing of the rows of other projects.
use Rattle.std.proofs.Common.{◌≡◌, ℕ, Bool, true, false, cond, Some, None, List, [], ◌∷◌, filter, option_and_then, ap, ◌∙◌}
use Rattle.std.specs.Str.{bytes_eq}
use Rattle.plain_lists.specs.Firsts.{first_of}
use Rattle.plain_lists.proofs.FirstLemmas.{none-first_of}
use Rattle.records.specs.declared.rows.Project.{Project}
use Rattle.records.specs.declared.rows.Profile.{Profile}
use Rattle.records.specs.declared.rows.Instance.{Instance}
use Rattle.row_machine.specs.machine.Claims.{claimed_instance}
use Rattle.row_machine.specs.machine.State.{State}
use Rattle.row_machine.specs.machine.Task.{Task}
use Rattle.row_machine.specs.machine.PolicyRules.{forbids_profile, forbids_instance}
use Rattle.row_readings.proofs.Ranges.{apart, first_of-filter}
use Rattle.rules_policy.specs.Alone.{claim_forbidden_in}
use Rattle.rules_policy.specs.Within.{own_profile, own_instance, own_claim}

module _ (project : Project) (number : ℕ) where
  pub own-profiles : (profiles : List Profile)
      → first_of (own_profile project number) (filter (λ row. bytes_eq row.project project.name) profiles) ≡ first_of (own_profile project number) profiles
  own-profiles profiles = first_of-filter (own_profile project number) (λ row. bytes_eq row.project project.name) profiles
      (λ row other. ap (λ b. cond b (forbids_profile project number row) None) other)

  pub own-instances : (s : State) (instances : List Instance)
      → first_of (own_instance s project number) (filter (λ row. bytes_eq row.project project.name) instances) ≡ first_of (own_instance s project number) instances
  own-instances s instances = first_of-filter (own_instance s project number) (λ row. bytes_eq row.project project.name) instances
      (λ row other. ap (λ b. cond b (forbids_instance s project number row) None) other)

-- ---- what an operation would put is judged in its project alone

module _ (state : State) (task : Task) where
  pub no-claim : claimed_instance task ≡ None → claim_forbidden_in state state.projects task ≡ None
  no-claim none = none-first_of (λ number. first_of (λ project. own_claim state project number task) state.projects) (1 ∷ 2 ∷ 3 ∷ 4 ∷ 5 ∷ 6 ∷ 7 ∷ [])
      (record {
        at = λ number m. none-first_of (λ project. own_claim state project number task) state.projects
            (record { at = λ project n. ap (option_and_then (own_instance state project number)) none });
      })

  pub claim-alone : (row : Instance) → claimed_instance task ≡ Some row
      → claim_forbidden_in state (filter (λ project. bytes_eq project.name row.project) state.projects) task ≡ claim_forbidden_in state state.projects task
  claim-alone row is = λ i. first_of (λ number. asked number i) (1 ∷ 2 ∷ 3 ∷ 4 ∷ 5 ∷ 6 ∷ 7 ∷ []) where
    asked : (number : ℕ) → first_of (λ project. own_claim state project number task) (filter (λ project. bytes_eq project.name row.project) state.projects)
        ≡ first_of (λ project. own_claim state project number task) state.projects
    asked number = first_of-filter (λ project. own_claim state project number task) (λ project. bytes_eq project.name row.project) state.projects
        (λ project other. ap (option_and_then (own_instance state project number)) is
        ∙ ap (λ b. cond b (forbids_instance state project number row) None) (apart project.name row.project other))
