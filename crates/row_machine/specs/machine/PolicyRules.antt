-- Rules on policy: F1 to F8. What a restricted project forbids of its profiles, its instances, and those that live
-- operations would put.
use Rattle.std.specs.Prelude.{◌==◌, ◌∷◌, if◌then◌else◌}
use Rattle.row_machine.specs.Words.{ℕ, nat_lt, List, [], filter, find, length, Option, Some, None, option_and_then}
use Rattle.row_machine.specs.Words.{keys_of, option_map_or, bytes_eq, first, first_of, Kind, Settings, NamedDevices}
use Rattle.row_machine.specs.Words.{Expanded, Forbidden, Subject, policy_of, demands, setting_lines, first_forbidden}
use Rattle.row_machine.specs.Words.{snapshots_forbidden, Rule, Refusal, Command, What, ObjectKind as kind, Rule as rule}
use Rattle.row_machine.specs.Words.{What as what, Kind as kind_of, Subject as subject, Project, Profile, Instance}
use Rattle.row_machine.specs.Estate.{State, project_named, expanded_of, on_project, on_key_of, is_of_kind}
use Rattle.row_machine.specs.Readings.{judged_instances}
use Rattle.row_machine.specs.machine.SettingRules.{text_at}

abbrev pub policy_rule : ℕ → Rule
policy_rule number =
    if number == 1 then rule.F1
    else (if number == 2 then rule.F2
    else (if number == 3 then rule.F3
    else (if number == 4 then rule.F4
    else (if number == 5 then rule.F5
    else (if number == 6 then rule.F6
    else rule.F7)))))

abbrev pub subject_of : Kind → Subject
subject_of kind_of.Container = subject.Container
subject_of kind_of.Machine = subject.Machine

-- the key that the table demands: that of its line against an absent key
abbrev pub demanded_key : List ℕ
demanded_key = option_map_or (λ line. line.4) (find (λ line. demands line.5) setting_lines) []

-- the setting or the device that is forbidden; a demanded key that is absent has the place after all settings
abbrev pub forbidden_key : Settings → NamedDevices → Forbidden → List ℕ
forbidden_key config devices forbidden =
    if nat_lt forbidden.rule 6
    then (if nat_lt forbidden.place (length config) then text_at (keys_of config) forbidden.place else demanded_key)
    else text_at (keys_of devices) forbidden.place

-- the rule of this number, where it is the first one that the settings and devices of a subject break
abbrev pub forbids : Project → ℕ → Subject → List ℕ → Settings → NamedDevices → Option Refusal
forbids project number judged name config devices =
    option_and_then
    (λ forbidden. if forbidden.rule == number
    then Some (on_key_of (policy_rule number) (forbidden_key config devices forbidden) name project.name)
    else None)
    (first_forbidden (policy_of project.config) judged config devices)

unfoldable pub forbids_profile : Project → ℕ → Profile → Option Refusal
forbids_profile project number profile =
    forbids project number subject.Profile profile.name profile.config profile.devices

unfoldable pub forbids_instance : State → Project → ℕ → Instance → Option Refusal
forbids_instance state project number instance =
    forbids project number (subject_of instance.kind) instance.name expanded.config expanded.devices where
      expanded : Expanded
      expanded = expanded_of state.projects state.profiles instance

-- the first profile or instance of a project that breaks the rule, those that live operations would put last
abbrev pub project_forbids : State → ℕ → Project → Option Refusal
project_forbids state number project = first
    (first_of (forbids_profile project number)
    (filter (λ profile. bytes_eq profile.project project.name) state.profiles)
    ∷ first_of (forbids_instance state project number)
    (filter (λ instance. bytes_eq instance.project project.name) (judged_instances state))
    ∷ [])

-- F1 to F7: the first rule that is broken, and the first project, profile or instance at which it is.
unfoldable pub policy_broken : State → Option Refusal
policy_broken state =
    first_of (λ number. first_of (project_forbids state number) state.projects) (1 ∷ 2 ∷ 3 ∷ 4 ∷ 5 ∷ 6 ∷ 7 ∷ [])

-- F8: a snapshot is made where the policy of the project blocks it.
unfoldable pub snapshot_blocked : State → Command → Option Refusal
snapshot_blocked state command = blocked command.what where
  by : Project → Option Refusal
  by project = if snapshots_forbidden (policy_of project.config) then Some (on_project rule.F8 project.name) else None

  blocked : What → Option Refusal
  blocked (what.Create of body) =
      if is_of_kind kind.Snapshot of then option_and_then by (project_named state.projects command.project) else None
  blocked other = None
