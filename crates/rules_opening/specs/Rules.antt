-- The rules on kept rows, named, and the parts of them that have no name elsewhere.
use Rattle.std.specs.Prelude.{ℕ, ◌==◌, ◌&&◌, ◌||◌, Bool, not, is_none, codes, List, [], ◌∷◌, if◌then◌else◌}
use Rattle.std.specs.Prelude.{Option, Some, None, option_map, option_and_then}
use Rattle.std.specs.Str.{bytes_eq}
use Rattle.plain_lists.specs.Firsts.{first}
use Rattle.config_lists.specs.Devices.{NamedDevices, root_of}
use Rattle.config_lists.specs.Settings.{Settings, setting}
use Rattle.option_tables.specs.declared.faults.SettingFault.{SettingFault}
use Rattle.option_tables.specs.declared.faults.SettingFault.TheVariants as fault
use Rattle.project_limits.specs.declared.sums.SumKey.{SumKey}
use Rattle.restrictions.specs.Forbids.{first_forbidden}
use Rattle.restrictions.specs.Policies.{policy_of}
use Rattle.restrictions.specs.declared.rows.Subject.{Subject}
use Rattle.records.specs.declared.refusals.Refusal.{Refusal}
use Rattle.records.specs.declared.refusals.Rule.{Rule}
use Rattle.records.specs.declared.refusals.Rule.TheVariants as rule
use Rattle.records.specs.declared.rows.Instance.{Instance}
use Rattle.records.specs.declared.rows.Project.{Project}
use Rattle.records.specs.declared.rows.Row.{Row}
use Rattle.row_machine.specs.machine.Expansions.{expanded_of}
use Rattle.row_machine.specs.machine.Homes.{is_on}
use Rattle.row_machine.specs.machine.PolicyRules.{policy_rule}
use Rattle.row_machine.specs.machine.Rows.{default_name, profile_named}
use Rattle.row_machine.specs.machine.SettingRules.{is_one, profile_missing, devices_miss, volume_missing}
use Rattle.row_machine.specs.machine.State.{State}
use Rattle.row_machine.specs.opening.Opening.{Opening, broken, has_all_features, home_missing, parent_row_missing}
use Rattle.row_machine.specs.opening.Opening.{profiles_malformed}
use Rattle.row_machine.specs.opening.Opening.{defaults_missing, settings_invalid, devices_invalid, root_disk_missing}
use Rattle.row_machine.specs.opening.Opening.{named_row_missing, forbidden}
use Rattle.row_machine.specs.opening.Opening.{row_lacks_amount}
use Rattle.rules_opening.specs.declared.rules.RowRule.{RowRule}
use Rattle.rules_opening.specs.declared.rules.RowRule.TheVariants as row_rule_of

-- the project `default` lacks a feature, or a project with profiles of its own has no profile `default`
abbrev pub lacks_defaults : State → Project → Bool
lacks_defaults state project =
    (bytes_eq project.name default_name && not (has_all_features project))
    || (is_on project.config (codes "features.profiles")
    && is_none (profile_named state.profiles project.name default_name))

-- the rule that a fault breaks
abbrev pub fault_rule : SettingFault → Rule
fault_rule (fault.Unknown place) = rule.V1
fault_rule (fault.Bad place why) = rule.V2
fault_rule (fault.Device place why) = rule.V3

-- the rule on root disks, where there is not exactly one
abbrev pub without_root : NamedDevices → Option Rule
without_root devices = if is_one (root_of devices) then None else Some rule.V4

-- the volume that a disk of a pool names, where it has a source
abbrev pub source_missing : State → List ℕ → Settings → List ℕ → Option Refusal
source_missing state project settings pool =
    option_and_then (volume_missing state project pool) (setting settings (codes "source"))

-- what an instance with these devices names
abbrev pub names_missing : State → Instance → NamedDevices → Option Refusal
names_missing state instance devices =
    first (profile_missing state instance ∷ devices_miss state instance.project devices ∷ [])

-- what an instance names, with the devices that it has by its profiles
abbrev pub instance_refers_amiss : State → Instance → Option Refusal
instance_refers_amiss state instance =
    names_missing state instance (expanded_of state.projects state.profiles instance).devices

-- the rule of this number, where it is the first one that the settings and devices of a subject break
abbrev pub forbidden_rule : Project → ℕ → Subject → Settings → NamedDevices → Option Rule
forbidden_rule project number judged config devices =
    option_and_then (λ found. if found.rule == number then Some (policy_rule number) else None)
    (first_forbidden (policy_of project.config) judged config devices)

-- the rule that is broken where some sum gets no number, or a limited pool no size
abbrev pub without_amount_by : Option SumKey → Option (List ℕ) → Option Rule
without_amount_by (Some sum) pool = Some rule.L0
without_amount_by None pool = option_map (λ limited. rule.L0) pool

-- a rule on one row, by its name
abbrev pub row_rule : RowRule → State → Row → Option Rule
row_rule row_rule_of.HomeMissing state row = home_missing state row
row_rule row_rule_of.ParentRowMissing state row = parent_row_missing state row
row_rule row_rule_of.ProfilesMalformed state row = profiles_malformed state row
row_rule row_rule_of.DefaultsMissing state row = defaults_missing state row
row_rule row_rule_of.SettingsInvalid state row = settings_invalid state row
row_rule row_rule_of.DevicesInvalid state row = devices_invalid state row
row_rule row_rule_of.RootDiskMissing state row = root_disk_missing state row
row_rule row_rule_of.NamedRowMissing state row = named_row_missing state row
row_rule (row_rule_of.Forbidden number) state row = forbidden number state row
row_rule row_rule_of.RowLacksAmount state row = row_lacks_amount state row

-- what an opening tells of a limit that is exceeded: its rule, at the project
abbrev pub breach_of : Refusal → Opening
breach_of refusal = broken refusal.rule 1 refusal.details.project
