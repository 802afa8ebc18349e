-- The settings of the instances that name a profile, and of what an instance has by its profiles.
use Rattle.std.specs.Prelude.{[], ◌∷◌, Option, Some, None, if◌then◌else◌, option_and_then}
use Rattle.plain_lists.specs.Firsts.{first, first_of}
use Rattle.config_lists.specs.Devices.{NamedDevices, root_of}
use Rattle.records.specs.declared.refusals.Rule.TheVariants as rule
use Rattle.records.specs.declared.refusals.Refusal.{Refusal}
use Rattle.records.specs.declared.rows.Profile.{Profile}
use Rattle.records.specs.declared.rows.Instance.{Instance}
use Rattle.row_machine.specs.machine.Task.{Task}
use Rattle.row_machine.specs.machine.State.{State}
use Rattle.row_machine.specs.machine.Claims.{claimed_instance}
use Rattle.row_machine.specs.machine.Holders.{names_profile}
use Rattle.row_machine.specs.machine.Refusals.{on_name}
use Rattle.row_machine.specs.machine.SettingRules.{is_one, profile_missing, devices_miss, instance_settings}

-- an instance with these devices, those of its profiles among them
abbrev pub with_devices : State → Instance → NamedDevices → Option Refusal
with_devices state instance devices = first
    ((if is_one (root_of devices) then None else Some (on_name rule.V4 instance.name))
    ∷ profile_missing state instance
    ∷ devices_miss state instance.project devices
    ∷ [])

-- an instance that names the profile
abbrev pub where_named : State → Profile → Instance → Option Refusal
where_named state profile instance =
    if names_profile state profile.project profile.name instance then instance_settings state instance else None

-- one that an operation would put
abbrev pub where_claimed : State → Profile → Task → Option Refusal
where_claimed state profile task = option_and_then (where_named state profile) (claimed_instance task)

-- instances, then claims
abbrev pub all_named : State → Profile → Option Refusal
all_named state profile = first (first_of (where_named state profile) state.instances
    ∷ first_of (λ operation. where_claimed state profile operation.work) state.operations.live ∷ [])
