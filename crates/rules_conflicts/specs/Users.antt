-- The URLs of single users, each of which may be the first one.
use Rattle.std.specs.Prelude.{ℕ, ◌&&◌, false, List, Option, Some, None, if◌then◌else◌}
use Rattle.std.specs.Option.{option_map_or}
use Rattle.std.specs.Str.{bytes_eq}
use Rattle.operations.specs.declared.operation.Operation.{Operation}
use Rattle.records.specs.declared.rows.Profile.{Profile}
use Rattle.records.specs.declared.rows.Volume.{Volume}
use Rattle.records.specs.declared.rows.Instance.{Instance}
use Rattle.records.specs.declared.rows.Row.TheVariants as row
use Rattle.records.specs.declared.commands.Target.{Target}
use Rattle.row_machine.specs.machine.Task.{Task}
use Rattle.row_machine.specs.machine.State.{State}
use Rattle.row_machine.specs.machine.Claims.{project_of_row}
use Rattle.row_machine.specs.machine.Holders.{claim_uses, instance_uses, names_profile, profile_uses, user_url}
use Rattle.row_machine.specs.machine.Holders.{volume_uses, task_url}

-- a profile that names the object
abbrev pub profile_url : State → List ℕ → Target → Profile → Option (List ℕ)
profile_url state home of profile = user_url (profile_uses state home of profile) (row.Profile profile)

-- an instance that names the object
abbrev pub instance_url : State → List ℕ → Target → Instance → Option (List ℕ)
instance_url state home of instance = user_url (instance_uses state home of instance) (row.Instance instance)

-- a volume that names the object
abbrev pub volume_url : Target → Volume → Option (List ℕ)
volume_url of volume = user_url (volume_uses of volume) (row.Volume volume)

-- a live operation whose claim belongs to this project and names the object
abbrev pub claim_url : State → List ℕ → Target → List ℕ → Operation Task → Option (List ℕ)
claim_url state home of project operation =
    if option_map_or (λ new. bytes_eq (project_of_row new) project) operation.work.claim false
    && claim_uses state home of operation.work
    then Some (task_url operation.work)
    else None

-- an instance that names the profile
abbrev pub naming_url : State → List ℕ → List ℕ → Instance → Option (List ℕ)
naming_url state home profile instance = user_url (names_profile state home profile instance) (row.Instance instance)
