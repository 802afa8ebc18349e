-- What a project counts within itself: nothing of what belongs to other projects.
use Rattle.std.specs.Prelude.{[], ◌∷◌, Option, None, if◌then◌else◌}
use Rattle.std.specs.Str.{bytes_eq}
use Rattle.plain_lists.specs.Firsts.{first, first_of}
use Rattle.records.specs.declared.refusals.Refusal.{Refusal}
use Rattle.records.specs.declared.rows.Project.{Project}
use Rattle.records.specs.declared.rows.Volume.{Volume}
use Rattle.records.specs.declared.rows.Instance.{Instance}
use Rattle.row_machine.specs.machine.State.{State}
use Rattle.row_machine.specs.machine.LimitRules.{instance_without_amount, volume_lacks_amount, claim_without_amount}

-- an instance of the project
abbrev pub own_instance : State → Project → Instance → Option Refusal
own_instance state project instance =
    if bytes_eq instance.project project.name then instance_without_amount state project instance else None

-- a volume of the project
abbrev pub own_volume : Project → Volume → Option Refusal
own_volume project volume = if bytes_eq volume.project project.name then volume_lacks_amount project volume else None

-- instances, then volumes, then claims
abbrev pub own_objects : State → Project → Option Refusal
own_objects state project = first
    (first_of (own_instance state project) state.instances
    ∷ first_of (own_volume project) state.volumes
    ∷ first_of (λ operation. claim_without_amount state project operation.work) state.operations.live
    ∷ [])
