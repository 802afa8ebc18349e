-- What a project counts within itself asks nothing of the rows of other projects.
use Rattle.std.proofs.Common.{◌≡◌, None, List, cond, filter, ap}
use Rattle.std.specs.Str.{bytes_eq}
use Rattle.plain_lists.specs.Firsts.{first_of}
use Rattle.records.specs.declared.rows.Instance.{Instance}
use Rattle.records.specs.declared.rows.Project.{Project}
use Rattle.records.specs.declared.rows.Volume.{Volume}
use Rattle.row_machine.specs.machine.LimitRules.{instance_without_amount, volume_lacks_amount}
use Rattle.row_machine.specs.machine.State.{State}
use Rattle.row_readings.proofs.Ranges.{first_of-filter}
use Rattle.rules_limits.specs.Within.{own_instance, own_volume}

pub own-instances : (s : State) (p : Project) (instances : List Instance)
    → first_of (own_instance s p) (filter (λ row. bytes_eq row.project p.name) instances) ≡ first_of (own_instance s p) instances
own-instances s p instances =
    first_of-filter (own_instance s p) (λ row. bytes_eq row.project p.name) instances
    (λ row other. ap (λ b. cond b (instance_without_amount s p row) None) other)

pub own-volumes : (p : Project) (volumes : List Volume)
    → first_of (own_volume p) (filter (λ row. bytes_eq row.project p.name) volumes) ≡ first_of (own_volume p) volumes
own-volumes p volumes =
    first_of-filter (own_volume p) (λ row. bytes_eq row.project p.name) volumes
    (λ row other. ap (λ b. cond b (volume_lacks_amount p row) None) other)
