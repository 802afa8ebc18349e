-- What the instances that name a profile break, asked of those at its home alone.
use Rattle.std.proofs.Common.{◌≡◌, ◌&&◌, cond, None, List, ap}
use Rattle.std.specs.Prelude.{codes}
use Rattle.std.specs.List.{list_any}
use Rattle.std.specs.Str.{bytes_eq}
use Rattle.plain_lists.specs.Firsts.{first_of}
use Rattle.records.specs.declared.rows.Instance.{Instance}
use Rattle.records.specs.declared.rows.Profile.{Profile}
use Rattle.row_machine.specs.machine.Homes.{home_of}
use Rattle.row_machine.specs.machine.Rows.{instance_names}
use Rattle.row_machine.specs.machine.SettingRules.{instance_settings}
use Rattle.row_machine.specs.machine.State.{State}
use Rattle.row_readings.specs.Rising.{rows_at_home}
use Rattle.row_readings.proofs.AtHome.{other-home, first_of-at_home}
use Rattle.rules_settings.specs.Named.{where_named}

pub named-at_home : (s : State) (p : Profile) (rows : List Instance)
    → first_of (where_named s p) (rows_at_home instance_names p.project rows) ≡ first_of (where_named s p) rows
unfolding home_of
named-at_home s p rows = first_of-at_home instance_names p.project rows (where_named s p)
    (λ i own other. ap (λ b. cond (b && list_any (λ name. bytes_eq name p.name) i.profiles) (instance_settings s i) None)
    (other-home s.projects i.project p.project (codes "features.profiles") own other))
