-- What an instance has is read off projects and profiles alone.
use Rattle.std.proofs.Common.{◌≡◌, ap}
use Rattle.size_values.specs.declared.kinds.ObjectKind.TheVariants as kind
use Rattle.records.specs.declared.rows.Instance.{Instance}
use Rattle.row_machine.specs.machine.State.{State}
use Rattle.row_machine.specs.machine.Rows.{profile_named}
use Rattle.row_machine.specs.machine.Homes.{home_of}
use Rattle.machine_laws.proofs.Expansions.{home_in, IsAlike}

pub alike-rows : (s t : State) (i : Instance) → t.projects ≡ s.projects → t.profiles ≡ s.profiles → IsAlike s t i
alike-rows s t i projects profiles = record {
  home = ap (λ ps. home_of ps i.project kind.Profile) projects;
  profiles = λ name m. ap (λ rows. profile_named rows (home_in s i) name) profiles;
}
