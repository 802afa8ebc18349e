-- An object of a home other than `default` that is no pool has no users in other projects than that of this name.
use Rattle.std.proofs.Common.{◌≡◌, ℕ, ◌&&◌, true, false, List, filter, cond, Bool, refl, ap, true≢false}
use Rattle.std.specs.Prelude.{codes}
use Rattle.std.specs.List.{list_any}
use Rattle.std.specs.Str.{bytes_eq}
use Rattle.row_machine.specs.Words.{ObjectKind, Target, NamedDevices, names_network, names_volume}
use Rattle.row_machine.specs.Words.kind
use Rattle.records.specs.declared.rows.Instance.{Instance}
use Rattle.records.specs.declared.rows.Profile.{Profile}
use Rattle.row_machine.specs.machine.Expansions.{expanded_of}
use Rattle.row_machine.specs.machine.Holders.{devices_name, instance_uses, names_profile, profile_uses}
use Rattle.row_machine.specs.machine.Homes.{home_of}
use Rattle.row_machine.specs.machine.Kinds.{is_of_kind}
use Rattle.row_machine.specs.machine.Rows.{default_name, instance_names, profile_names}
use Rattle.row_machine.specs.machine.State.{State}
use Rattle.row_readings.specs.Rising.{rows_at_home}
use Rattle.row_readings.proofs.AtHome.{other-home, filter-at_home}
use Rattle.object_users.specs.AtHome.{rows_that_may_use}

-- ---- a row of another project

module _ (s : State) (home : List ℕ) (own : bytes_eq home default_name ≡ false) where
  -- it does not name the profile
  pub profile-unnamed : (profile : List ℕ) (i : Instance) → bytes_eq i.project home ≡ false → names_profile s home profile i ≡ false
  unfolding home_of
  profile-unnamed profile i other =
      ap (λ b. b && list_any (λ name. bytes_eq name profile) i.profiles) (other-home s.projects i.project home (codes "features.profiles") own other)

  -- its devices do not name what is no pool
  unnamed : (of : Target) (k : ObjectKind) (project : List ℕ) (devices : NamedDevices) → bytes_eq project home ≡ false
      → is_of_kind kind.Pool (record of { kind = k }) ≡ false → devices_name s home (record of { kind = k }) project devices ≡ false
  unfolding home_of
  unnamed of kind.Project project devices other e = refl
  unnamed of kind.Profile project devices other e = refl
  unnamed of kind.Network project devices other e =
      ap (λ b. b && names_network devices of.name) (other-home s.projects project home (codes "features.networks") own other)
  unnamed of kind.Pool project devices other e = absurd (true≢false e)
  unnamed of kind.Volume project devices other e =
      ap (λ b. b && names_volume devices of.pool of.name) (other-home s.projects project home (codes "features.storage.volumes") own other)
  unnamed of kind.Instance project devices other e = refl
  unnamed of kind.Snapshot project devices other e = refl
  unnamed of kind.Operation project devices other e = refl

  module _ (of : Target) (no-pool : is_of_kind kind.Pool of ≡ false) where
    pub profile-idle : (p : Profile) → bytes_eq p.project home ≡ false → profile_uses s home of p ≡ false
    profile-idle p other = unnamed of of.kind p.project p.devices other no-pool

    pub instance-idle : (i : Instance) → bytes_eq i.project home ≡ false → instance_uses s home of i ≡ false
    instance-idle i other = unnamed of of.kind i.project (expanded_of s.projects s.profiles i).devices other no-pool

-- ---- the users, among the rows that may be ones

module _ (s : State) (home : List ℕ) where
  pub naming-at_home : (profile : List ℕ) (rows : List Instance)
      → filter (names_profile s home profile) (rows_at_home instance_names home rows) ≡ filter (names_profile s home profile) rows
  naming-at_home profile rows = filter-at_home instance_names home rows (names_profile s home profile) (λ i own. profile-unnamed s home own profile i)

  pub using-instances : (of : Target) (rows : List Instance)
      → filter (instance_uses s home of) (rows_that_may_use instance_names home of rows) ≡ filter (instance_uses s home of) rows
  using-instances of rows = at (is_of_kind kind.Pool of) refl where
    at : (b : Bool) → is_of_kind kind.Pool of ≡ b
        → filter (instance_uses s home of) (cond b rows (rows_at_home instance_names home rows)) ≡ filter (instance_uses s home of) rows
    at true is = refl
    at false is = filter-at_home instance_names home rows (instance_uses s home of) (λ i own. instance-idle s home own of is i)

  pub using-profiles : (of : Target) (rows : List Profile)
      → filter (profile_uses s home of) (rows_that_may_use profile_names home of rows) ≡ filter (profile_uses s home of) rows
  using-profiles of rows = at (is_of_kind kind.Pool of) refl where
    at : (b : Bool) → is_of_kind kind.Pool of ≡ b
        → filter (profile_uses s home of) (cond b rows (rows_at_home profile_names home rows)) ≡ filter (profile_uses s home of) rows
    at true is = refl
    at false is = filter-at_home profile_names home rows (profile_uses s home of) (λ p own. profile-idle s home own of is p)
