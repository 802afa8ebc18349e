-- Names after a row was put.
use Rattle.std.proofs.Common.{◌≡◌, ◌≢◌, ℕ, Bool, true, false, cond, ◌&&◌, List, [], ◌∷◌, ◌++◌, map, refl, sym, ap, ◌∙◌}
use Rattle.std.specs.List.{list_any}
use Rattle.std.specs.Str.{bytes_eq}
use Rattle.plain_lists.specs.Members.{Each}
use Rattle.plain_lists.specs.Edits.{changed_first, inserted}
use Rattle.plain_lists.proofs.Elements.{Each-append, Each-left, Each-right}
use Rattle.size_values.specs.declared.kinds.Power.TheVariants.{Stopped}
use Rattle.operations.specs.OperationTable.{OperationTable}
use Rattle.records.specs.declared.rows.Instance.{Instance}
use Rattle.records.specs.declared.rows.Row.{Row}
use Rattle.records.specs.declared.rows.Row.TheVariants as row
use Rattle.row_codec.specs.Rows.{HasGoodKey, HasMoments}
use Rattle.row_machine.specs.machine.Task.{Task}
use Rattle.row_machine.specs.machine.State.{State, InstancePower}
use Rattle.row_machine.specs.machine.Rows.{texts_before, project_names, profile_names, network_names, pool_names, volume_names, instance_names, snapshot_names, power_names, is_project, is_profile, is_network, is_pool, is_volume, is_instance, is_snapshot, is_power_of, with_instance, with_instance_power}
use Rattle.row_machine.specs.machine.Changes.{with_row, powers_with}
use Rattle.row_machine.specs.machine.Claims.{of_live, claimed_volume, claimed_snapshot}
use Rattle.row_machine.specs.opening.Records.{rows_of}
use Rattle.row_machine.specs.facts.Whole.{AreNamed, claims_of, new_instance}
use Rattle.machine_laws.proofs.NamesRise.{Rise-replaced}
use Rattle.machine_laws.proofs.NamesTests.{project_is, profile_is, network_is, pool_is, volume_is, instance_is, snapshot_is, project_differs, profile_differs, network_differs, pool_differs, volume_differs, instance_differs, snapshot_differs}
use Rattle.machine_laws.proofs.NamesLists.{Distinct-put, map-put, any-map, map-inserted}
use Rattle.machine_laws.proofs.NamesRows.{rows-with}
use Rattle.machine_laws.proofs.NamesLive.{read_of}

-- no live operation claims the row's name as a new one
abbrev pub IsUnclaimed : OperationTable Task → Row → Type 0
IsUnclaimed k (row.Volume r) = Each (λ y. volume_names y ≢ volume_names r) (read_of claimed_volume k.live)
IsUnclaimed k (row.Instance r) = Each (λ y. instance_names y ≢ instance_names r) (read_of new_instance k.live)
IsUnclaimed k (row.Snapshot r) = Each (λ y. snapshot_names y ≢ snapshot_names r) (read_of claimed_snapshot k.live)
IsUnclaimed k other = Unit {0}

-- ---- statuses stand where instances do

-- two names that pass the test of a project and a name
abbrev pub are_two : List ℕ → List ℕ → List (List ℕ) → Bool
are_two project name (a ∷ b ∷ []) = bytes_eq a project && bytes_eq b name
are_two project name other = false

pub powers-put : (i : Instance) (powers : List InstancePower) (instances : List Instance) → map power_names powers ≡ map instance_names instances
    → map power_names (powers_with i powers) ≡ map instance_names (with_instance i instances)
powers-put i powers instances same = at (list_any (is_power_of i.project i.name) powers) refl where
  fresh : InstancePower
  fresh = record { project = i.project; name = i.name; power = Stopped }

  before : List (List ℕ) → Bool
  before names = texts_before (instance_names i) names

  both : list_any (is_power_of i.project i.name) powers ≡ list_any (is_instance i.project i.name) instances
  both =
      sym (any-map power_names (are_two i.project i.name) powers) ∙ ap (list_any (are_two i.project i.name)) same
      ∙ any-map instance_names (are_two i.project i.name) instances

  by_instance : (b : Bool) → list_any (is_power_of i.project i.name) powers ≡ b
      → with_instance i instances ≡ cond b (changed_first (is_instance i.project i.name) (λ _. i) instances) (inserted (λ y. before (instance_names y)) i instances)
  by_instance b is = ap (λ c. cond c (changed_first (is_instance i.project i.name) (λ _. i) instances) (inserted (λ y. before (instance_names y)) i instances)) (sym both ∙ is)

  by_power : list_any (is_power_of i.project i.name) powers ≡ false → with_instance_power fresh powers ≡ inserted (λ y. before (power_names y)) fresh powers
  by_power is = ap (λ c. cond c (changed_first (is_power_of i.project i.name) (λ _. fresh) powers) (inserted (λ y. before (power_names y)) fresh powers)) is

  at : (b : Bool) → list_any (is_power_of i.project i.name) powers ≡ b
      → map power_names (cond b powers (with_instance_power fresh powers)) ≡ map instance_names (with_instance i instances)
  at true is =
      same ∙ sym (map-put instance_names (is_instance i.project i.name) i instances (instance_is i.project i.name))
      ∙ ap (map instance_names) (sym (by_instance true is))
  at false is =
      ap (map power_names) (by_power is) ∙ map-inserted power_names before fresh powers
      ∙ ap (inserted before (instance_names i)) same
      ∙ sym (map-inserted instance_names before i instances) ∙ ap (map instance_names) (sym (by_instance false is))

-- ---- a row is put

abbrev Rest : (Row → Type 0) → State → Row → Type 0
Rest P s r = Each P (rows_of s ++ claims_of s) → P r → Each P (rows_of (with_row r s) ++ claims_of s)

with_claims : {P : Row → Type 0} (s : State) (r : Row) → Rest P s r
with_claims s r e is = Each-append (rows-with r s is (Each-left (claims_of s) e)) (Each-right (rows_of s) e)

pub AreNamed-with : (s : State) (r : Row) → AreNamed s → HasGoodKey r → HasMoments r → IsUnclaimed s.operations r → AreNamed (with_row r s)
AreNamed-with s (row.Project r) h good timely free = record {
  good = with_claims s (row.Project r) h.good good;
  moments = with_claims s (row.Project r) h.moments timely;
  projects = Rise-replaced project_names (is_project r.name) r s.projects (project_is r.name) (project_differs r.name) h.projects;
  profiles = h.profiles;
  networks = h.networks;
  pools = h.pools;
  volumes = h.volumes;
  instances = h.instances;
  snapshots = h.snapshots;
  powers = h.powers;
  new_volumes = h.new_volumes;
  new_instances = h.new_instances;
  new_snapshots = h.new_snapshots;
}
AreNamed-with s (row.Profile r) h good timely free = record {
  good = with_claims s (row.Profile r) h.good good;
  moments = with_claims s (row.Profile r) h.moments timely;
  projects = h.projects;
  profiles = Rise-replaced profile_names (is_profile r.project r.name) r s.profiles (profile_is r.project r.name) (profile_differs r.project r.name) h.profiles;
  networks = h.networks;
  pools = h.pools;
  volumes = h.volumes;
  instances = h.instances;
  snapshots = h.snapshots;
  powers = h.powers;
  new_volumes = h.new_volumes;
  new_instances = h.new_instances;
  new_snapshots = h.new_snapshots;
}
AreNamed-with s (row.Network r) h good timely free = record {
  good = with_claims s (row.Network r) h.good good;
  moments = with_claims s (row.Network r) h.moments timely;
  projects = h.projects;
  profiles = h.profiles;
  networks = Rise-replaced network_names (is_network r.project r.name) r s.networks (network_is r.project r.name) (network_differs r.project r.name) h.networks;
  pools = h.pools;
  volumes = h.volumes;
  instances = h.instances;
  snapshots = h.snapshots;
  powers = h.powers;
  new_volumes = h.new_volumes;
  new_instances = h.new_instances;
  new_snapshots = h.new_snapshots;
}
AreNamed-with s (row.Pool r) h good timely free = record {
  good = with_claims s (row.Pool r) h.good good;
  moments = with_claims s (row.Pool r) h.moments timely;
  projects = h.projects;
  profiles = h.profiles;
  networks = h.networks;
  pools = Rise-replaced pool_names (is_pool r.name) r s.pools (pool_is r.name) (pool_differs r.name) h.pools;
  volumes = h.volumes;
  instances = h.instances;
  snapshots = h.snapshots;
  powers = h.powers;
  new_volumes = h.new_volumes;
  new_instances = h.new_instances;
  new_snapshots = h.new_snapshots;
}
AreNamed-with s (row.Volume r) h good timely free = record {
  good = with_claims s (row.Volume r) h.good good;
  moments = with_claims s (row.Volume r) h.moments timely;
  projects = h.projects;
  profiles = h.profiles;
  networks = h.networks;
  pools = h.pools;
  volumes = Rise-replaced volume_names (is_volume r.project r.pool r.name) r s.volumes
      (volume_is r.project r.pool r.name) (volume_differs r.project r.pool r.name) h.volumes;
  instances = h.instances;
  snapshots = h.snapshots;
  powers = h.powers;
  new_volumes = Distinct-put volume_names (is_volume r.project r.pool r.name) _ r s.volumes (of_live claimed_volume s)
      (volume_is r.project r.pool r.name) (volume_differs r.project r.pool r.name) free h.new_volumes;
  new_instances = h.new_instances;
  new_snapshots = h.new_snapshots;
}
AreNamed-with s (row.Instance r) h good timely free = record {
  good = with_claims s (row.Instance r) h.good good;
  moments = with_claims s (row.Instance r) h.moments timely;
  projects = h.projects;
  profiles = h.profiles;
  networks = h.networks;
  pools = h.pools;
  volumes = h.volumes;
  instances = Rise-replaced instance_names (is_instance r.project r.name) r s.instances
      (instance_is r.project r.name) (instance_differs r.project r.name) h.instances;
  snapshots = h.snapshots;
  powers = powers-put r s.powers s.instances h.powers;
  new_volumes = h.new_volumes;
  new_instances = Distinct-put instance_names (is_instance r.project r.name) _ r s.instances (of_live new_instance s)
      (instance_is r.project r.name) (instance_differs r.project r.name) free h.new_instances;
  new_snapshots = h.new_snapshots;
}
AreNamed-with s (row.Snapshot r) h good timely free = record {
  good = with_claims s (row.Snapshot r) h.good good;
  moments = with_claims s (row.Snapshot r) h.moments timely;
  projects = h.projects;
  profiles = h.profiles;
  networks = h.networks;
  pools = h.pools;
  volumes = h.volumes;
  instances = h.instances;
  snapshots = Rise-replaced snapshot_names (is_snapshot r.project r.instance r.name) r s.snapshots
      (snapshot_is r.project r.instance r.name) (snapshot_differs r.project r.instance r.name) h.snapshots;
  powers = h.powers;
  new_volumes = h.new_volumes;
  new_instances = h.new_instances;
  new_snapshots = Distinct-put snapshot_names (is_snapshot r.project r.instance r.name) _ r s.snapshots (of_live claimed_snapshot s)
      (snapshot_is r.project r.instance r.name) (snapshot_differs r.project r.instance r.name) free h.new_snapshots;
}
