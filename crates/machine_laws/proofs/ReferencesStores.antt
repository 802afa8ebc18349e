-- References where networks, pools and volumes alone change.
use Rattle.std.proofs.Common.{◌≡◌, ℕ, true, Some, None, List, refl}
use Rattle.std.specs.Option.{is_some}
use Rattle.plain_lists.specs.Members.{Each}
use Rattle.size_values.specs.declared.kinds.ObjectKind.{ObjectKind}
use Rattle.size_values.specs.declared.kinds.ObjectKind.TheVariants as kind
use Rattle.records.specs.declared.rows.Network.{Network}
use Rattle.records.specs.declared.rows.Pool.{Pool}
use Rattle.records.specs.declared.rows.Volume.{Volume}
use Rattle.records.specs.declared.rows.Instance.{Instance}
use Rattle.records.specs.declared.rows.Row.TheVariants as row
use Rattle.records.specs.declared.commands.Target.{Target}
use Rattle.row_machine.specs.machine.Task.{Task}
use Rattle.row_machine.specs.machine.State.{State}
use Rattle.row_machine.specs.machine.Rows.{pool_named, volume_named}
use Rattle.row_machine.specs.machine.Homes.{home_of}
use Rattle.row_machine.specs.machine.Expansions.{expanded_of}
use Rattle.row_machine.specs.machine.Claims.{judged_instances, claimed_volume}
use Rattle.row_machine.specs.opening.Opening.{home_missing}
use Rattle.row_machine.specs.facts.Whole.{IsByDeed, ReferencesExist}
use Rattle.machine_laws.proofs.Cases.{IsHome}
use Rattle.machine_laws.proofs.Expansions.{IsAlike}
use Rattle.machine_laws.proofs.NamesRows.{EachRow, each-row, rows-each}
use Rattle.machine_laws.proofs.ReferencesHomes.{IsAtHome, stays-found}
use Rattle.machine_laws.proofs.ReferencesDevices.{Serves, devices-stay, refers-stays}
use Rattle.machine_laws.proofs.ReferencesPlaces.{Leaves, placed-stays}

-- with these networks, pools and volumes
abbrev pub with_stores : State → List Network → List Pool → List Volume → State
with_stores s ns ps vs = record s { networks = ns; pools = ps; volumes = vs }

-- what the change of networks, pools and volumes leaves
pub record StoresServe (s : State) (ns : List Network) (ps : List Pool) (vs : List Volume) : Type 0 where
  pub networks : Each (λ r. home_missing s (row.Network r) ≡ None) ns
  pub volumes : Each (λ v. home_missing s (row.Volume v) ≡ None) vs
  pub pools : Each (λ v. is_some (pool_named ps v.pool) ≡ true) vs
  pub profiles : Each (λ r. Serves s (with_stores s ns ps vs) r.project r.devices) s.profiles
  pub instances : Each (λ i. Serves s (with_stores s ns ps vs) i.project (expanded_of s.projects s.profiles i).devices) (judged_instances s)
  pub operations : Each (λ o. Leaves s (with_stores s ns ps vs) o.work) s.operations.live

pub stores-references : (s : State) (ns : List Network) (ps : List Pool) (vs : List Volume) → ReferencesExist s
    → Each (λ o. IsByDeed o.work) s.operations.live
    → StoresServe s ns ps vs → ReferencesExist (with_stores s ns ps vs)
unfolding judged_instances
stores-references s ns ps vs h deeds serve = record {
  homes = rows-each t (record {
    projects = rows.projects;
    profiles = rows.profiles;
    networks = serve.networks;
    pools = record { at = λ r m. refl };
    volumes = serve.volumes;
    instances = rows.instances;
    snapshots = rows.snapshots;
  });
  volumes = serve.pools;
  snapshots = h.snapshots;
  snapshot_profiles = h.snapshot_profiles;
  profiles = record { at = λ r m. devices-stay s t r.project r.devices (serve.profiles.at r m) (h.profiles.at r m) };
  instances = record { at = λ i m. refers-stays (alike i) (serve.instances.at i m) (h.instances.at i m) };
  operations = record { at = λ o m. placed-stays (deeds.at o m) (serve.operations.at o m) (h.operations.at o m) };
} where
  t : State
  t = with_stores s ns ps vs

  rows : EachRow (λ r. home_missing s r ≡ None) s
  rows = each-row s h.homes

  alike : (i : Instance) → IsAlike s t i
  alike i = record { home = refl; profiles = λ name m. refl }

-- operations are left where the volumes that are copied and the pools of claimed volumes stay
pub leaves-stores : (s : State) (ns : List Network) (ps : List Pool) (vs : List Volume) (task : Task)
    → ((of : Target) → task.source ≡ Some of → of.kind ≡ kind.Volume
    → is_some (volume_named s.volumes (home_of s.projects task.project kind.Volume) of.pool of.name) ≡ true
    → is_some (volume_named vs (home_of s.projects task.project kind.Volume) of.pool of.name) ≡ true)
    → ((v : Volume) → claimed_volume task ≡ Some v → is_some (pool_named s.pools v.pool) ≡ true → is_some (pool_named ps v.pool) ≡ true)
    → Leaves s (with_stores s ns ps vs) task
leaves-stores s ns ps vs task sources claims = record {
  project = stays-found s.projects s.projects task.project refl;
  instances = λ name busy there. refl;
  snapshots = λ instance name busy there. there;
  volumes = sources;
  pools = claims;
}

-- the home of a row
pub is-home : (s : State) (project : List ℕ) (k : ObjectKind) → IsHome s project k → IsAtHome s.projects project k
is-home s project k h = record { there = h.there; own = h.own }
