-- Lists that rise by their names go on rising when rows are put, removed and given another status.
use Rattle.std.proofs.Common.{◌≡◌, ◌≢◌, ℕ, ◌+◌, ◌<◌, Bool, true, false, cond, List, [], ◌∷◌, length, get_or, drop, fold, refl, sym, ◌∙◌, ap, subst}
use Rattle.std.specs.List.{list_any}
use Rattle.std.proofs.lemmas.List.{at_drop_more}
use Rattle.plain_lists.specs.Edits.{changed_first}
use Rattle.records.specs.declared.rows.Instance.{Instance}
use Rattle.records.specs.declared.rows.Profile.{Profile}
use Rattle.records.specs.declared.rows.Row.{Row}
use Rattle.records.specs.declared.rows.Row.TheVariants as row
use Rattle.row_machine.specs.declared.changes.RowChange.{RowChange}
use Rattle.row_machine.specs.declared.changes.RowChange.TheVariants as change
use Rattle.row_machine.specs.facts.Whole.{Rise}
use Rattle.row_machine.specs.machine.Changes.{with_row, without_row, changed, powers_with}
use Rattle.row_machine.specs.machine.Rows.{is_project, is_profile, is_network, is_pool, is_volume, is_instance, is_snapshot, is_power_of, with_instance_power, project_names, profile_names, network_names, pool_names, volume_names, instance_names, snapshot_names, power_names}
use Rattle.row_machine.specs.machine.State.{State, InstancePower, empty_state}
use Rattle.size_values.specs.declared.kinds.ObjectKind.{ObjectKind}
use Rattle.size_values.specs.declared.kinds.ObjectKind.TheVariants as kind
use Rattle.size_values.specs.declared.kinds.Power.{Power}
use Rattle.machine_laws.proofs.NamesRise.{Rise-replaced, Rise-changed, Rise-dropped}
use Rattle.machine_laws.proofs.NamesTests.{project_is, profile_is, network_is, pool_is, volume_is, instance_is, snapshot_is, project_differs, profile_differs, network_differs, pool_differs, volume_differs, instance_differs, snapshot_differs}
use Rattle.core_drafts.specs.Drafted.{stopped}
use Rattle.row_readings.specs.Rising.{AreRising}

-- ---- statuses

-- a profile of the names of a status, of which all is true that is true of its names
abbrev named_so : InstancePower → Profile
named_so p = record { project = p.project; name = p.name; description = []; config = []; devices = [] }

power_is : (project name : List ℕ) (p : InstancePower) → is_power_of project name p ≡ true → power_names p ≡ project ∷ name ∷ []
power_is project name p = profile_is project name (named_so p)

power_differs : (project name : List ℕ) (p : InstancePower) → is_power_of project name p ≡ false → power_names p ≢ project ∷ name ∷ []
power_differs project name p = profile_differs project name (named_so p)

rising-powers_with : (i : Instance) (powers : List InstancePower) → Rise power_names powers → Rise power_names (powers_with i powers)
rising-powers_with i powers up = at (list_any (is_power_of i.project i.name) powers) where
  at : (b : Bool) → Rise power_names (cond b powers (with_instance_power (stopped i) powers))
  at true = up
  at false = Rise-replaced power_names (is_power_of i.project i.name) (stopped i) powers (power_is i.project i.name) (power_differs i.project i.name) up

-- ---- all lists

pub rising-empty : AreRising empty_state
rising-empty = record {
  projects = tt;
  profiles = tt;
  networks = tt;
  pools = tt;
  volumes = tt;
  instances = tt;
  snapshots = tt;
  powers = tt;
}

pub rising-with : (r : Row) (s : State) → AreRising s → AreRising (with_row r s)
rising-with (row.Project r) s h = record {
  projects = Rise-replaced project_names (is_project r.name) r s.projects (project_is r.name) (project_differs r.name) h.projects;
  profiles = h.profiles;
  networks = h.networks;
  pools = h.pools;
  volumes = h.volumes;
  instances = h.instances;
  snapshots = h.snapshots;
  powers = h.powers;
}
rising-with (row.Profile r) s h = record {
  projects = h.projects;
  profiles = Rise-replaced profile_names (is_profile r.project r.name) r s.profiles (profile_is r.project r.name) (profile_differs r.project r.name) h.profiles;
  networks = h.networks;
  pools = h.pools;
  volumes = h.volumes;
  instances = h.instances;
  snapshots = h.snapshots;
  powers = h.powers;
}
rising-with (row.Network r) s h = record {
  projects = h.projects;
  profiles = h.profiles;
  networks = Rise-replaced network_names (is_network r.project r.name) r s.networks (network_is r.project r.name) (network_differs r.project r.name) h.networks;
  pools = h.pools;
  volumes = h.volumes;
  instances = h.instances;
  snapshots = h.snapshots;
  powers = h.powers;
}
rising-with (row.Pool r) s h = record {
  projects = h.projects;
  profiles = h.profiles;
  networks = h.networks;
  pools = Rise-replaced pool_names (is_pool r.name) r s.pools (pool_is r.name) (pool_differs r.name) h.pools;
  volumes = h.volumes;
  instances = h.instances;
  snapshots = h.snapshots;
  powers = h.powers;
}
rising-with (row.Volume r) s h = record {
  projects = h.projects;
  profiles = h.profiles;
  networks = h.networks;
  pools = h.pools;
  volumes = Rise-replaced volume_names (is_volume r.project r.pool r.name) r s.volumes (volume_is r.project r.pool r.name) (volume_differs r.project r.pool r.name) h.volumes;
  instances = h.instances;
  snapshots = h.snapshots;
  powers = h.powers;
}
rising-with (row.Instance r) s h = record {
  projects = h.projects;
  profiles = h.profiles;
  networks = h.networks;
  pools = h.pools;
  volumes = h.volumes;
  instances = Rise-replaced instance_names (is_instance r.project r.name) r s.instances (instance_is r.project r.name) (instance_differs r.project r.name) h.instances;
  snapshots = h.snapshots;
  powers = rising-powers_with r s.powers h.powers;
}
rising-with (row.Snapshot r) s h = record {
  projects = h.projects;
  profiles = h.profiles;
  networks = h.networks;
  pools = h.pools;
  volumes = h.volumes;
  instances = h.instances;
  snapshots = Rise-replaced snapshot_names (is_snapshot r.project r.instance r.name) r s.snapshots (snapshot_is r.project r.instance r.name) (snapshot_differs r.project r.instance r.name) h.snapshots;
  powers = h.powers;
}

pub rising-without : (of : ObjectKind) (key : List ℕ) (s : State) → AreRising s → AreRising (without_row of key s)
rising-without kind.Project key s h = record {
  projects = Rise-dropped project_names _ s.projects h.projects;
  profiles = h.profiles;
  networks = h.networks;
  pools = h.pools;
  volumes = h.volumes;
  instances = h.instances;
  snapshots = h.snapshots;
  powers = h.powers;
}
rising-without kind.Profile key s h = record {
  projects = h.projects;
  profiles = Rise-dropped profile_names _ s.profiles h.profiles;
  networks = h.networks;
  pools = h.pools;
  volumes = h.volumes;
  instances = h.instances;
  snapshots = h.snapshots;
  powers = h.powers;
}
rising-without kind.Network key s h = record {
  projects = h.projects;
  profiles = h.profiles;
  networks = Rise-dropped network_names _ s.networks h.networks;
  pools = h.pools;
  volumes = h.volumes;
  instances = h.instances;
  snapshots = h.snapshots;
  powers = h.powers;
}
rising-without kind.Pool key s h = record {
  projects = h.projects;
  profiles = h.profiles;
  networks = h.networks;
  pools = Rise-dropped pool_names _ s.pools h.pools;
  volumes = h.volumes;
  instances = h.instances;
  snapshots = h.snapshots;
  powers = h.powers;
}
rising-without kind.Volume key s h = record {
  projects = h.projects;
  profiles = h.profiles;
  networks = h.networks;
  pools = h.pools;
  volumes = Rise-dropped volume_names _ s.volumes h.volumes;
  instances = h.instances;
  snapshots = h.snapshots;
  powers = h.powers;
}
rising-without kind.Instance key s h = record {
  projects = h.projects;
  profiles = h.profiles;
  networks = h.networks;
  pools = h.pools;
  volumes = h.volumes;
  instances = Rise-dropped instance_names _ s.instances h.instances;
  snapshots = h.snapshots;
  powers = Rise-dropped power_names _ s.powers h.powers;
}
rising-without kind.Snapshot key s h = record {
  projects = h.projects;
  profiles = h.profiles;
  networks = h.networks;
  pools = h.pools;
  volumes = h.volumes;
  instances = h.instances;
  snapshots = Rise-dropped snapshot_names _ s.snapshots h.snapshots;
  powers = h.powers;
}
rising-without kind.Operation key s h = h

pub rising-changed : (c : RowChange) (s : State) → AreRising s → AreRising (changed s c)
rising-changed (change.Put r) s h = rising-with r s h
rising-changed (change.Remove of key) s h = rising-without of key s h

-- an instance has another status
pub rising-powers : (s : State) (project name : List ℕ) (power : Power) (powers : List InstancePower)
    → powers ≡ changed_first (is_power_of project name) (λ (p : InstancePower). record p { power = power }) s.powers
    → AreRising s → AreRising (record s { powers = powers })
rising-powers s project name power powers is h = record {
  projects = h.projects;
  profiles = h.profiles;
  networks = h.networks;
  pools = h.pools;
  volumes = h.volumes;
  instances = h.instances;
  snapshots = h.snapshots;
  powers = subst (Rise power_names) (sym is) (Rise-changed power_names (is_power_of project name) (λ p. record p { power = power }) s.powers (λ p passes. refl) h.powers);
}

-- rows put one after the other: one more
pub filled-more : (s t : State) (rows : List Row) (i : ℕ) (r : Row) → i < length rows → r ≡ get_or rows i r → t ≡ with_row r s
    → fold (λ u x. with_row x u) t (drop (i + 1) rows) ≡ fold (λ u x. with_row x u) s (drop i rows)
filled-more s t rows i r within at is =
    ap (λ u. fold (λ v x. with_row x v) u (drop (i + 1) rows)) is
    ∙ ap (λ x. fold (λ v y. with_row y v) (with_row x s) (drop (i + 1) rows)) at
    ∙ sym (at_drop_more (λ xs. fold (λ v x. with_row x v) s xs) rows i r within)
