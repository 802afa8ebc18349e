-- Names after a row was removed.
use Rattle.std.proofs.Common.{◌≡◌, ℕ, Bool, false, List, [], ◌∷◌, ◌++◌, map, sym, ap, ◌∙◌}
use Rattle.std.specs.Str.{bytes_eq}
use Rattle.plain_lists.specs.Members.{Each}
use Rattle.plain_lists.specs.Edits.{dropped}
use Rattle.plain_lists.proofs.Elements.{Each-append, Each-left, Each-right}
use Rattle.size_values.specs.declared.kinds.ObjectKind.{ObjectKind}
use Rattle.size_values.specs.declared.kinds.ObjectKind.TheVariants as kind
use Rattle.records.specs.declared.rows.Instance.{Instance}
use Rattle.records.specs.declared.rows.Row.{Row}
use Rattle.records.specs.declared.rows.Row.TheVariants as row
use Rattle.row_codec.specs.Spelling.{two_names}
use Rattle.row_machine.specs.machine.State.{State, InstancePower}
use Rattle.row_machine.specs.machine.Rows.{project_names, profile_names, network_names, pool_names, volume_names, instance_names, snapshot_names, power_names}
use Rattle.row_machine.specs.machine.Changes.{has_key, without_row}
use Rattle.row_machine.specs.machine.Claims.{of_live, claimed_volume, claimed_snapshot}
use Rattle.row_machine.specs.opening.Records.{rows_of}
use Rattle.row_machine.specs.facts.Whole.{AreNamed, claims_of, new_instance}
use Rattle.machine_laws.proofs.NamesRise.{Rise-dropped}
use Rattle.machine_laws.proofs.NamesLists.{Distinct-less, map-dropped}
use Rattle.machine_laws.proofs.NamesRows.{rows-without}

-- two names that are those of a key
abbrev are_of_key : List ℕ → List (List ℕ) → Bool
are_of_key key (a ∷ b ∷ []) = bytes_eq (two_names a b) key
are_of_key key other = false

-- the status goes with its instance
powers-dropped : (key : List ℕ) (powers : List InstancePower) (instances : List Instance) → map power_names powers ≡ map instance_names instances
    → map power_names (dropped (λ p. bytes_eq (two_names p.project p.name) key) powers)
    ≡ map instance_names (dropped (λ r. has_key key (row.Instance r)) instances)
powers-dropped key powers instances same =
    map-dropped power_names (are_of_key key) powers ∙ ap (dropped (are_of_key key)) same
    ∙ sym (map-dropped instance_names (are_of_key key) instances)

less_claims : {P : Row → Type 0} (s : State) (of : ObjectKind) (key : List ℕ)
    → Each P (rows_of s ++ claims_of s) → Each P (rows_of (without_row of key s) ++ claims_of s)
less_claims s of key e = Each-append (rows-without of key s (Each-left (claims_of s) e)) (Each-right (rows_of s) e)

pub AreNamed-without : (s : State) (of : ObjectKind) (key : List ℕ) → AreNamed s → AreNamed (without_row of key s)
AreNamed-without s kind.Project key h = record {
  good = less_claims s kind.Project key h.good;
  moments = less_claims s kind.Project key h.moments;
  projects = Rise-dropped project_names _ s.projects h.projects;
  profiles = h.profiles;
  networks = h.networks;
  pools = h.pools;
  volumes = h.volumes;
  instances = h.instances;
  snapshots = h.snapshots;
  powers = h.powers;
  new_volumes = h.new_volumes;
  new_instances = h.new_instances;
  new_snapshots = h.new_snapshots;
}
AreNamed-without s kind.Profile key h = record {
  good = less_claims s kind.Profile key h.good;
  moments = less_claims s kind.Profile key h.moments;
  projects = h.projects;
  profiles = Rise-dropped profile_names _ s.profiles h.profiles;
  networks = h.networks;
  pools = h.pools;
  volumes = h.volumes;
  instances = h.instances;
  snapshots = h.snapshots;
  powers = h.powers;
  new_volumes = h.new_volumes;
  new_instances = h.new_instances;
  new_snapshots = h.new_snapshots;
}
AreNamed-without s kind.Network key h = record {
  good = less_claims s kind.Network key h.good;
  moments = less_claims s kind.Network key h.moments;
  projects = h.projects;
  profiles = h.profiles;
  networks = Rise-dropped network_names _ s.networks h.networks;
  pools = h.pools;
  volumes = h.volumes;
  instances = h.instances;
  snapshots = h.snapshots;
  powers = h.powers;
  new_volumes = h.new_volumes;
  new_instances = h.new_instances;
  new_snapshots = h.new_snapshots;
}
AreNamed-without s kind.Pool key h = record {
  good = less_claims s kind.Pool key h.good;
  moments = less_claims s kind.Pool key h.moments;
  projects = h.projects;
  profiles = h.profiles;
  networks = h.networks;
  pools = Rise-dropped pool_names _ s.pools h.pools;
  volumes = h.volumes;
  instances = h.instances;
  snapshots = h.snapshots;
  powers = h.powers;
  new_volumes = h.new_volumes;
  new_instances = h.new_instances;
  new_snapshots = h.new_snapshots;
}
AreNamed-without s kind.Volume key h = record {
  good = less_claims s kind.Volume key h.good;
  moments = less_claims s kind.Volume key h.moments;
  projects = h.projects;
  profiles = h.profiles;
  networks = h.networks;
  pools = h.pools;
  volumes = Rise-dropped volume_names _ s.volumes h.volumes;
  instances = h.instances;
  snapshots = h.snapshots;
  powers = h.powers;
  new_volumes = Distinct-less volume_names _ s.volumes (of_live claimed_volume s) h.new_volumes;
  new_instances = h.new_instances;
  new_snapshots = h.new_snapshots;
}
AreNamed-without s kind.Instance key h = record {
  good = less_claims s kind.Instance key h.good;
  moments = less_claims s kind.Instance key h.moments;
  projects = h.projects;
  profiles = h.profiles;
  networks = h.networks;
  pools = h.pools;
  volumes = h.volumes;
  instances = Rise-dropped instance_names _ s.instances h.instances;
  snapshots = h.snapshots;
  powers = powers-dropped key s.powers s.instances h.powers;
  new_volumes = h.new_volumes;
  new_instances = Distinct-less instance_names _ s.instances (of_live new_instance s) h.new_instances;
  new_snapshots = h.new_snapshots;
}
AreNamed-without s kind.Snapshot key h = record {
  good = less_claims s kind.Snapshot key h.good;
  moments = less_claims s kind.Snapshot key h.moments;
  projects = h.projects;
  profiles = h.profiles;
  networks = h.networks;
  pools = h.pools;
  volumes = h.volumes;
  instances = h.instances;
  snapshots = Rise-dropped snapshot_names _ s.snapshots h.snapshots;
  powers = h.powers;
  new_volumes = h.new_volumes;
  new_instances = h.new_instances;
  new_snapshots = Distinct-less snapshot_names _ s.snapshots (of_live claimed_snapshot s) h.new_snapshots;
}
AreNamed-without s kind.Operation key h = h
