-- Changes of rows: what the state is after each change of a list.
use Rattle.std.specs.Prelude.{◌∷◌, if◌then◌else◌}
use Rattle.row_machine.specs.Words.{ℕ, Bool, List, [], Option, Some, None, filter_map, list_any, bytes_eq, dropped}
use Rattle.row_machine.specs.Words.{ObjectKind, Stopped, Row, two_names, ObjectKind as kind, Row as row, Instance}
use Rattle.row_machine.specs.Words.{key_of, RowChange, RowChange as change}
use Rattle.row_machine.specs.Estate.{State, InstancePower, with_project, with_profile, with_network, with_pool}
use Rattle.row_machine.specs.Estate.{with_volume}
use Rattle.row_machine.specs.Estate.{with_instance, with_snapshot, with_instance_power, is_power_of}
use Rattle.row_machine.specs.shown.Urls.{target_of}

abbrev pub has_key : List ℕ → Row → Bool
has_key key row = bytes_eq (key_of row) key

-- the statuses with that of this instance: a new one is stopped, and one that stands keeps its own
abbrev pub powers_with : Instance → List InstancePower → List InstancePower
powers_with instance powers =
    if list_any (is_power_of instance.project instance.name) powers then powers
    else with_instance_power (record { project = instance.project; name = instance.name; power = Stopped }) powers

abbrev pub with_row : Row → State → State
with_row (row.Project project) state = record state { projects = with_project project state.projects }
with_row (row.Profile profile) state = record state { profiles = with_profile profile state.profiles }
with_row (row.Network network) state = record state { networks = with_network network state.networks }
with_row (row.Pool pool) state = record state { pools = with_pool pool state.pools }
with_row (row.Volume volume) state = record state { volumes = with_volume volume state.volumes }
with_row (row.Instance instance) state =
    record state { instances = with_instance instance state.instances; powers = powers_with instance state.powers }
with_row (row.Snapshot snapshot) state = record state { snapshots = with_snapshot snapshot state.snapshots }

abbrev pub without_row : ObjectKind → List ℕ → State → State
without_row kind.Project key state =
    record state { projects = dropped (λ project. has_key key (row.Project project)) state.projects }
without_row kind.Profile key state =
    record state { profiles = dropped (λ profile. has_key key (row.Profile profile)) state.profiles }
without_row kind.Network key state =
    record state { networks = dropped (λ network. has_key key (row.Network network)) state.networks }
without_row kind.Pool key state = record state { pools = dropped (λ pool. has_key key (row.Pool pool)) state.pools }
without_row kind.Volume key state =
    record state { volumes = dropped (λ volume. has_key key (row.Volume volume)) state.volumes }
without_row kind.Instance key state = record state {
  instances = dropped (λ instance. has_key key (row.Instance instance)) state.instances;
  powers = dropped (λ instance_power. bytes_eq (two_names instance_power.project instance_power.name) key) state.powers;
}
without_row kind.Snapshot key state =
    record state { snapshots = dropped (λ snapshot. has_key key (row.Snapshot snapshot)) state.snapshots }
without_row kind.Operation key state = state

abbrev pub changed : State → RowChange → State
changed state (change.Put row) = with_row row state
changed state (change.Remove of key) = without_row of key state

abbrev pub applied : State → List RowChange → State
applied state [] = state
applied state (change ∷ changes) = applied (changed state change) changes

abbrev pub removal : Row → RowChange
removal row = change.Remove (target_of row).kind (key_of row)

abbrev pub rows_put : List RowChange → List Row
rows_put changes = filter_map put_in changes where
  put_in : RowChange → Option Row
  put_in (change.Put row) = Some row
  put_in (change.Remove of key) = None
