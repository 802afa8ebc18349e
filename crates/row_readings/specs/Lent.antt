-- What contracts see of the lent rows.
use Rattle.row_machine.specs.machine.State.{State, empty_state}
use Rattle.row_readings.specs.declared.state_ref.StateRef.TheInside.{Inside}
use Rattle.row_readings.specs.Rising.{AreRising}

-- the state with these rows, statuses, operations and shares, which was told to close or not
abbrev pub state_in : Inside → State
state_in view = record empty_state {
  projects = view.projects.now;
  profiles = view.profiles.now;
  networks = view.networks.now;
  pools = view.pools.now;
  volumes = view.volumes.now;
  instances = view.instances.now;
  snapshots = view.snapshots.now;
  powers = view.powers.now;
  operations = record { live = view.live.now; ended = view.ended.now; next = view.next };
  held = view.held.now;
  books = view.books;
  closed = view.closed;
}

-- the rows of each kind, and the statuses, rise by their names
abbrev pub IsLent : Inside → Type 0
IsLent view = AreRising (state_in view)
