-- What a server keeps opens again: the records of its rows open to these rows.
use Rattle.std.specs.Prelude.{◌≡◌, [], map, false}
use Rattle.plain_lists.specs.Members.{Each}
use Rattle.size_values.specs.declared.kinds.Power.TheVariants.{Stopped}
use Rattle.operations.specs.OperationTable.{no_operations}
use Rattle.reservations.specs.Holdings.{no_books}
use Rattle.records.specs.declared.rows.Instance.{Instance}
use Rattle.row_codec.specs.Rows.{HasTypedParts}
use Rattle.row_machine.specs.machine.State.{State, InstancePower}
use Rattle.row_machine.specs.opening.Records.{records_of, rows_of}
use Rattle.row_machine.specs.opening.Opening.{opened, opening_of}
use Rattle.row_machine.specs.facts.Whole.{IsWhole}

-- a stopped instance
abbrev pub stopped : Instance → InstancePower
stopped instance = record { project = instance.project; name = instance.name; power = Stopped }

-- a server that was ended and opened again: the same rows, every instance stopped, no operations and no notices
abbrev pub reopened : State → State
reopened state = record {
  projects = state.projects;
  profiles = state.profiles;
  networks = state.networks;
  pools = state.pools;
  volumes = state.volumes;
  instances = state.instances;
  snapshots = state.snapshots;
  powers = map stopped state.instances;
  operations = no_operations;
  held = [];
  books = no_books;
  notices = [];
  next_notice = 1;
  closed = false;
}

-- The records of a state in which all facts hold open to its rows. That texts are UTF-8 and settings rise by their keys
-- is what the rows of the program have by their types.
abbrev pub KeptRowsOpen : Type 0
KeptRowsOpen = (state : State) → IsWhole state → Each HasTypedParts (rows_of state)
    → opening_of (records_of state) ≡ opened (reopened state)
