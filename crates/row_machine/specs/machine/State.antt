-- The state of the server: plain lists.
use Rattle.std.specs.Prelude.{ℕ, List, [], Bool, false}
use Rattle.row_machine.specs.Words.{Power, no_operations, Books, no_books, Notice}
use Rattle.operations.specs.OperationTable.{OperationTable}
use Rattle.reservations.specs.declared.books.Hold.{Hold}
use Rattle.records.specs.declared.rows.Project.{Project}
use Rattle.records.specs.declared.rows.Profile.{Profile}
use Rattle.records.specs.declared.rows.Network.{Network}
use Rattle.records.specs.declared.rows.Pool.{Pool}
use Rattle.records.specs.declared.rows.Volume.{Volume}
use Rattle.records.specs.declared.rows.Instance.{Instance}
use Rattle.records.specs.declared.rows.Snapshot.{Snapshot}
use Rattle.row_machine.specs.machine.Task.{Task}

-- the status of the instance of this project and name
pub record InstancePower : Type 0 where
  pub project : List ℕ
  pub name : List ℕ
  pub power : Power

-- The rows of each kind, in the order of project, pool or instance, and name; the status of each instance; the kept
-- operations and the next number; the shares that live operations hold of the limits of projects, each as it was when
-- its operation began, and the books over all shares; the last 1,024 notices and the number of the next one; and
-- whether the server was told to close.
pub record State : Type 0 where
  pub projects : List Project
  pub profiles : List Profile
  pub networks : List Network
  pub pools : List Pool
  pub volumes : List Volume
  pub instances : List Instance
  pub snapshots : List Snapshot
  pub powers : List InstancePower
  pub operations : OperationTable Task
  pub held : List Hold
  pub books : Books
  pub notices : List Notice
  pub next_notice : ℕ
  pub closed : Bool

-- nothing at all, before any row is put
abbrev pub empty_state : State
empty_state = record {
  projects = [];
  profiles = [];
  networks = [];
  pools = [];
  volumes = [];
  instances = [];
  snapshots = [];
  powers = [];
  operations = no_operations;
  held = [];
  books = no_books;
  notices = [];
  next_notice = 1;
  closed = false;
}
