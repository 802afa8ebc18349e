-- What a read answers: the objects as they are shown, their URLs, and the URLs of their users.
use Rattle.std.specs.Prelude.{if◌then◌else◌, ℕ, ◌==◌, Bool, true, false, ◌&&◌, List, [], ◌∷◌, ◌++◌, map, filter, Option}
use Rattle.std.specs.Prelude.{Some, None, unwrap_or, codes, option_map, option_and_then}
use Rattle.std.specs.List.{filter_map}
use Rattle.std.specs.Str.{bytes_eq}
use Rattle.row_machine.specs.Words.{Part, ObjectKind, Stopped, limit_on, parts, limits_of, Status, Pending, Cancelling}
use Rattle.row_machine.specs.Words.{Success, Failure, Cancelled, kept_at, by_number, LimitKeyName, UsageLine, View}
use Rattle.row_machine.specs.Words.{Reply, Row, Target, What, limited_pools, pool_limit}
use Rattle.row_machine.specs.Words.part_of
use Rattle.row_machine.specs.Words.kind
use Rattle.row_machine.specs.Words.view
use Rattle.row_machine.specs.Words.reply
use Rattle.row_machine.specs.Words.row
use Rattle.row_machine.specs.Words.what
use Rattle.operations.specs.declared.operation.Operation.{Operation}
use Rattle.operations.specs.declared.status.Status.TheVariants.{Running}
use Rattle.records.specs.declared.replies.LimitKeyName.TheVariants as line
use Rattle.records.specs.declared.rows.Project.{Project}
use Rattle.records.specs.declared.rows.Instance.{Instance}
use Rattle.row_machine.specs.machine.Task.{Task}
use Rattle.row_machine.specs.machine.State.{State}
use Rattle.row_machine.specs.machine.Homes.{home_of}
use Rattle.row_machine.specs.machine.Expansions.{expanded_of}
use Rattle.row_machine.specs.machine.Claims.{project_of_row}
use Rattle.row_machine.specs.machine.Usage.{used, used_on, networks_of}
use Rattle.row_machine.specs.shown.Urls.{url_of, target_of, sorted}
use Rattle.row_machine.specs.machine.Holders.{names_profile, profile_uses, instance_uses, volume_uses}
use Rattle.row_machine.specs.machine.StandingRules.{power_of}
use Rattle.row_machine.specs.machine.Asked.{snapshots_of}
use Rattle.row_machine.specs.shown.Notices.{view_of}
use Rattle.row_machine.specs.machine.Plans.{row_of}

-- ---- users

-- the URL of a row
abbrev pub row_url : Row → List ℕ
row_url row = url_of (project_of_row row) (target_of row)

-- the URLs of rows
abbrev pub urls : List Row → List (List ℕ)
urls rows = map row_url rows

-- the instances, networks, volumes and profiles of a project
abbrev pub rows_in : State → List ℕ → List Row
rows_in state project =
    map row.Instance (filter (λ instance. bytes_eq instance.project project) state.instances)
    ++ map row.Network (filter (λ network. bytes_eq network.project project) state.networks)
    ++ map row.Volume (filter (λ volume. bytes_eq volume.project project) state.volumes)
    ++ map row.Profile (filter (λ profile. bytes_eq profile.project project) state.profiles)

-- the instances and profiles that name a network, pool or volume, and the volumes of a pool
abbrev pub rows_using : State → List ℕ → Target → List Row
rows_using state home of =
    map row.Instance (filter (instance_uses state home of) state.instances)
    ++ map row.Profile (filter (profile_uses state home of) state.profiles)
    ++ map row.Volume (filter (volume_uses of) state.volumes)

-- The URLs of the users of a row, in byte order. Rows count, claims do not.
unfoldable pub used_by : State → Row → List (List ℕ)
used_by state (row.Project project) = sorted (urls (rows_in state project.name))
used_by state (row.Profile profile) =
    sorted (urls (map row.Instance (filter (names_profile state profile.project profile.name) state.instances)))
used_by state (row.Network network) =
    sorted (urls (rows_using state network.project (target_of (row.Network network))))
used_by state (row.Pool pool) = sorted (urls (rows_using state [] (target_of (row.Pool pool))))
used_by state (row.Volume volume) = sorted (urls (rows_using state volume.project (target_of (row.Volume volume))))
used_by state (row.Instance instance) = []
used_by state (row.Snapshot snapshot) = []

-- ---- views

-- an instance with what it has and its status
abbrev pub instance_view : State → Instance → View
instance_view state instance =
    view.Instance instance (expanded_of state.projects state.profiles instance).config
    (expanded_of state.projects state.profiles instance).devices
    (unwrap_or (power_of state instance.project instance.name) Stopped)

-- how a row is shown
abbrev pub row_view : State → Row → View
row_view state (row.Project project) = view.Project project (used_by state (row.Project project))
row_view state (row.Profile profile) = view.Profile profile (used_by state (row.Profile profile))
row_view state (row.Network network) = view.Network network (used_by state (row.Network network))
row_view state (row.Pool pool) = view.Pool pool (used_by state (row.Pool pool))
row_view state (row.Volume volume) = view.Volume volume (used_by state (row.Volume volume))
row_view state (row.Instance instance) = instance_view state instance
row_view state (row.Snapshot snapshot) = view.Snapshot snapshot

-- ---- the state of a project: each limit with what is used of it

-- the key of a part
abbrev pub line_key : Part → LimitKeyName
line_key part_of.Instances = line.Instances
line_key part_of.Containers = line.Containers
line_key part_of.Machines = line.Machines
line_key part_of.Cpu = line.Cpu
line_key part_of.Memory = line.Memory
line_key part_of.Processes = line.Processes
line_key part_of.Disk = line.Disk

-- a part of the usage of a project, with its limit
abbrev pub usage_line : State → Project → Part → UsageLine
usage_line state project part = record
    { key = line_key part; used = used state project.name part; limit = limit_on part (limits_of project.config) }

-- its number of networks, with its limit
abbrev pub networks_line : State → Project → UsageLine
networks_line state project =
    record { key = line.Networks; used = networks_of state project.name; limit = (limits_of project.config).networks }

-- what it uses of a pool, with its limit there
abbrev pub pool_line : State → Project → List ℕ → UsageLine
pool_line state project pool = record {
  key = line.DiskOnPool pool;
  used = used_on state project.name pool;
  limit = pool_limit project.config pool;
}

-- the state of a project: a line for each of its sums, one for networks, and one for each pool that it limits
unfoldable pub usage_view : State → Project → View
usage_view state project =
    view.Usage
    (map (usage_line state project) parts
    ++ networks_line state project
    ∷ map (pool_line state project) (limited_pools project.config))

-- ---- lists

-- the rows of a list: of all projects or pools, of a home, of a pool in a home, of an instance
abbrev pub listed : State → List ℕ → Target → List Row
listed state project of = rows of.kind where
  home : ObjectKind → List ℕ
  home kind = home_of state.projects project kind

  rows : ObjectKind → List Row
  rows kind.Project = map row.Project state.projects
  rows kind.Profile = map row.Profile (filter (λ profile. bytes_eq profile.project (home kind.Profile)) state.profiles)
  rows kind.Network = map row.Network (filter (λ network. bytes_eq network.project (home kind.Network)) state.networks)
  rows kind.Pool = map row.Pool state.pools
  rows kind.Volume =
      map row.Volume
      (filter (λ volume. bytes_eq volume.project (home kind.Volume) && bytes_eq volume.pool of.pool) state.volumes)
  rows kind.Instance = map row.Instance (filter (λ instance. bytes_eq instance.project project) state.instances)
  rows kind.Snapshot = map row.Snapshot (snapshots_of state project of.instance)
  rows kind.Operation = []

-- ---- operations

-- the place of a status in their order
abbrev pub status_number : Status → ℕ
status_number Pending = 0
status_number Running = 1
status_number Cancelling = 2
status_number Success = 3
status_number Failure = 4
status_number Cancelled = 5

-- the statuses, in their order
abbrev pub statuses : List Status
statuses = Pending ∷ Running ∷ Cancelling ∷ Success ∷ Failure ∷ Cancelled ∷ []

-- the kept operations of a project that have a status, in the order of their numbers
abbrev pub operations_of : State → List ℕ → Status → List (Operation Task)
operations_of state project status =
    filter
    (λ operation. bytes_eq operation.work.project project && status_number operation.status == status_number status)
    (by_number (state.operations.live ++ state.operations.ended))

-- a status with what is told of its operations, where there are any
abbrev pub if_any : {X : Type 0} → (Operation Task → X) → Status → List (Operation Task) → Option (Status × List X)
if_any tell status [] = None
if_any tell status (operation ∷ operations) = Some (status, map tell (operation ∷ operations))

-- the statuses that occur, each with its operations
abbrev pub by_status : {X : Type 0} → (Operation Task → X) → State → List ℕ → List (Status × List X)
by_status tell state project = filter_map (λ status. if_any tell status (operations_of state project status)) statuses

-- ---- replies

-- operations by their status, with numbers or whole
abbrev pub operations_reply : State → List ℕ → Bool → Reply
operations_reply state project false = reply.OpLinks (by_status (λ operation. operation.number) state project)
operations_reply state project true = reply.OpMany (by_status view_of state project)

-- rows by their URLs or whole
abbrev pub rows_reply : State → List Row → Bool → Reply
rows_reply state rows false = reply.Links (urls rows)
rows_reply state rows true = reply.Many (map (row_view state) rows)

-- whether operations are meant
abbrev pub is_operation : ObjectKind → Bool
is_operation kind.Operation = true
is_operation other = false

-- a list, with recursion or without
abbrev pub list_reply : State → List ℕ → Target → Bool → Reply
list_reply state project of recursion =
    if is_operation of.kind then operations_reply state project recursion
    else rows_reply state (listed state project of) recursion

-- a view of what is there; a command without a broken rule finds it
abbrev pub one : Option View → Reply
one None = reply.Empty
one (Some view) = reply.One view

-- the state of an instance or of a project
abbrev pub state_view : State → List ℕ → Row → Option View
state_view state project (row.Project a_project) = Some (usage_view state a_project)
state_view state project (row.Instance instance) = option_map view.Power (power_of state instance.project instance.name)
state_view state project other = None

-- how an operation is shown, if it is kept
abbrev pub operation_view : State → ℕ → Option View
operation_view state op = option_map (λ operation. view.Op (view_of operation)) (kept_at state.operations op)

-- the answer of a read
unfoldable pub read : State → List ℕ → What → Reply
read state project what.Root = reply.Links (codes "/1.0" ∷ [])
read state project what.Server = reply.One view.Server
read state project (what.List of recursion) = list_reply state project of recursion
read state project (what.Get of) = one (option_map (row_view state) (row_of state project of))
read state project (what.State of) = one (option_and_then (state_view state project) (row_of state project of))
read state project (what.GetOp op) = one (operation_view state op)
read state project (what.Wait op timeout) = one (operation_view state op)
read state project other = reply.Empty
