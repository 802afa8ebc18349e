-- The promise of the server, from any state that entries open to, for every list of possible events with every outcome:
-- at the end of each turn usage with claims stands within every limit, nothing in a restricted project is forbidden to
-- it, each instance has what its profiles in their order and then its own settings say, and each operation ends at most
-- once, with its share whole.
use Rattle.std.specs.Prelude.{◌≡◌, ℕ, ◌+◌, ◌≤◌, List, [], ◌∷◌, ◌⊎◌, Some, None, IfSome}
use Rattle.std.specs.List.{sum_by}
use Rattle.std.specs.Option.{option_map}
use Rattle.plain_lists.specs.Members.{Mem, Each, Distinct}
use Rattle.size_values.specs.Amounts.{part}
use Rattle.size_values.specs.declared.entry.Entry.{Entry}
use Rattle.size_values.specs.declared.amounts.Amounts.{Amounts}
use Rattle.size_values.specs.declared.amounts.Part.{Part}
use Rattle.size_values.specs.declared.kinds.ObjectKind.TheVariants as kind
use Rattle.config_lists.specs.Settings.{setting}
use Rattle.config_lists.specs.Devices.{device}
use Rattle.expansion.specs.declared.expanded.Expanded.{Expanded}
use Rattle.expansion.specs.Layers.{expanded_setting, expanded_device}
use Rattle.restrictions.specs.declared.rows.Subject.TheVariants as subject
use Rattle.restrictions.specs.Policies.{policy_of}
use Rattle.restrictions.specs.Forbids.{first_forbidden}
use Rattle.project_limits.specs.Admission.{limit_on}
use Rattle.project_limits.specs.Limits.{limits_of}
use Rattle.project_limits.specs.Countable.{first_without_amount, volume_without_amount}
use Rattle.project_limits.specs.Pools.{pool_limit, pool_without_size, volume_pool_without_size}
use Rattle.operations.specs.declared.operation.Operation.{Operation}
use Rattle.operations.specs.declared.status.Status.{Status}
use Rattle.operations.specs.declared.status.Status.TheVariants as status
use Rattle.operations.specs.OperationTable.{live_at, kept_at}
use Rattle.records.specs.declared.rows.Project.{Project}
use Rattle.records.specs.declared.rows.Profile.{Profile}
use Rattle.records.specs.declared.rows.Volume.{Volume}
use Rattle.records.specs.declared.rows.Instance.{Instance}
use Rattle.row_machine.specs.declared.events.Event.{Event}
use Rattle.row_machine.specs.machine.Task.{Task}
use Rattle.row_machine.specs.machine.State.{State}
use Rattle.row_machine.specs.machine.Rows.{profile_named}
use Rattle.row_machine.specs.machine.Homes.{home_of}
use Rattle.row_machine.specs.machine.Expansions.{layers_by, expanded_of}
use Rattle.row_machine.specs.machine.Claims.{judged_instances, judged_volumes, part_of_share, share_of}
use Rattle.row_machine.specs.machine.Usage.{usage_of, used_on, networks_of}
use Rattle.row_machine.specs.machine.PolicyRules.{subject_of}
use Rattle.row_machine.specs.machine.Accept.{After}
use Rattle.row_machine.specs.machine.Step.{Outcome, step}
use Rattle.row_machine.specs.machine.Runs.{Ran, run}
use Rattle.row_machine.specs.opening.Opening.{opening_of, opened}
use Rattle.machine_laws.specs.Possible.{ArePossible}
use Rattle.machine_laws.specs.Openings.{HasBytes}
use Rattle.machine_laws.specs.Sorted.{AreSortedEvents}

-- ---- after each turn

-- what an instance has, by its profiles and by itself
abbrev pub has : State → Instance → Expanded
has state instance = expanded_of state.projects state.profiles instance

-- the layers of an instance: its profiles in their order, and then what it has itself
abbrev pub layers_of : State → Instance → List Expanded
layers_of state instance =
    layers_by (profile_named state.profiles (home_of state.projects instance.project kind.Profile)) instance

-- whether an instance, or a volume, of a project gives a number for each sum that the project limits, and a size where
-- its pool is limited
abbrev pub HasAmounts : State → Project → Instance → Type 0
HasAmounts state project instance =
    instance.project ≡ project.name
    → (first_without_amount (limits_of project.config) instance.kind (has state instance).config
    (has state instance).devices
    ≡ None)
    × (pool_without_size project.config (has state instance).devices ≡ None)

abbrev pub VolumeHasAmount : Project → Volume → Type 0
VolumeHasAmount project volume = volume.project ≡ project.name
    → (volume_without_amount (limits_of project.config) volume.config ≡ None)
    × (volume_pool_without_size project.config volume.pool volume.config ≡ None)

-- Each part of a project's usage, claims included, is at most the limit on it that the project sets, and so is the
-- number of its networks and what it uses of each pool. Each of its instances and volumes, also those that an
-- operation is about to put, is countable.
pub record KeepsLimits (state : State) (project : Project) : Type 0 where
  pub usage : (a_part : Part)
      → IfSome (limit_on a_part (limits_of project.config)) (λ limit. part a_part (usage_of state project.name) ≤ limit)
  pub networks : IfSome (limits_of project.config).networks (λ limit. networks_of state project.name ≤ limit)
  pub pools : (pool : List ℕ)
      → IfSome (pool_limit project.config pool) (λ limit. used_on state project.name pool ≤ limit)
  pub instances : Each (HasAmounts state project) (judged_instances state)
  pub volumes : Each (VolumeHasAmount project) (judged_volumes state)

-- the policy of a project forbids nothing that its profile has, or that its instance has
abbrev pub IsAllowedProfile : Project → Profile → Type 0
IsAllowedProfile project profile =
    profile.project ≡ project.name
    → first_forbidden (policy_of project.config) subject.Profile profile.config profile.devices ≡ None

abbrev pub IsAllowedInstance : State → Project → Instance → Type 0
IsAllowedInstance state project instance =
    instance.project ≡ project.name
    → first_forbidden
    (policy_of project.config) (subject_of instance.kind) (has state instance).config (has state instance).devices
    ≡ None

-- a project's policy forbids nothing in it, nor what an operation is about to put
pub record KeepsPolicy (state : State) (project : Project) : Type 0 where
  pub profiles : Each (IsAllowedProfile project) state.profiles
  pub instances : Each (IsAllowedInstance state project) (judged_instances state)

-- An instance has of each key the value that the last of its layers with this key has, and of each name the device that
-- the last of its layers with this name has, whole.
pub record HasItsLayers (state : State) (instance : Instance) : Type 0 where
  pub settings : (key : List ℕ)
      → setting (has state instance).config key ≡ expanded_setting (layers_of state instance) key
  pub devices : (name : List ℕ)
      → device (has state instance).devices name ≡ expanded_device (layers_of state instance) name

-- the books balance: of the shares that were granted to operations each was converted, or returned, or is still held,
-- and so was what of them is on pools
pub record BooksBalance (state : State) : Type 0 where
  pub parts : (a_part : Part)
      → part a_part state.books.granted
      ≡ part a_part state.books.converted + part a_part state.books.returned
      + sum_by (λ hold. part a_part hold.share) state.held
  pub pools : state.books.pool_granted
      ≡ state.books.pool_converted + state.books.pool_returned + sum_by (λ hold. hold.part.disk) state.held

-- what stands at the end of each turn
pub record StandsAsPromised (state : State) : Type 0 where
  pub limits : Each (KeepsLimits state) state.projects
  pub policy : Each (KeepsPolicy state) state.projects
  pub instances : Each (HasItsLayers state) (judged_instances state)
  pub books : BooksBalance state

-- ---- over each turn

-- the status with which an operation is kept
abbrev pub IsKeptAs : State → Operation Task → Status → Type 0
IsKeptAs state operation now = option_map (λ kept. kept.status) (kept_at state.operations operation.number) ≡ Some now

-- one of the books: its amounts, and its bytes on pools
pub record Book : Type 0 where
  pub amounts : Amounts
  pub pools : ℕ

abbrev pub converted_book : State → Book
converted_book state = record { amounts = state.books.converted; pools = state.books.pool_converted }

abbrev pub returned_book : State → Book
returned_book state = record { amounts = state.books.returned; pools = state.books.pool_returned }

-- the whole share of an operation was added to this book
pub record Takes (state : State) (operation : Operation Task) (before after : Book) : Type 0 where
  pub parts : (a_part : Part)
      → part a_part after.amounts ≡ part a_part before.amounts + part a_part (share_of state operation.work)
  pub pools : after.pools ≡ before.pools + (part_of_share state operation.work).disk

-- a book stands as it was
pub record Stands (before after : Book) : Type 0 where
  pub amounts : after.amounts ≡ before.amounts
  pub pools : after.pools ≡ before.pools

-- How an operation ended, and where its share went: the whole of it to its object, or the whole of it back.
pub data EndsWhole (state later : State) (operation : Operation Task) : Type 0 where
  became_its_objects : IsKeptAs later operation status.Success
      → Takes state operation (converted_book state) (converted_book later)
      → Stands (returned_book state) (returned_book later)
      → EndsWhole state later operation
  went_back : IsKeptAs later operation status.Failure ⊎ IsKeptAs later operation status.Cancelled
      → Takes state operation (returned_book state) (returned_book later)
      → Stands (converted_book state) (converted_book later)
      → EndsWhole state later operation

-- each operation that is live before a turn and not after it ended so
abbrev pub SharesGoWhole : State → State → Type 0
SharesGoWhole state later =
    (operation : Operation Task) → Mem operation state.operations.live
    → live_at later.operations operation.number ≡ None → EndsWhole state later operation

-- ---- over all turns

-- each turn of a run, from the state before it to the state after it
abbrev pub EachTurn : (State → State → Type 0) → State → List (Event × Outcome) → Type 0
EachTurn fact state [] = Unit {0}
EachTurn fact state (event ∷ events) =
    (after : After) → step state event.0 event.1 ≡ Some after
    → fact state after.state × EachTurn fact after.state events

pub record KeepsItsPromise (state : State) (events : List (Event × Outcome)) (ran : Ran) : Type 0 where
  pub turns : EachTurn (λ before after. StandsAsPromised after × SharesGoWhole before after) state events
  pub ends : Distinct (λ (end : ℕ × Status). end.0) ran.ends

-- The store may hold anything that opening takes, or nothing: then the server is new. Requests may come in any order,
-- with any reports of calls between them, and the outside may fail as it likes. Settings and devices of a request stand
-- in the order of their keys, as the program's types keep them.
abbrev pub TheHeadline : Type 0
TheHeadline = (entries : List Entry) (state : State) (events : List (Event × Outcome)) (ran : Ran) →
    Each HasBytes entries → opening_of entries ≡ opened state →
    ArePossible events → AreSortedEvents events → run state events ≡ Some ran →
    KeepsItsPromise state events ran
