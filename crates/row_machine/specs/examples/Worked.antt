-- Examples that the machine itself computes: lists of events from a new server, and the exact answer, refusal or usage.
use Rattle.std.specs.Prelude.{◌≡◌, ℕ, true, false, List, [], ◌∷◌, ◌++◌, map, Option, Some, None, IfSome, codes}
use Rattle.std.specs.Prelude.{option_map, option_and_then}
use Rattle.row_machine.specs.Words.{Amounts, Deed, Container, Settings, NamedDevices, names_volume, Expanded, Status}
use Rattle.row_machine.specs.Words.{kept_at, Target, Rule, Refusal}
use Rattle.row_machine.specs.Words.action
use Rattle.row_machine.specs.Words.deed
use Rattle.row_machine.specs.Words.kind
use Rattle.row_machine.specs.Words.status
use Rattle.row_machine.specs.Words.origin
use Rattle.row_machine.specs.Words.what
use Rattle.row_machine.specs.Words.rule
use Rattle.row_machine.specs.Words.reply
use Rattle.row_machine.specs.Words.view
use Rattle.row_machine.specs.Words.driver
use Rattle.row_machine.specs.Words.report
use Rattle.size_values.specs.Amounts.{nothing}
use Rattle.operations.specs.declared.operation.Operation.{Operation}
use Rattle.records.specs.declared.rows.Instance.{Instance}
use Rattle.records.specs.declared.rows.Profile.{Profile}
use Rattle.row_machine.specs.declared.events.Answer.{Answer}
use Rattle.row_machine.specs.declared.events.Answer.TheVariants as answer
use Rattle.row_machine.specs.machine.Task.{Task}
use Rattle.row_machine.specs.machine.State.{State}
use Rattle.row_machine.specs.machine.Refusals.{no_details, on_project, on_key_of, on_object}
use Rattle.row_machine.specs.machine.Plans.{snapshot_target}
use Rattle.row_machine.specs.machine.Tasks.{deletion_task}
use Rattle.row_machine.specs.machine.Operations.{entered}
use Rattle.row_machine.specs.machine.Step.{well}
use Rattle.row_machine.specs.machine.Runs.{run}
use Rattle.row_machine.specs.declared.events.Event.TheVariants as event
use Rattle.row_machine.specs.facts.Whole.{IsWhole}
use Rattle.row_machine.specs.machine.Usage.{usage_of, used_on}
use Rattle.row_machine.specs.machine.Expansions.{expanded_of}
use Rattle.row_machine.specs.examples.Scenes.{Events, default, named, no_body, ask, make_project, patch_project}
use Rattle.row_machine.specs.examples.Scenes.{make_pool, root_disk, make_profile, put_profile, put_default}
use Rattle.row_machine.specs.examples.Scenes.{make_instance, make_snapshot, delete_snapshot, act, cancel, take, done}
use Rattle.row_machine.specs.examples.Scenes.{work, work_twice, begin, last_answer, last_refusal, last_started}
use Rattle.row_machine.specs.examples.Scenes.{state_after, usage_after}

-- ---- what an instance has

-- profile `a` limits the CPUs and has the root disk, profile `b` goes before it, and the instance before both
abbrev pub layered : Events
layered =
    make_pool
    ++ make_profile default (codes "a") ((codes "limits.cpu", codes "1") ∷ (codes "user.x", codes "1") ∷ []) root_disk
    ++ make_profile default (codes "b") ((codes "user.x", codes "2") ∷ []) []
    ++ ask default (what.Create (named kind.Instance (codes "i"))
    (record no_body {
      config = Some ((codes "limits.cpu", codes "4") ∷ []);
      profiles = Some (codes "a" ∷ codes "b" ∷ []);
    }))
    ++ work_twice 1
    ++ ask default (what.Get (named kind.Instance (codes "i")))

-- the settings that an instance is shown with
abbrev pub shown_config : Answer → Option Settings
shown_config (answer.Reply (reply.One (view.Instance row config devices power))) = Some config
shown_config other = None

-- of each setting the last layer that has it counts
abbrev pub LastLayerFirst : Type 0
LastLayerFirst = option_and_then shown_config (last_answer layered)
    ≡ Some ((codes "limits.cpu", codes "4") ∷ (codes "user.x", codes "2") ∷ [])

-- a disk of a profile on the volume `v`
abbrev pub extra : Settings → NamedDevices
extra rest = (codes "extra", (codes "path", codes "/srv") ∷ (codes "pool", codes "p0") ∷ rest) ∷ []

-- the profile `default` with a disk `extra` that has a size
abbrev pub with_size : Profile
with_size = record {
  project = default;
  name = default;
  description = [];
  config = [];
  devices = extra ((codes "size", codes "2GiB") ∷ (codes "source", codes "v") ∷ (codes "type", codes "disk") ∷ []);
}

-- an instance of that profile with these devices of its own
abbrev pub over_extra : NamedDevices → Expanded
over_extra devices = expanded_of begin.projects (with_size ∷ []) instance where
  instance : Instance
  instance = record {
    project = default;
    name = codes "i";
    kind = Container;
    ephemeral = false;
    description = [];
    origin = [];
    created = 0;
    profiles = default ∷ [];
    config = [];
    devices = devices;
  }

-- the same disk without a size
abbrev pub without_size : NamedDevices
without_size = extra ((codes "source", codes "v") ∷ (codes "type", codes "disk") ∷ [])

-- a device of type `none`
abbrev pub no_extra : NamedDevices
no_extra = (codes "extra", (codes "type", codes "none") ∷ []) ∷ []

-- a device is taken whole, so the size of the profile's disk is gone; one of type `none` stays and names no volume
pub record DevicesAreWhole : Type 0 where
  pub whole : (over_extra without_size).devices ≡ without_size
  pub none : (over_extra no_extra).devices ≡ no_extra
  pub unnamed : names_volume (over_extra no_extra).devices (codes "p0") (codes "v") ≡ false
  pub named : names_volume (over_extra without_size).devices (codes "p0") (codes "v") ≡ true

-- ---- limits, and claims that count for them

-- a project
abbrev pub lab : List ℕ
lab = codes "lab"

-- a name
abbrev pub a : List ℕ
a = codes "a"

-- another name
abbrev pub b : List ℕ
b = codes "b"

-- a third name
abbrev pub c : List ℕ
c = codes "c"

-- the project `lab` with these settings, the pool, and the root disk in its profile `default`
abbrev pub lab_with : Settings → Events
lab_with config = make_project lab config ++ make_pool ++ put_default lab

-- one setting
abbrev pub setting_of : List ℕ → List ℕ → Settings
setting_of key value = (key, value) ∷ []

-- a refusal by a limit of `lab`
abbrev pub over_limit : Rule → List ℕ → ℕ → ℕ → ℕ → Refusal
over_limit why key used asked limit = record {
  rule = why;
  details = record no_details { asked = asked; key = key; limit = limit; project = lab; used = used };
}

-- two instances may be there: one is made, one is claimed by an operation that waits
abbrev pub two_of_two : Events
two_of_two = lab_with (setting_of (codes "limits.instances") (codes "2")) ++ make_instance lab a [] ++ work_twice 1
    ++ make_instance lab b []

-- a second instance that is only claimed counts, and a third is above the limit
pub record ClaimsCount : Type 0 where
  pub second : last_started two_of_two ≡ Some 2
  pub third : last_refusal (two_of_two ++ make_instance lab c [])
      ≡ Some (over_limit rule.L1 (codes "limits.instances") 2 1 2)

-- the status of an operation after all events
abbrev pub status_after : Events → ℕ → Option Status
status_after events number =
    option_and_then (λ state. option_map (λ operation. operation.status) (kept_at state.operations number))
    (state_after events)

-- a waiting operation is cancelled at once, and what it claimed is free again
pub record CancelFrees : Type 0 where
  pub answered : last_answer (two_of_two ++ cancel 2) ≡ Some (answer.Reply reply.Empty)
  pub cancelled : status_after (two_of_two ++ cancel 2) 2 ≡ Some status.Cancelled
  pub third : last_started (two_of_two ++ cancel 2 ++ make_instance lab c []) ≡ Some 3

-- a pinned set of CPUs is no number, and no setting is none; four is one
abbrev pub of_eight : Settings → Events
of_eight config = lab_with (setting_of (codes "limits.cpu") (codes "8")) ++ make_instance lab a config

-- what counts for a limited sum needs a number
pub record NumbersAreNeeded : Type 0 where
  pub pinned : last_refusal (of_eight (setting_of (codes "limits.cpu") (codes "0-3")))
      ≡ Some (on_key_of rule.L0 (codes "limits.cpu") a lab)
  pub absent : last_refusal (of_eight []) ≡ Some (on_key_of rule.L0 (codes "limits.cpu") a lab)
  pub four : last_started (of_eight (setting_of (codes "limits.cpu") (codes "4"))) ≡ Some 1

-- a setting of memory
abbrev pub memory : List ℕ → Settings
memory size = setting_of (codes "limits.memory") size

-- a sum that equals the limit is allowed, one byte more is not
abbrev pub two_gibibytes : Events
two_gibibytes = lab_with (memory (codes "2GiB")) ++ make_instance lab a (memory (codes "1GiB"))
    ++ make_instance lab b (memory (codes "1GiB"))

-- the limit itself is reached by two instances, and one byte more is refused
pub record LimitIsMost : Type 0 where
  pub equal : last_started two_gibibytes ≡ Some 2
  pub above : last_refusal (two_gibibytes ++ make_instance lab c (memory (codes "1B")))
      ≡ Some (over_limit rule.L5 (codes "limits.memory") 2147483648 1 2147483648)

-- a changed limit is judged against what is used, and asks for nothing
abbrev pub one_gibibyte : Events
one_gibibyte = lab_with (memory (codes "1GiB")) ++ make_instance lab a (memory (codes "1GiB")) ++ work_twice 1

-- a limit may stay at what is used, and not fall below it
pub record LimitChanges : Type 0 where
  pub same : last_answer (one_gibibyte ++ patch_project lab (memory (codes "1GiB"))) ≡ Some (answer.Reply reply.Empty)
  pub lower : last_refusal (one_gibibyte ++ patch_project lab (memory (codes "1023MiB")))
      ≡ Some (over_limit rule.L5 (codes "limits.memory") 1073741824 0 1072693248)

-- ---- limits on pools

-- two instances of 1 GiB each on the pool `p0`, of which the project may use 2 GiB
abbrev pub two_on_p0 : Events
two_on_p0 = lab_with (setting_of (codes "limits.disk.pool.p0") (codes "2GiB")) ++ make_instance lab a []
    ++ make_instance lab b []

-- the limit itself is reached, more is refused, and it does not fall below what is used; a key without a name is none
pub record PoolLimitIsMost : Type 0 where
  pub equal : last_started two_on_p0 ≡ Some 2
  pub above : last_refusal (two_on_p0 ++ make_instance lab c [])
      ≡ Some (over_limit rule.L9 (codes "limits.disk.pool.p0") 2147483648 1073741824 2147483648)
  pub lower : last_refusal (two_on_p0 ++ patch_project lab (setting_of (codes "limits.disk.pool.p0") (codes "1GiB")))
      ≡ Some (over_limit rule.L9 (codes "limits.disk.pool.p0") 2147483648 0 1073741824)
  pub unnamed : last_refusal (make_project lab (setting_of (codes "limits.disk.pool.") (codes "1GiB")))
      ≡ Some (record { rule = rule.V1; details = record no_details { key = codes "limits.disk.pool." } })

-- a root disk on this pool, of this size if one is given
abbrev pub root_on : List ℕ → Settings → NamedDevices
root_on pool size = (
  codes "root",
  (codes "path", codes "/") ∷ (codes "pool", pool) ∷ size ++ (codes "type", codes "disk") ∷ [],
) ∷ []

-- a size of 1 GiB
abbrev pub one_gibibyte_of_disk : Settings
one_gibibyte_of_disk = setting_of (codes "size") (codes "1GiB")

-- an instance in `lab`, which has the limit of this key, with a root disk on `p0` without a size
abbrev pub without_a_size : List ℕ → Events
without_a_size key =
    lab_with (setting_of key (codes "1GiB"))
    ++ ask lab (what.Create (named kind.Instance a) (record no_body { devices = Some (root_on (codes "p0") []) }))

-- on a limited pool a root disk needs a size, and on another one it does not
pub record PoolsNeedSizes : Type 0 where
  pub absent : last_refusal (without_a_size (codes "limits.disk.pool.p0"))
      ≡ Some (on_key_of rule.L0 (codes "limits.disk.pool.p0") a lab)
  pub elsewhere : last_started (without_a_size (codes "limits.disk.pool.p1")) ≡ Some 1

-- another pool
abbrev pub p1 : List ℕ
p1 = codes "p1"

-- The project may use 1 GiB on the pool `p0`, and this much on `p1`. An instance of 1 GiB stands on `p0`, and a change
-- moves its root disk to `p1`.
abbrev pub moving_to : List ℕ → Events
moving_to limit =
    lab_with ((codes "limits.disk.pool.p0", codes "1GiB") ∷ (codes "limits.disk.pool.p1", limit) ∷ [])
    ++ ask default (what.Create (named kind.Pool p1) (record no_body { driver = Some driver.Dir }))
    ++ make_instance lab a [] ++ work_twice 1
    ++ ask lab (what.Put (named kind.Instance a)
    (record no_body { devices = Some (root_on p1 one_gibibyte_of_disk); profiles = Some (default ∷ []) }))

-- and there is room for it
abbrev pub moving : Events
moving = moving_to (codes "1GiB")

-- the disk that `lab` uses after all events, and what it uses of `p0` and of `p1`
abbrev pub disk_after : Events → Option (ℕ × ℕ × ℕ)
disk_after events = option_map
    (λ state. ((usage_of state lab).disk, used_on state lab (codes "p0"), used_on state lab p1)) (state_after events)

-- While it is live, a change from pool to pool counts on both, though it asks for no more disk; then on the new pool
-- alone, or where it failed on the old one alone. Above the limit of the new pool it is refused, though the disk of the
-- project does not grow.
pub record MovesHoldBoth : Type 0 where
  pub live : disk_after moving ≡ Some (1073741824, 1073741824, 1073741824)
  pub over : disk_after (moving ++ work 2) ≡ Some (1073741824, 0, 1073741824)
  pub failed : disk_after (moving ++ take ++ (event.Done 2 report.NoMemory 0, well) ∷ []) ≡ Some (1073741824, 1073741824, 0)
  pub too_much : last_refusal (moving_to (codes "512MiB"))
      ≡ Some (over_limit rule.L9 (codes "limits.disk.pool.p1") 0 1073741824 536870912)

-- ---- policy

-- a restricted project `r` that has the profiles of `default`, of which one makes instances privileged
abbrev pub r : List ℕ
r = codes "r"

-- a setting that makes a container privileged, or not
abbrev pub privileged : List ℕ → Settings
privileged value = setting_of (codes "security.privileged") value

-- what happens before
abbrev pub restricted_r : Events
restricted_r =
    make_pool
    ++ put_profile default default (privileged (codes "true")) root_disk
    ++ make_project r ((codes "features.profiles", codes "false") ∷ (codes "restricted", codes "true") ∷ [])

-- what a profile forbids counts, unless the instance says otherwise
pub record PolicyIsOfTheExpansion : Type 0 where
  pub forbidden : last_refusal (restricted_r ++ make_instance r a [])
      ≡ Some (on_key_of rule.F2 (codes "security.privileged") a r)
  pub allowed : last_started (restricted_r ++ make_instance r a (privileged (codes "false"))) ≡ Some 1

-- a policy goes before a limit that is exceeded too
abbrev pub restricted_and_full : Events
restricted_and_full = restricted_r ++ patch_project r (setting_of (codes "limits.instances") (codes "0"))

-- of both rules, the policy is answered
abbrev pub PolicyGoesBeforeLimits : Type 0
PolicyGoesBeforeLimits = last_refusal (restricted_and_full ++ make_instance r a [])
    ≡ Some (on_key_of rule.F2 (codes "security.privileged") a r)

-- the profile of a restricted project, and a project that becomes restricted
abbrev pub nesting_and_privileged : Settings
nesting_and_privileged = (codes "security.nesting", codes "true") ∷ (codes "security.privileged", codes "true") ∷ []

-- the refusal of both
abbrev pub nests : Refusal
nests = on_key_of rule.F1 (codes "security.nesting") default r

-- the profile of a restricted project is judged, and so is that of one that becomes restricted
pub record ProfilesAreJudged : Type 0 where
  pub of_restricted : last_refusal
      (make_project r (setting_of (codes "restricted") (codes "true"))
      ++ put_profile r default nesting_and_privileged []) ≡ Some nests
  pub of_free : last_answer (make_project r [] ++ put_profile r default nesting_and_privileged [])
      ≡ Some (answer.Reply reply.Empty)
  pub restricted_later : last_refusal
      (make_project r [] ++ put_profile r default nesting_and_privileged []
      ++ patch_project r (setting_of (codes "restricted") (codes "true"))) ≡ Some nests

-- ---- profiles that an operation holds

-- the name of a profile
abbrev pub small : List ℕ
small = codes "small"

-- an instance with the profiles `default` and `small` is being made
abbrev pub small_is_held : Events
small_is_held =
    make_pool
    ++ put_default default
    ++ make_profile default small [] []
    ++ ask default (what.Create (named kind.Instance a) (record no_body { profiles = Some (default ∷ small ∷ []) }))

-- its memory is raised
abbrev pub enlarged : Events
enlarged = put_profile default small (memory (codes "1GiB")) []

-- while an operation claims a row with the profile, it is held; then it changes, and what it counts for with it
pub record ProfilesAreHeld : Type 0 where
  pub held : last_refusal (small_is_held ++ enlarged)
      ≡ Some (record { rule = rule.B6; details = record no_details { name = small; number = 1 } })
  pub free : last_answer (small_is_held ++ work_twice 1 ++ enlarged) ≡ Some (answer.Reply reply.Empty)
  pub used : option_map (λ usage. usage.memory) (usage_after (small_is_held ++ work_twice 1 ++ enlarged) default)
      ≡ Some 1073741824

-- ---- states and snapshots

-- the ephemeral instance `e` is made, started, and has a snapshot
abbrev pub e : List ℕ
e = codes "e"

-- what happens before
abbrev pub running_e : Events
running_e =
    make_pool
    ++ put_default default
    ++ ask default (what.Create (named kind.Instance e) (record no_body { ephemeral = Some true }))
    ++ work_twice 1
    ++ act default e action.Start
    ++ work 2
    ++ make_snapshot default e
    ++ work 3

-- and it is stopped
abbrev pub stopped_e : Events
stopped_e = running_e ++ act default e action.Stop ++ work_twice 4

-- an instance is deleted
abbrev pub delete_instance : List ℕ → List ℕ → Events
delete_instance project name = ask project (what.Delete (named kind.Instance name))

-- an ephemeral instance that stops goes with its snapshots; while it runs it is not deleted
pub record EphemeralGoes : Type 0 where
  pub running : last_refusal (running_e ++ delete_instance default e)
      ≡ Some (record { rule = rule.B2; details = record no_details { key = codes "Running"; name = e } })
  pub instances : option_map (λ state. state.instances) (state_after stopped_e) ≡ Some []
  pub snapshots : option_map (λ state. state.snapshots) (state_after stopped_e) ≡ Some []
  pub used : usage_after stopped_e default ≡ Some nothing

-- a protected instance is not deleted
abbrev pub ProtectedStays : Type 0
ProtectedStays =
    last_refusal
    (make_pool
    ++ put_default default
    ++ make_instance default a (setting_of (codes "security.protection.delete") (codes "true"))
    ++ work_twice 1
    ++ delete_instance default a)
    ≡ Some (on_object rule.B3 kind.Instance a)

-- the names of the snapshots after all events
abbrev pub snapshots_after : Events → Option (List (List ℕ))
snapshots_after events = option_map (λ state. map (λ snapshot. snapshot.name) state.snapshots) (state_after events)

-- two snapshots without names
abbrev pub two_snapshots : Events
two_snapshots =
    make_pool ++ put_default default ++ make_instance default a [] ++ work_twice 1
    ++ make_snapshot default a ++ work 2 ++ make_snapshot default a ++ work 3

-- the next number is one above the greatest
pub record SnapshotsAreNumbered : Type 0 where
  pub two : snapshots_after two_snapshots ≡ Some (codes "snap0" ∷ codes "snap1" ∷ [])
  pub next : snapshots_after (two_snapshots ++ delete_snapshot default a (codes "snap0") ++ work 4
      ++ make_snapshot default a ++ work 5)
      ≡ Some (codes "snap1" ∷ codes "snap2" ∷ [])

-- a restricted project blocks snapshots unless it says otherwise
abbrev pub restricted_lab : Events
restricted_lab = lab_with (setting_of (codes "restricted") (codes "true")) ++ make_instance lab a [] ++ work_twice 1

-- snapshots are refused until the project allows them
pub record SnapshotsAreBlocked : Type 0 where
  pub blocked : last_refusal (restricted_lab ++ make_snapshot lab a) ≡ Some (on_project rule.F8 lab)
  pub allowed : last_started (restricted_lab
      ++ patch_project lab (setting_of (codes "restricted.snapshots") (codes "allow")) ++ make_snapshot lab a) ≡ Some 2

-- ---- changes of instances

-- CPUs and memory
abbrev pub sized : List ℕ → List ℕ → Settings
sized cpus size = (codes "limits.cpu", cpus) ∷ (codes "limits.memory", size) ∷ []

-- an instance gets these settings and the profile `default`
abbrev pub put_instance : List ℕ → List ℕ → Settings → Events
put_instance project name config = ask project
    (what.Put (named kind.Instance name) (record no_body { config = Some config; profiles = Some (default ∷ []) }))

-- an instance with 2 CPUs and 2 GiB runs, and a change asks for 4 and 1 GiB
abbrev pub changing : Events
changing =
    lab_with (setting_of (codes "limits.cpu") (codes "4")) ++ make_instance lab a (sized (codes "2") (codes "2GiB"))
    ++ work_twice 1
    ++ act lab a action.Start ++ work 2
    ++ put_instance lab a (sized (codes "4") (codes "1GiB"))

-- two parts of the usage
abbrev pub cpu_and_memory : Amounts → ℕ × ℕ
cpu_and_memory usage = (usage.cpu, usage.memory)

-- while it is live, a change counts with what it asks for above what stands; then with the new row alone
pub record ChangesHoldTheExcess : Type 0 where
  pub live : option_map cpu_and_memory (usage_after changing lab) ≡ Some (4, 2147483648)
  pub over : option_map cpu_and_memory (usage_after (changing ++ work 3) lab) ≡ Some (4, 1073741824)

-- a snapshot that was made when the instance had half of its memory
abbrev pub grown : Events
grown =
    lab_with (memory (codes "1GiB")) ++ make_instance lab a (memory (codes "512MiB")) ++ work_twice 1
    ++ make_snapshot lab a ++ work 2
    ++ put_instance lab a (memory (codes "1GiB")) ++ work 3

-- the snapshot becomes a new instance
abbrev pub copy_snapshot : Events
copy_snapshot =
    ask lab (what.Create (named kind.Instance b) (record no_body { origin = origin.Copy a (codes "snap0") [] }))

-- the instance is taken back to it
abbrev pub restore_snapshot : Events
restore_snapshot = ask lab (what.Restore (named kind.Instance a) (codes "snap0"))

-- a copy of the snapshot is above the limit until the instance is restored
pub record RestoreFrees : Type 0 where
  pub above : last_refusal (grown ++ copy_snapshot)
      ≡ Some (over_limit rule.L5 (codes "limits.memory") 1073741824 536870912 1073741824)
  pub restoring : last_started (grown ++ restore_snapshot) ≡ Some 4
  pub restored : option_map (λ usage. usage.memory) (usage_after (grown ++ restore_snapshot ++ work 4) lab)
      ≡ Some 536870912
  pub copied : last_started (grown ++ restore_snapshot ++ work 4 ++ copy_snapshot) ≡ Some 5

-- ---- the pool that a volume is copied from

-- this volume of the pool `p0`
abbrev pub volume : List ℕ → Target
volume name = record { kind = kind.Volume; pool = codes "p0"; instance = []; name = name }

-- the volume `v` is made in the pool `p0`, and then `w` as a copy of the `v` of this pool
abbrev pub copy_volume : List ℕ → Events
copy_volume pool =
    make_pool ++ ask default (what.Create (volume (codes "v")) no_body)
    ++ ask default (what.Create (volume (codes "w")) (record no_body { origin = origin.Copy (codes "v") [] pool }))

-- the command names the pool, and an empty text names none that there is
pub record SourceNamesItsPool : Type 0 where
  pub named : last_started (copy_volume (codes "p0")) ≡ Some 1
  pub unnamed : last_refusal (copy_volume []) ≡ Some (on_object rule.N2 kind.Pool [])

-- ---- a cancel that crosses the last call

-- the first call of a creation was done, and the second is out when the cancel comes
abbrev pub crossing : Events
crossing = make_pool ++ put_default default ++ make_instance default a [] ++ take ++ done 1 ++ cancel 1

-- the creation is taken back, no row is put, and it cannot be cancelled again
pub record CancelUndoes : Type 0 where
  pub cancelling : status_after crossing 1 ≡ Some status.Cancelling
  pub undone : status_after (crossing ++ done 1 ++ done 1) 1 ≡ Some status.Cancelled
  pub no_row : option_map (λ state. state.instances) (state_after (crossing ++ done 1 ++ done 1)) ≡ Some []
  pub ended : last_refusal (crossing ++ done 1 ++ done 1 ++ cancel 1)
      ≡ Some (record { rule = rule.O1; details = record no_details { key = codes "Cancelled"; number = 1 } })

-- ---- a deletion whose target is a snapshot

-- the name of an instance, and of a snapshot of another one
abbrev pub s : List ℕ
s = codes "s"

-- the instances `a` and `s`, the snapshot `s` of `a`, and a snapshot of `s` that is being made
abbrev pub snapshot_of_s : Events
snapshot_of_s =
    make_pool ++ put_default default ++ make_instance default a [] ++ work_twice 1 ++ make_instance default s []
    ++ work_twice 2
    ++ ask default (what.Create (snapshot_target a s) no_body) ++ work 3
    ++ make_snapshot default s

-- and a deletion is entered whose target is the snapshot `s` of `a`; no command makes such a one
abbrev pub astray : Option State
astray =
    option_map (λ before. entered before (deletion_task default (snapshot_target a s)) 0) (state_after snapshot_of_s)

-- the state after that deletion
abbrev pub gone_astray : Option State
gone_astray = option_and_then (λ before. option_map (λ ran. ran.state) (run before (take ++ take ++ done 5))) astray

-- the targets of the live operations
abbrev pub targets_in : State → List Target
targets_in now = map (λ (operation : Operation Task). operation.work.target) now.operations.live

-- The facts do not hold where such a deletion is live: it removes the instance `s` while a snapshot of `s` is being
-- made.
pub record DeletionGoesAstray : Type 0 where
  pub not_whole : (before : State) → astray ≡ Some before → IsWhole before → ⊥
  pub removed : option_map (λ now. map (λ instance. instance.name) now.instances) gone_astray ≡ Some (a ∷ [])
  pub under_way : option_map targets_in gone_astray ≡ Some (snapshot_target s (codes "snap0") ∷ [])

-- ---- a busy server

-- a fourth name
abbrev pub d : List ℕ
d = codes "d"

-- The instances `a` and `b` are there. An instance `c` is being made, and its second call is out; `a` is copied to `d`,
-- and `b` is to be deleted, both of which wait.
abbrev pub busy_server : Events
busy_server =
    make_pool ++ put_default default ++ make_instance default a [] ++ work_twice 1 ++ make_instance default b []
    ++ work_twice 2
    ++ make_instance default c [] ++ take ++ done 3
    ++ ask default (what.Create (named kind.Instance d) (record no_body { origin = origin.Copy a [] [] }))
    ++ delete_instance default b

-- the deeds and statuses of live operations
abbrev pub deeds_in : State → List (Deed × Status)
deeds_in now = map (λ (operation : Operation Task). (operation.work.deed, operation.status)) now.operations.live

-- all facts hold while a creation, a copy and a deletion are live
pub record BusyIsWhole : Type 0 where
  pub live : option_map deeds_in (state_after busy_server)
      ≡ Some ((deed.Create, status.Running) ∷ (deed.Copy, status.Pending) ∷ (deed.Delete, status.Pending) ∷ [])
  pub whole : IfSome (state_after busy_server) IsWhole

-- ---- all of them

-- every example
pub record AreWorked : Type 0 where
  pub last_layer_first : LastLayerFirst
  pub devices_are_whole : DevicesAreWhole
  pub claims_count : ClaimsCount
  pub cancel_frees : CancelFrees
  pub numbers_are_needed : NumbersAreNeeded
  pub limit_is_most : LimitIsMost
  pub limit_changes : LimitChanges
  pub pool_limit_is_most : PoolLimitIsMost
  pub pools_need_sizes : PoolsNeedSizes
  pub moves_hold_both : MovesHoldBoth
  pub policy_is_of_the_expansion : PolicyIsOfTheExpansion
  pub policy_goes_before_limits : PolicyGoesBeforeLimits
  pub profiles_are_judged : ProfilesAreJudged
  pub profiles_are_held : ProfilesAreHeld
  pub ephemeral_goes : EphemeralGoes
  pub protected_stays : ProtectedStays
  pub snapshots_are_numbered : SnapshotsAreNumbered
  pub snapshots_are_blocked : SnapshotsAreBlocked
  pub changes_hold_the_excess : ChangesHoldTheExcess
  pub restore_frees : RestoreFrees
  pub source_names_its_pool : SourceNamesItsPool
  pub cancel_undoes : CancelUndoes
  pub deletion_goes_astray : DeletionGoesAstray
