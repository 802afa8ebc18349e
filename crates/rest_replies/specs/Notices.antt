-- Notices as JSON.
use Rattle.std.specs.Prelude.{ℕ, List, [], ◌∷◌, codes}
use Rattle.records.specs.declared.notices.Life.{Life}
use Rattle.records.specs.declared.notices.Life.TheVariants as life
use Rattle.records.specs.declared.notices.EventBody.{EventBody}
use Rattle.records.specs.declared.notices.EventBody.TheVariants as body
use Rattle.records.specs.declared.notices.Notice.{Notice}
use Rattle.serde_json.specs.Data.{Data, string}
use Rattle.serde_json.specs.Written.{compact_text}
use Rattle.rest_json.specs.Moments.{moment_text}
use Rattle.rest_json.specs.Objects.{object_of, whole}
use Rattle.rest_json.specs.Operations.{operation_data}
use Rattle.rest_json.specs.declared.terms.Terms.{Terms}

-- how an action is written
abbrev pub life_text : Life → List ℕ
life_text life.ProjectCreated = codes "project-created"
life_text life.ProjectUpdated = codes "project-updated"
life_text life.ProjectRenamed = codes "project-renamed"
life_text life.ProjectDeleted = codes "project-deleted"
life_text life.ProfileCreated = codes "profile-created"
life_text life.ProfileUpdated = codes "profile-updated"
life_text life.ProfileRenamed = codes "profile-renamed"
life_text life.ProfileDeleted = codes "profile-deleted"
life_text life.NetworkCreated = codes "network-created"
life_text life.NetworkUpdated = codes "network-updated"
life_text life.NetworkRenamed = codes "network-renamed"
life_text life.NetworkDeleted = codes "network-deleted"
life_text life.PoolCreated = codes "storage-pool-created"
life_text life.PoolUpdated = codes "storage-pool-updated"
life_text life.PoolDeleted = codes "storage-pool-deleted"
life_text life.VolumeCreated = codes "storage-volume-created"
life_text life.VolumeUpdated = codes "storage-volume-updated"
life_text life.VolumeRenamed = codes "storage-volume-renamed"
life_text life.VolumeDeleted = codes "storage-volume-deleted"
life_text life.InstanceCreated = codes "instance-created"
life_text life.InstanceUpdated = codes "instance-updated"
life_text life.InstanceDeleted = codes "instance-deleted"
life_text life.InstanceRenamed = codes "instance-renamed"
life_text life.InstanceStarted = codes "instance-started"
life_text life.InstanceStopped = codes "instance-stopped"
life_text life.InstanceRestarted = codes "instance-restarted"
life_text life.InstancePaused = codes "instance-paused"
life_text life.InstanceResumed = codes "instance-resumed"
life_text life.InstanceRestored = codes "instance-restored"
life_text life.SnapshotCreated = codes "instance-snapshot-created"
life_text life.SnapshotDeleted = codes "instance-snapshot-deleted"

-- the type of a notice
abbrev pub event_type : EventBody → List ℕ
event_type (body.Life action source) = codes "lifecycle"
event_type (body.Op operation) = codes "operation"

-- an action, with the URL of its object
unfoldable pub life_data : Life → List ℕ → Data
life_data action source = object_of (
    (codes "action", string (life_text action))
    ∷ (codes "source", string source)
    ∷ [])

-- what a notice tells: an action, or an operation as it stands
abbrev pub event_data : ℕ → EventBody → Data
event_data boot (body.Life action source) = life_data action source
event_data boot (body.Op operation) = operation_data boot operation

-- a notice as an object
unfoldable pub notice_data : ℕ → Notice → Data
notice_data boot notice = object_of (
    (codes "metadata", event_data boot notice.body)
    ∷ (codes "number", whole notice.number)
    ∷ (codes "project", string notice.project)
    ∷ (codes "timestamp", string (moment_text notice.moment))
    ∷ (codes "type", string (event_type notice.body))
    ∷ [])

-- a notice as a text
unfoldable pub notice_text : Notice → Terms → List ℕ
notice_text notice terms = compact_text (notice_data terms.boot notice)
