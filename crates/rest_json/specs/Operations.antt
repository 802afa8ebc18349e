-- Operations as JSON.
use Rattle.std.specs.Prelude.{ℕ, List, [], ◌∷◌, Bool, ◌&&◌, true, false, codes}
use Rattle.size_values.specs.declared.kinds.ObjectKind.{ObjectKind}
use Rattle.size_values.specs.declared.kinds.ObjectKind.TheVariants.{Volume, Snapshot}
use Rattle.operations.specs.declared.status.Status.{Status}
use Rattle.operations.specs.declared.status.Status.TheVariants.{Pending, Running}
use Rattle.operations.specs.declared.operation.OpFault.{OpFault}
use Rattle.operations.specs.declared.operation.OpFault.TheVariants as fault
use Rattle.records.specs.declared.replies.OpView.{OpView}
use Rattle.serde_json.specs.Data.{Data, null, boolean, string}
use Rattle.row_machine.specs.shown.Urls.{url_of}
use Rattle.row_machine.specs.machine.TableRules.{status_text}
use Rattle.rest_json.specs.Words.{status_code, error_text}
use Rattle.rest_json.specs.Ids.{id_text}
use Rattle.rest_json.specs.Moments.{moment_text}
use Rattle.rest_json.specs.Objects.{object_of, list_of, whole}

-- what is told of the call that failed: its number, and the counts of faults before and after it
abbrev pub fault_data : OpFault → Data
fault_data fault.None = null
fault_data (fault.Host call before after) = object_of ((codes "after", whole after) ∷ (codes "before", whole before)
    ∷ (codes "call", whole call) ∷ [])
fault_data (fault.Keeper before after) = object_of ((codes "after", whole after) ∷ (codes "before", whole before) ∷ [])
fault_data fault.NoMemory = null

-- the key of the objects that an operation is about
abbrev pub resource_key : ObjectKind → List ℕ
resource_key Snapshot = codes "snapshots"
resource_key Volume = codes "storage_volumes"
resource_key other = codes "instances"

-- the object that an operation is about, by its URL
unfoldable pub resources_data : OpView → Data
resources_data operation = object_of (
    (resource_key operation.target.kind, list_of (string (url_of operation.project operation.target) ∷ []))
    ∷ [])

-- whether an operation of a status can still be cancelled
abbrev pub may_stop : Status → Bool
may_stop Pending = true
may_stop Running = true
may_stop other = false

-- an operation as an object
unfoldable pub operation_data : ℕ → OpView → Data
operation_data boot operation = object_of (
    (codes "class", string (codes "task"))
    ∷ (codes "created_at", string (moment_text operation.created))
    ∷ (codes "err", string (error_text operation.status operation.fault))
    ∷ (codes "id", string (id_text boot operation.number))
    ∷ (codes "may_cancel", boolean (operation.may_cancel && may_stop operation.status))
    ∷ (codes "metadata", fault_data operation.fault)
    ∷ (codes "resources", resources_data operation)
    ∷ (codes "status", string (status_text operation.status))
    ∷ (codes "status_code", whole (status_code operation.status))
    ∷ (codes "updated_at", string (moment_text operation.updated))
    ∷ [])
