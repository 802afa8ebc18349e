-- What contracts see of a draft.
use Rattle.std.specs.Prelude.{◌≡◌, ◌+◌, ◌*◌, ◌≤◌, ℕ, List, [], ◌∷◌, ◌++◌, length}
use Rattle.size_values.specs.declared.kinds.Power.TheVariants.{Stopped}
use Rattle.records.specs.declared.rows.Instance.{Instance}
use Rattle.records.specs.declared.rows.Row.TheVariants as row
use Rattle.row_machine.specs.declared.changes.RowChange.{RowChange}
use Rattle.row_machine.specs.declared.changes.RowChange.TheVariants as change
use Rattle.row_machine.specs.machine.State.{State, InstancePower}
use Rattle.core_drafts.specs.Background.{Backing}
use Rattle.core_drafts.specs.declared.lists.Undone.{Undone}
use Rattle.core_drafts.specs.Steps.{before_changes}

-- the state with the rows of all kinds and the operations, how many rows of each kind can be put in without taking
-- memory, and what there is memory for beside the operations
pub record Listed : Type 0 where
  pub state : State
  pub room : ℕ
  pub backing : Backing

-- The state; what takes back the changes that are not settled yet; how many rows of each kind and how many changes
-- there is memory for; the statuses that are kept ready for new instances; and what there is memory for beside the
-- operations.
pub record Drafted : Type 0 where
  pub state : State
  pub log : List Undone
  pub room : ℕ
  pub log_room : ℕ
  pub spares : List InstancePower
  pub backing : Backing

-- the state before the changes that are not settled yet
abbrev pub former : Drafted → State
former draft = before_changes draft.log draft.state

-- memory was taken for one more operation, for taking it back, and for the share that it then holds
pub record CanClaim (draft : Drafted) : Type 0 where
  pub rows : length draft.log + 1 ≤ draft.room
  pub log : 1 ≤ draft.log_room
  pub claim : 1 ≤ draft.backing.claim_room
  pub hold : 1 ≤ draft.backing.hold_room

-- the status of a new instance
abbrev pub stopped : Instance → InstancePower
stopped instance = record { project = instance.project; name = instance.name; power = Stopped }

-- the status that a change may need: that of the instance which it puts
abbrev pub spares_for : RowChange → List InstancePower
spares_for (change.Put (row.Instance instance)) = stopped instance ∷ []
spares_for other = []

-- those that changes may need, in their order
abbrev pub spares_of : List RowChange → List InstancePower
spares_of [] = []
spares_of (change ∷ changes) = spares_for change ++ spares_of changes

-- memory was taken for these changes, and for taking back them and those before that are not settled
pub record IsReady (draft : Drafted) (changes : List RowChange) : Type 0 where
  pub rows : length draft.log + 2 * length changes ≤ draft.room
  pub log : length changes ≤ draft.log_room
  pub spares : draft.spares ≡ spares_of changes
