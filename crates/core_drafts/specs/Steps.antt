-- What changes did to the lists, and how it is taken back.
use Rattle.std.specs.Prelude.{◌<◌, ◌≤◌, List, [], ◌∷◌, length, set}
use Rattle.std.specs.List.{insert, remove}
use Rattle.row_machine.specs.machine.State.{State}
use Rattle.row_readings.specs.Rising.{AreRising}
use Rattle.core_drafts.specs.Background.{before_claim}
use Rattle.core_drafts.specs.declared.edits.Step.{Step}
use Rattle.core_drafts.specs.declared.edits.Step.TheVariants as step
use Rattle.core_drafts.specs.declared.lists.Undone.{Undone}
use Rattle.core_drafts.specs.declared.lists.Undone.TheVariants as undone

-- ---- one list

-- the list as it was before the step
abbrev pub before_step : {X : Type 0} → Step X → List X → List X
before_step step.Kept items = items
before_step (step.Replaced place old) items = set items place old
before_step (step.TakenIn place) items = remove items place
before_step (step.TakenOut place old) items = insert items place old

-- the step's place is one of the list
abbrev pub FitsStep : {X : Type 0} → Step X → List X → Type 0
FitsStep step.Kept items = Unit {0}
FitsStep (step.Replaced place old) items = place < length items
FitsStep (step.TakenIn place) items = place < length items
FitsStep (step.TakenOut place old) items = place ≤ length items

-- ---- all lists

-- the state as it was before one change
abbrev pub before_change : Undone → State → State
before_change (undone.Project step) state = record state { projects = before_step step state.projects }
before_change (undone.Profile step) state = record state { profiles = before_step step state.profiles }
before_change (undone.Network step) state = record state { networks = before_step step state.networks }
before_change (undone.Pool step) state = record state { pools = before_step step state.pools }
before_change (undone.Volume step) state = record state { volumes = before_step step state.volumes }
before_change (undone.Instance step power) state =
    record state { instances = before_step step state.instances; powers = before_step power state.powers }
before_change (undone.Snapshot step) state = record state { snapshots = before_step step state.snapshots }
before_change undone.Claimed state = record state { operations = before_claim state.operations }
before_change undone.Nothing state = state

-- each place of a change is one of its list
abbrev pub FitsChange : Undone → State → Type 0
FitsChange (undone.Project step) state = FitsStep step state.projects
FitsChange (undone.Profile step) state = FitsStep step state.profiles
FitsChange (undone.Network step) state = FitsStep step state.networks
FitsChange (undone.Pool step) state = FitsStep step state.pools
FitsChange (undone.Volume step) state = FitsStep step state.volumes
FitsChange (undone.Instance step power) state = FitsStep step state.instances × FitsStep power state.powers
FitsChange (undone.Snapshot step) state = FitsStep step state.snapshots
FitsChange undone.Claimed state = Unit {0}
FitsChange undone.Nothing state = Unit {0}

-- the state as it was before all these changes, of which the last was made last
abbrev pub before_changes : List Undone → State → State
before_changes [] state = state
before_changes (undone ∷ rest) state = before_change undone (before_changes rest state)

-- each of them fits where it is taken back
abbrev pub FitChanges : List Undone → State → Type 0
FitChanges [] state = Unit {0}
FitChanges (undone ∷ rest) state = FitChanges rest state × FitsChange undone (before_changes rest state)

-- before any number of the last changes the rows rose
abbrev pub RoseBefore : List Undone → State → Type 0
RoseBefore [] state = Unit {0}
RoseBefore (undone ∷ rest) state = RoseBefore rest state × AreRising (before_changes (undone ∷ rest) state)
