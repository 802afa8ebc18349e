-- What a command changes at once, with what it tells of that.
use Rattle.std.specs.Prelude.{◌≡◌, ℕ, List, [], ◌∷◌, Option, Some, None}
use Rattle.records.specs.declared.commands.Command.{Command}
use Rattle.records.specs.declared.notices.Untold.{Untold}
use Rattle.row_machine.specs.declared.changes.RowChange.{RowChange}
use Rattle.row_machine.specs.machine.State.{State}
use Rattle.row_machine.specs.machine.Plans.{Plan, nothing, changes, starts, plan_of}
use Rattle.row_machine.specs.shown.Notices.{change_notices}
use Rattle.plans_objects.specs.declared.planned.Planned.{Planned}

-- the changes that a plan makes at once
abbrev pub changes_in : Plan → Option (List RowChange)
changes_in nothing = None
changes_in (changes row_changes) = Some row_changes
changes_in (starts task) = None

-- These are the changes of the plan and the one notice of them; or the plan changes nothing at once.
abbrev pub IsPlanned : Option Planned → Plan → List Untold → Type 0
IsPlanned None plan notices = changes_in plan ≡ None
IsPlanned (Some planned) plan notices = (plan ≡ changes planned.changes) × (notices ≡ planned.notice ∷ [])

-- the same of a command in a state
abbrev pub IsPlanOf : Option Planned → State → Command → ℕ → Type 0
IsPlanOf planned state command moment =
    IsPlanned planned (plan_of state command moment) (change_notices state command moment)
