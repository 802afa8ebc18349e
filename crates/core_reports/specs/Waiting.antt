-- Notices that wait to be taken, some in a short form: an operation as it was then, whose project and target are read
-- off the operation as it is kept. These two never change.
use Rattle.std.specs.Prelude.{◌≡◌, ℕ, List, [], Option}
use Rattle.std.specs.Option.{option_map_or}
use Rattle.size_values.specs.declared.kinds.ObjectKind.TheVariants as kind
use Rattle.operations.specs.declared.operation.Operation.{Operation}
use Rattle.operations.specs.OperationTable.{OperationTable, kept_at}
use Rattle.records.specs.declared.commands.Target.{Target}
use Rattle.records.specs.declared.notices.EventBody.TheVariants as body
use Rattle.records.specs.declared.notices.Untold.{Untold}
use Rattle.row_machine.specs.machine.Task.{Task}
use Rattle.row_machine.specs.machine.State.{State}
use Rattle.core_reports.specs.declared.waiting.Shown.{Shown}
use Rattle.core_reports.specs.declared.waiting.Waiting.{Waiting}
use Rattle.core_reports.specs.declared.waiting.Waiting.TheVariants as waiting

-- the target of an operation that is not kept: none
abbrev pub no_target : Target
no_target = record { kind = kind.Operation; pool = []; instance = []; name = [] }

-- the project of an operation
abbrev pub project_shown : Option (Operation Task) → List ℕ
project_shown kept = option_map_or (λ operation. operation.work.project) kept []

-- the target of an operation
abbrev pub target_shown : Option (Operation Task) → Target
target_shown kept = option_map_or (λ operation. operation.work.target) kept no_target

-- what is told of an operation as it was then
abbrev pub told_of : Option (Operation Task) → Shown → Untold
told_of kept shown = record {
  moment = shown.moment;
  project = project_shown kept;
  body = body.Op record {
    number = shown.number;
    status = shown.status;
    may_cancel = shown.may_cancel;
    created = shown.created;
    updated = shown.updated;
    fault = shown.fault;
    project = project_shown kept;
    target = target_shown kept;
  };
}

-- the notice that waits
abbrev pub told_by : OperationTable Task → Waiting → Untold
told_by operations (waiting.Whole notice) = notice
told_by operations (waiting.Shown shown) = told_of (kept_at operations shown.number) shown

-- how many notices can wait
abbrev pub untold_limit : ℕ
untold_limit = 8

-- none was told so far: the state's notices are none, and the next one is the first
pub record IsSilent (state : State) : Type 0 where
  pub notices : state.notices ≡ []
  pub next : state.next_notice ≡ 1
