-- What the hub is told of operations.
use Rattle.std.specs.Prelude.{◌≡◌, Option}
use Rattle.operations.specs.declared.operation.Operation.{Operation}
use Rattle.row_machine.specs.machine.Task.{Task}
use Rattle.event_hub.specs.Telling.{IsShort, object_in}
use Rattle.event_hub.specs.declared.progress.About.{About}
use Rattle.event_hub.specs.declared.progress.Progress.{Progress}
use Rattle.core_instances.specs.core_reports.specs.Waiting.{project_shown, target_shown}
use Rattle.core_instances.specs.core_reports.specs.declared.waiting.Shown.{Shown}

-- the project and the object of an operation, in short texts; where it is not kept there are none
pub record IsAbout (kept : Option (Operation Task)) (about : About) : Type 0 where
  pub project : about.project.now ≡ project_shown kept
  pub object : object_in about ≡ target_shown kept
  pub short : IsShort about

-- an operation as it was
abbrev pub progress_of : Shown → Progress
progress_of shown = record {
  moment = shown.moment;
  number = shown.number;
  status = shown.status;
  may_cancel = shown.may_cancel;
  created = shown.created;
  updated = shown.updated;
  fault = shown.fault;
}
