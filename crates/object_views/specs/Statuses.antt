-- The operations of a project that have a status.
use Rattle.std.specs.Prelude.{ℕ, Bool, List, ◌==◌, ◌&&◌}
use Rattle.std.specs.Str.{bytes_eq}
use Rattle.operations.specs.declared.operation.Operation.{Operation}
use Rattle.operations.specs.declared.status.Status.{Status}
use Rattle.row_machine.specs.machine.Task.{Task}
use Rattle.row_machine.specs.shown.Views.{status_number}

-- whether it is an operation of this project and status
abbrev pub has_status : List ℕ → Status → Operation Task → Bool
has_status project status operation =
    bytes_eq operation.work.project project && status_number operation.status == status_number status
