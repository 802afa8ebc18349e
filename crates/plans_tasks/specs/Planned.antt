-- What the creation of an instance begins.
use Rattle.std.specs.Prelude.{Option, Some, None}
use Rattle.row_machine.specs.machine.Task.{Task}
use Rattle.row_machine.specs.machine.Plans.{Plan, nothing, starts}

-- the plan that begins a task, where there is one
abbrev pub planned : Option Task → Plan
planned None = nothing
planned (Some task) = starts task
