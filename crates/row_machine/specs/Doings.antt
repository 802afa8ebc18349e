-- What is made of the state, passed on: plans, operations as they go on and end, and what is told and shown of them.
pub use Rattle.row_machine.specs.machine.Plans.{Plan, changes, nothing, plan_of, rows_of_plan, starts}
pub use Rattle.row_machine.specs.machine.Operations.{cancelled, claiming, entered, failed, handing_out, moved}
pub use Rattle.row_machine.specs.machine.Operations.{one_more_done}
pub use Rattle.row_machine.specs.machine.Operations.{succeeded, success_changes, undone, with_task}
pub use Rattle.row_machine.specs.shown.Notices.{change_notices, operation_notice, since, success_notices, telling}
pub use Rattle.row_machine.specs.shown.Notices.{view_of}
pub use Rattle.row_machine.specs.shown.Views.{read}
