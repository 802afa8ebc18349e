-- What contracts see of the server, and what is true of its fields.
use Rattle.std.specs.Prelude.{◌≡◌, []}
use Rattle.row_machine.specs.facts.Whole.{IsWhole}
use Rattle.row_machine.specs.machine.State.{State}
use Rattle.event_hub.specs.Recent.{with_recent}
use Rattle.core_turns.specs.ShortTasks.{AreShort}
use Rattle.core_instances.specs.core_reports.specs.Waiting.{IsSilent}
use Rattle.core_turns.specs.declared.daemon.Daemon.TheInside.{Inside}

-- the state of the machine that its rows are, with the notices that the hub keeps
abbrev pub state_in : Inside → State
state_in daemon = with_recent daemon.hub daemon.estate.state

-- all notices are in the hub, and none waits to be taken; the facts hold of the whole; and the texts of operations
-- are short
pub record IsDaemon (daemon : Inside) : Type 0 where
  pub quiet : daemon.estate.untold ≡ []
  pub silent : IsSilent daemon.estate.state
  pub whole : IsWhole (state_in daemon)
  pub short : AreShort daemon.estate.state
