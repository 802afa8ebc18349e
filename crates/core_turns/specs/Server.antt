-- What who asks for the server is told.
use Rattle.std.specs.Prelude.{ℕ, List, None}
use Rattle.record_keeper.specs.Store.{Store}
use Rattle.records.specs.declared.commands.Command.{Command}
use Rattle.records.specs.declared.commands.What.TheVariants as what
use Rattle.records.specs.declared.replies.Reply.TheVariants as reply
use Rattle.records.specs.declared.replies.View.TheVariants as view
use Rattle.row_machine.specs.declared.events.Answer.TheVariants as answer
use Rattle.row_machine.specs.declared.events.Event.TheVariants as event
use Rattle.row_machine.specs.machine.State.{State}
use Rattle.core_turns.specs.Turns.{IsTurn}

-- the command that asks for the server
abbrev pub server_in : List ℕ → Command
server_in project = record { project = project; what = what.Server; expects = None }

-- Who asks for the server is told of it, whatever the rows are: that breaks no rule, and nothing changes.
abbrev pub ServerIsTold : Type 0
ServerIsTold = (state : State) (store : Store) (project : List ℕ) (moment : ℕ)
    → IsTurn state store (event.Ask (server_in project) moment) (answer.Reply (reply.One view.Server)) state store
