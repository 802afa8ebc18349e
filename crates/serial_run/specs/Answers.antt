-- How a service opens and answers.
use Rattle.std.specs.Prelude.{◌≡◌, ◌≢◌, ◌<◌, ℕ, List, [], ◌∷◌, Option, None, IfSome, Result, Ok, Err}
use Rattle.size_values.specs.Moments.{moment_limit}
use Rattle.record_keeper.specs.Store.{Store}
use Rattle.http_heads.specs.declared.request.Request.{Request}
use Rattle.http_front.specs.Clocks.{Readings, Reads}
use Rattle.records.specs.declared.commands.Command.{Command}
use Rattle.records.specs.declared.commands.What.TheVariants as what
use Rattle.records.specs.declared.replies.Reply.{Reply}
use Rattle.records.specs.declared.replies.Reply.TheVariants as reply
use Rattle.row_machine.specs.declared.events.Event.TheVariants as event
use Rattle.row_machine.specs.machine.Step.{Outcome}
use Rattle.rest_json.specs.declared.terms.Terms.{Terms}
use Rattle.start_faults.specs.core_rows.specs.Asked.{answered}
use Rattle.start_faults.specs.core_rows.specs.Opening.{OpensTo, Refuses}
use Rattle.start_faults.specs.core_rows.specs.declared.opening.OpenFault.{OpenFault}
use Rattle.serial_steps.specs.core_turns.specs.Turns.{IsTurn}
use Rattle.rest_routes.specs.Commands.{command_of}
use Rattle.serial_steps.specs.Steps.{Serial, SerialWorld}
use Rattle.rest_answers.specs.Texts.{HasText}
use Rattle.rest_answers.specs.declared.answers.PrintedReply.{PrintedReply}
use Rattle.serial_run.specs.Exchanges.{IsAnswered, Held}

-- ---- opening

-- The entries of the keeper open to the rows of the service, and are their records now, and no call is in hand; or the
-- opening was refused.
abbrev pub OpensService : Result Serial OpenFault → Store → Store → Type 0
OpensService (Ok serial) store store' = OpensTo serial.state store store' × (serial.hand ≡ None)
OpensService (Err why) store store' = Refuses why store store'

-- ---- what a command is answered

-- In a project an operation was asked for, at the next moment of a clock, and was answered by this reply. The call in
-- hand is as before.
pub record Shows (project : List ℕ) (op : ℕ) (serial : Serial) (store : Store) (told : Readings) (reply : Reply)
    (later : Serial) (store' : Store) (told' : Readings) : Type 0 where
  pub moment : ℕ
  pub turn : IsTurn serial.state store (event.Ask (record { project = project; what = what.GetOp op; expects = None }) moment)
      (answered reply) later.state
      store'
  pub hand : later.hand ≡ serial.hand
  pub read : Reads told (moment ∷ []) told'
  pub early : moment < moment_limit

-- What was asked for came to a reply.
pub record Reaches (world : SerialWorld) (asks : Result Command Reply) (reply : Reply) (later : SerialWorld)
    : Type 0 where
  pub moment : Option ℕ
  pub outcome : Outcome
  pub held : Option Held
  pub comes : IsAnswered world asks moment outcome held reply later

-- One request was answered: it came to a reply, and what is to be written is that reply.
pub record Answers (terms : Terms) (world later : SerialWorld) (request : Request) (result : PrintedReply) : Type 0 where
  pub reply : Reply
  pub reaches : Reaches world (command_of request terms) reply later
  pub text : HasText result reply terms request
