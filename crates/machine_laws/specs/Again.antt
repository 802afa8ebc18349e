-- A creation that is sent again while its row, or the claim of its operation, stands.
use Rattle.std.specs.Prelude.{◌≡◌, ◌≢◌, ◌⊎◌, ℕ, true, List, [], Some, None, is_some}
use Rattle.size_values.specs.declared.kinds.ObjectKind.TheVariants as kind
use Rattle.estate_rules.specs.Names.{good_name_of}
use Rattle.records.specs.declared.commands.Target.{Target}
use Rattle.records.specs.declared.commands.Body.{Body}
use Rattle.records.specs.declared.commands.Command.{Command}
use Rattle.records.specs.declared.commands.What.TheVariants as what
use Rattle.records.specs.declared.refusals.Refusal.{Refusal}
use Rattle.records.specs.declared.refusals.Rule.TheVariants as rule
use Rattle.records.specs.declared.replies.Reply.TheVariants as reply
use Rattle.row_machine.specs.declared.events.Event.TheVariants as event
use Rattle.row_machine.specs.declared.events.Answer.TheVariants as answer
use Rattle.row_machine.specs.machine.State.{State}
use Rattle.row_machine.specs.machine.NameRules.{project_missing, what_is_missing, is_there, name_held}
use Rattle.row_machine.specs.machine.Accept.{and_then}
use Rattle.row_machine.specs.machine.Step.{step, well}

-- the row under the name of the object, or a live claim of it, stands
abbrev pub StandsAlready : State → List ℕ → Target → Type 0
StandsAlready state project of = (is_there state project of ≡ true) ⊎ (is_some (name_held state project of) ≡ true)

-- The creation is refused, and changes nothing. Where no earlier rule is broken the refusal is N4 or N5.
pub record IsRefusedAgain (state : State) (command : Command) (moment : ℕ) (of : Target) : Type 0 where
  pub refusal : Refusal
  pub answer : step state (event.Ask command moment) well ≡ Some (and_then (answer.Reply (reply.Refused refusal)) state)
  pub rule : project_missing state command ≡ None → what_is_missing state command.project command.what ≡ None
      → good_name_of of.kind of.name ≡ true
      → (refusal.rule ≡ rule.N4) ⊎ (refusal.rule ≡ rule.N5)

-- A new snapshot may be made without a name, and then gets one of its own; every other creation names its object.
abbrev pub SentAgain : Type 0
SentAgain = (state : State) (command : Command) (moment : ℕ) (of : Target) (body : Body) →
    command.what ≡ what.Create of body → (of.kind ≡ kind.Snapshot → of.name ≢ [])
    → StandsAlready state command.project of → IsRefusedAgain state command moment of
