-- What a precondition of a command means.
use Rattle.std.specs.Prelude.{◌≡◌, ◌≢◌, ◌⊎◌, ℕ, List, Some, None}
use Rattle.hex.specs.Hex.{encode_lower}
use Rattle.sha2.specs.Sha256.{sha256}
use Rattle.records.specs.declared.commands.Command.{Command}
use Rattle.records.specs.declared.commands.Target.{Target}
use Rattle.records.specs.declared.refusals.Rule.TheVariants as rule
use Rattle.records.specs.declared.replies.Reply.TheVariants as reply
use Rattle.records.specs.declared.rows.Row.{Row}
use Rattle.row_codec.specs.Spelling.{body_of}
use Rattle.row_codec.specs.Tags.{tag_of}
use Rattle.row_machine.specs.declared.events.Answer.TheVariants as answer
use Rattle.row_machine.specs.declared.events.Event.TheVariants as event
use Rattle.row_machine.specs.machine.Accept.{and_then}
use Rattle.row_machine.specs.machine.Expectations.{object_at}
use Rattle.row_machine.specs.machine.NameRules.{project_missing, what_is_missing}
use Rattle.row_machine.specs.machine.Plans.{row_of}
use Rattle.row_machine.specs.machine.Refusals.{on_object_of}
use Rattle.row_machine.specs.machine.Rules.{broken}
use Rattle.row_machine.specs.machine.State.{State}
use Rattle.row_machine.specs.machine.Step.{step, well}

-- the command without a precondition
abbrev pub unconditional : Command → Command
unconditional command = record command { expects = None }

-- the command reads or changes this kept row, and wants it to have this tag
pub record Expects (state : State) (command : Command) (target : Target) (kept : Row) (wanted : List ℕ) : Type 0 where
  pub object : object_at command.what ≡ Some target
  pub row : row_of state command.project target ≡ Some kept
  pub tag : command.expects ≡ Some wanted

-- The row has the tag: the command breaks what it breaks without a precondition.
abbrev pub SameTagIsJudgedAsNone : Type 0
SameTagIsJudgedAsNone = (state : State) (command : Command) (of : Target) (row : Row) (tag : List ℕ) (moment : ℕ)
    → Expects state command of row tag → tag_of row ≡ Some tag
    → broken state command moment ≡ broken state (unconditional command) moment

-- The row has another tag: the command is refused by E1 where nothing is missing, and changes nothing.
abbrev pub OtherTagIsRefused : Type 0
OtherTagIsRefused = (state : State) (command : Command) (of : Target) (row : Row) (tag : List ℕ) (moment : ℕ)
    → Expects state command of row tag → tag_of row ≢ Some tag
    → project_missing state command ≡ None → what_is_missing state command.project command.what ≡ None
    → step state (event.Ask command moment) well
    ≡ Some (and_then (answer.Reply (reply.Refused (on_object_of rule.E1 of.kind of.name command.project))) state)

-- two texts that differ, with the same digest in hexadecimal digits
pub record Collide (text other : List ℕ) : Type 0 where
  pub apart : text ≢ other
  pub digest : encode_lower (sha256 text) ≡ encode_lower (sha256 other)

-- Two rows with one tag: their bodies are the same, or a collision.
abbrev pub SameTagIsSameBody : Type 0
SameTagIsSameBody = (row other : Row) (tag : List ℕ) → tag_of row ≡ Some tag → tag_of other ≡ Some tag
    → (body_of row ≡ body_of other) ⊎ Collide (body_of row) (body_of other)
