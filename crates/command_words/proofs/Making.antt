-- Commands that are put together.
use Rattle.std.proofs.Common.{◌≡◌, ◌∙◌, ◌||◌, Bool, true, false, refl, ap, subst, [], Result, Ok, Err, IfOk}
use Rattle.std.proofs.lemmas.Bool.{false≢true}
use Rattle.std.specs.Prelude.{IsErr, MatchResult}
use Rattle.clap.specs.Words.{AddsArg, App, Rule, Shape, Text, app_of, new_app, rule_of, shape_of, with_rule}
use Rattle.clap.specs.Simple.{on_top}
use Rattle.clap.specs.Words.{with_subcommand}
use Rattle.clap.specs.declared.builder.arg.Arg.{Arg}
use Rattle.clap.specs.declared.builder.command.Command.{Command}
use Rattle.clap.specs.declared.builder.command.Command.TheViews.{out-Command as fields_of}
use Rattle.size_values.specs.declared.memory.NoMemory.{NoMemory}
use Rattle.command_words.specs.Commands.{AddsRule, HasShape, command_of, with_more}

or_false : (b : Bool) → (b || false) ≡ b
or_false true = refl
or_false false = refl

-- an argument that is not global is one rule more
pub adds_rule : (old : Command) (arg : Arg) (new : Command) (rule : Rule) → AddsArg old arg new → arg.global ≡ false
    → rule_of arg ≡ rule → AddsRule rule old new
adds_rule old arg new rule adds local is = (
  adds.shape local ∙ ap (with_rule (app_of old)) is,
  adds.globals ∙ ap (λ global. (fields_of old).has_globals || global) local ∙ or_false (fields_of old).has_globals,
)

-- a new command has no options yet
pub new_command : (name : Text) (command : Command) → app_of command ≡ new_app name
    → (fields_of command).has_globals ≡ false → HasShape (command_of name []) command
new_command name command is local = (is, local)

-- and then one option or place after the other
pub more : (shape : Shape) (rule : Rule) (old new : Command) → HasShape shape old → AddsRule rule old new
    → HasShape (with_more rule shape) new
more shape rule old new has adds = (adds.0 ∙ ap (λ app. with_rule app rule) has.0, adds.1 ∙ has.1)

-- a program with one command more below it, where there was memory to make the command
pub below : (program whole : Command) (command : Result Command NoMemory) (result : Result Command NoMemory)
    (shape : Shape) → result ≡ Ok whole → IfOk command (HasShape shape)
    → MatchResult command (λ made. (fields_of made).has_globals ≡ false
    → IfOk result (λ whole. app_of whole ≡ with_subcommand (app_of program) (shape_of made))) (λ _. IsErr result)
    → app_of whole ≡ with_subcommand (app_of program) shape
below program whole (Ok made) result shape is has adds =
    subst (λ r. IfOk r (λ whole. app_of whole ≡ with_subcommand (app_of program) (shape_of made))) is (adds has.1)
    ∙ ap (λ (app : App). with_subcommand (app_of program) app.top) has.0
below program whole (Err fault) result shape is has adds = absurd (false≢true (subst IsErr is adds))

-- the same of a result
pub below_any : (program : Command) (command result : Result Command NoMemory) (shape : Shape)
    → IfOk command (HasShape shape)
    → MatchResult command (λ made. (fields_of made).has_globals ≡ false
    → IfOk result (λ whole. app_of whole ≡ with_subcommand (app_of program) (shape_of made))) (λ _. IsErr result)
    → IfOk result (λ whole. app_of whole ≡ with_subcommand (app_of program) shape)
below_any program command (Ok whole) shape has adds = below program whole command (Ok whole) shape refl has adds
below_any program command (Err fault) shape has adds = tt

-- a command with a setting changed
pub set : (change : Shape → Shape) (shape : Shape) (old new : Command) → app_of new ≡ on_top change (app_of old)
    → (fields_of new).has_globals ≡ (fields_of old).has_globals → HasShape shape old → HasShape (change shape) new
set change shape old new is same has = (is ∙ ap (on_top change) has.0, same ∙ has.1)
