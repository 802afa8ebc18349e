-- The program `incusctl` as `clap` reads its words.
use Rattle.std.specs.Prelude.{ℕ, true, false, if◌then◌else◌, List, [], ◌∷◌, map, Option, Some, None, codes, option_map}
use Rattle.std.specs.Option.{option_and_then}
use Rattle.std.specs.Str.{bytes_eq}
use Rattle.clap.specs.Simple.{new_shape}
use Rattle.clap.specs.Words.{App, Row, Rule, Shape, first_of, new_rule, subcommand_of, with_subcommand}
use Rattle.clap.specs.declared.builder.command.Command.{Command}
use Rattle.clap.specs.declared.builder.ArgAction.TheVariants.{Set}
use Rattle.command_words.specs.Commands.{HasShape, are_taken, command_of, option_of, positional_of, with_more}
use Rattle.client_words.specs.Values.{id_said, instance_said}
use Rattle.client_words.specs.declared.words.Asks.{Asks}
use Rattle.client_words.specs.declared.words.Asks.TheVariants as asks

-- a word that may stand in its place, between the options
abbrev pub optional_of : List ℕ → Rule
optional_of name = record (new_rule name) { action = Some Set }

-- ---- the table of commands

-- A command: its word, the places behind it, and what it asks for by what stands there. It asks for nothing where that is
-- no value of its place.
abbrev pub CommandRow : Type 0
CommandRow = List ℕ × List Rule × (List Row → Option Asks)

-- the command of this word that takes the name of an instance
abbrev pub on_instance : List ℕ → (List ℕ → Asks) → CommandRow
on_instance word asking =
    (word, positional_of (codes "name") ∷ [], λ given. option_map asking (option_and_then instance_said (first_of (codes "name") given)))

-- the command of this word that takes the id of an operation
abbrev pub on_operation : List ℕ → (List ℕ → Asks) → CommandRow
on_operation word asking =
    (word, positional_of (codes "id") ∷ [], λ given. option_map asking (option_and_then id_said (first_of (codes "id") given)))

-- the command of this word that takes nothing
abbrev pub alone : List ℕ → Asks → CommandRow
alone word asked = (word, [], λ given. Some asked)

-- the commands; the filter of `list` is any text
abbrev pub commands : List CommandRow
commands =
    (codes "list", optional_of (codes "filter") ∷ [], λ given. Some (asks.List (first_of (codes "filter") given)))
    ∷ on_instance (codes "launch") asks.Launch
    ∷ on_instance (codes "start") asks.Start
    ∷ on_instance (codes "stop") asks.Stop
    ∷ on_instance (codes "delete") asks.Delete
    ∷ on_operation (codes "wait") asks.Wait
    ∷ on_operation (codes "cancel") asks.Cancel
    ∷ alone (codes "limits") asks.Limits
    ∷ []

-- what the command of this word asks for, of those of a table
abbrev pub asked_in : List CommandRow → List ℕ → List Row → Option Asks
asked_in [] word given = None
asked_in (command ∷ more) word given =
    if bytes_eq word command.0 then command.2 given else asked_in more word given

-- ---- the same for `clap`

-- a command with the options that each has: the door, the project and the format
abbrev pub with_options : Shape → Shape
with_options shape =
    with_more (option_of (codes "format"))
    (with_more (option_of (codes "project"))
    (with_more (option_of (codes "socket"))
    (with_more (option_of (codes "port")) shape)))

-- `new` is `old` with these options
abbrev pub AddsOptions : Command → Command → Type 0
AddsOptions old new = (shape : Shape) → HasShape shape old → HasShape (with_options shape) new

-- the command of this word with these places
abbrev pub shape_with : List ℕ → List Rule → Shape
shape_with word places = with_options (command_of word places)

-- the program above the commands: one of them has to be named, and there is no help
abbrev pub bare_program : Shape
bare_program = record (new_shape (codes "incusctl")) {
  no_binary_name = true;
  disable_help_flag = true;
  disable_help_subcommand = true;
  subcommand_required = true;
}

-- the whole program
unfoldable pub client_program : App
client_program = record {
  top = record bare_program { is_leaf = false };
  subs = map (λ command. shape_with command.0 command.1) commands;
}

-- a program with these commands more
abbrev pub with_shapes : List Shape → App → App
with_shapes [] app = app
with_shapes (shape ∷ more) app = with_shapes more (with_subcommand app shape)

-- the commands that take the name of an instance
abbrev pub instance_shapes : List Shape
instance_shapes =
    map (λ word. shape_with word (positional_of (codes "name") ∷ []))
    (codes "launch" ∷ codes "start" ∷ codes "stop" ∷ codes "delete" ∷ [])

-- the command that the words name, and what they give to its places and options
unfoldable pub parsed_command : List (List ℕ) → Option (List ℕ × List Row)
parsed_command words = if are_taken client_program words then subcommand_of client_program words else None
