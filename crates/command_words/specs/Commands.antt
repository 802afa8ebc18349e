-- Programs whose words are read by `clap`: the commands and options that they have, and the words that they take.
use Rattle.std.specs.Prelude.{◌≡◌, ◌==◌, ℕ, Bool, true, false, not, ◌&&◌}
use Rattle.std.specs.Prelude.{◌||◌, List, [], ◌∷◌, ◌++◌, length, Some, codes}
use Rattle.std.specs.List.{list_any}
use Rattle.std.specs.Option.{option_map_or}
use Rattle.std.specs.Str.{bytes_eq}
use Rattle.clap.specs.Simple.{new_shape}
use Rattle.clap.specs.Words.{App, Row, Rule, Shape, app_of, fault_of, first_of, found_of, matches_of, new_rule, rows_of}
use Rattle.clap.specs.Words.{subcommand_of, subcommand_rows_of, with_rule}
use Rattle.clap.specs.declared.builder.command.Command.TheViews.{out-Command as fields_of}
use Rattle.clap.specs.declared.builder.ArgAction.TheVariants.{Set, SetTrue}
use Rattle.clap.specs.declared.builder.command.Command.{Command}
use Rattle.clap.specs.declared.parser.matches.ArgMatches.{ArgMatches}

-- ---- what a program has

-- an option with one value, `--name VALUE` or `--name=VALUE`, which is given at most once
abbrev pub option_of : List ℕ → Rule
option_of name = record (new_rule name) { long = Some name; action = Some Set }

-- an option without a value, `--name`, which is given at most once
abbrev pub flag_of : List ℕ → Rule
flag_of name = record (new_rule name) { long = Some name; action = Some SetTrue }

-- a word that has to stand in its place, between the options
abbrev pub positional_of : List ℕ → Rule
positional_of name = record (new_rule name) { action = Some Set; required = true }

-- a command with these options and places
abbrev pub command_of : List ℕ → List Rule → Shape
command_of name rules = record (new_shape name) { rules = rules }

-- a command with one option or place more, after those that it has
abbrev pub with_more : Rule → Shape → Shape
with_more rule shape = record shape { rules = shape.rules ++ rule ∷ [] }

-- `new` is `old` with one option or place more, after those that it has
abbrev pub AddsRule : Rule → Command → Command → Type 0
AddsRule rule old new = (app_of new ≡ with_rule (app_of old) rule)
    × ((fields_of new).has_globals ≡ (fields_of old).has_globals)

-- the command has this shape, and no command below it
abbrev pub HasShape : Shape → Command → Type 0
HasShape shape command = (app_of command ≡ record { top = shape; subs = [] })
    × ((fields_of command).has_globals ≡ false)

-- ---- what it takes

-- A word is `-` or `--`. `clap` would take the first for a value, and the second for a sign that no option follows.
abbrev pub is_dashes : List ℕ → Bool
is_dashes word = bytes_eq word (codes "-") || bytes_eq word (codes "--")

abbrev pub has_dashes : List (List ℕ) → Bool
has_dashes words = list_any is_dashes words

-- whether a program takes the words: none is nothing but dashes, and `clap` finds no fault in them
abbrev pub are_taken : App → List (List ℕ) → Bool
are_taken app words = not (has_dashes words) && (length (fault_of app words) == 0)

-- whether the flag of this name is given
abbrev pub is_flagged : List ℕ → List Row → Bool
is_flagged name given = option_map_or (λ value. bytes_eq value (codes "true")) (first_of name given) false

-- the values are those that the words give: of the program itself, and of the command that they name
abbrev pub AreGiven : App → List (List ℕ) → ArgMatches → Type 0
AreGiven app words given = (rows_of (found_of given) ≡ matches_of app words)
    × (subcommand_rows_of given ≡ subcommand_of app words)
