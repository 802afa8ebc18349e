-- How many requests a drill answers, and which commands make a file of rows.
use Rattle.std.specs.Prelude.{ℕ, ◌+◌, Bool, true, false, List, Option, Some, None}
use Rattle.std.specs.Option.{option_and_then, option_map_or}
use Rattle.command_words.specs.RunWords.{words_of}
use Rattle.command_words.specs.declared.run_words.CommandWords.{CommandWords}
use Rattle.command_words.specs.declared.run_words.CommandWords.TheVariants.{Check, Drill}

-- the three that make a pool, a project and a profile, and then one for each creation
abbrev pub requests_of_command : CommandWords → Option ℕ
requests_of_command (Drill seed count) = Some (3 + count)
requests_of_command other = None

-- where the words are those of a drill
abbrev pub requests_of : List (List ℕ) → Option ℕ
requests_of words = option_and_then requests_of_command (words_of words)

-- a command makes a file of rows that is missing, where it does not only tell what is kept
abbrev pub makes_file : CommandWords → Bool
makes_file Check = false
makes_file other = true

abbrev pub makes_rows : List (List ℕ) → Bool
makes_rows words = option_map_or makes_file (words_of words) true
