-- The words of the command line: a command of the program, with its numbers and options.
use Rattle.std.specs.Prelude.{◌<◌, ◌≤◌, ℕ, Bool, true, not, ◌&&◌}
use Rattle.std.specs.Prelude.{if◌then◌else◌, List, [], ◌∷◌, ◌++◌, map, Option, Some, None}
use Rattle.std.specs.Prelude.{is_some, IfSome, option_map, codes, false}
use Rattle.std.specs.List.{list_all}
use Rattle.std.specs.Option.{option_and_then, option_map_or, unwrap_or}
use Rattle.std.specs.Str.{bytes_eq}
use Rattle.clap.specs.Simple.{new_shape}
use Rattle.clap.specs.Words.{App, Row, Rule, Shape, first_of, subcommand_of}
use Rattle.size_values.specs.Moments.{moment_limit}
use Rattle.rest_json.specs.declared.terms.Dialect.{Dialect}
use Rattle.rest_json.specs.declared.terms.Dialect.TheVariants.{Plain}
use Rattle.command_words.specs.Commands.{are_taken, command_of, option_of, positional_of}
use Rattle.command_words.specs.RowsPaths.{Taking, are_values, is_file, is_given, is_one_file, is_path, rows_path}
use Rattle.command_words.specs.RowsPaths.{store_options}
use Rattle.command_words.specs.Values.{are_call_numbers, boot_said, call_numbers_said, count_said, dialect_said, moment_said}
use Rattle.command_words.specs.Values.{pace_said, seed_said}
use Rattle.command_words.specs.declared.rows_path.RowsPath.TheVariants.{Memory}
use Rattle.command_words.specs.declared.run_setup.Setup.{Setup}
use Rattle.command_words.specs.declared.run_words.CommandWords.{CommandWords}
use Rattle.command_words.specs.declared.run_words.CommandWords.TheVariants.{Check, Drill, Make, Run}
use Rattle.command_words.specs.declared.run_words.Pace.{Pace}
use Rattle.command_words.specs.declared.run_words.Pace.TheVariants.{All}
use Rattle.command_words.specs.declared.run_words.RunWords.{RunWords}

-- ---- the commands

-- the options of `run`
abbrev pub run_options : List Taking
run_options =
    (codes "steps", λ value. is_some (pace_said value))
    ∷ (codes "db", is_path)
    ∷ (codes "journal", is_path)
    ∷ (codes "fail-host", are_call_numbers)
    ∷ (codes "fail-keeper", are_call_numbers)
    ∷ (codes "now", λ value. is_some (moment_said value))
    ∷ (codes "boot", λ value. is_some (boot_said value))
    ∷ (codes "dialect", λ value. is_some (dialect_said value))
    ∷ []

-- the words after `make` and after `drill`
abbrev pub stream_positionals : List Rule
stream_positionals = positional_of (codes "seed") ∷ positional_of (codes "count") ∷ []

-- options as `clap` reads them
abbrev pub rules_of : List Taking → List Rule
rules_of options = map (λ option. option_of option.0) options

-- the four commands, as `clap` reads them
abbrev pub run_command : Shape
run_command = command_of (codes "run") (rules_of run_options)

abbrev pub make_command : Shape
make_command = command_of (codes "make") stream_positionals

abbrev pub drill_command : Shape
drill_command = command_of (codes "drill") (stream_positionals ++ rules_of store_options)

abbrev pub check_command : Shape
check_command = command_of (codes "check") (rules_of store_options)

-- the program above them: one of them has to be named, and there is no help
abbrev pub bare_program : Shape
bare_program = record (new_shape (codes "incus_run")) {
  no_binary_name = true;
  disable_help_flag = true;
  disable_help_subcommand = true;
  subcommand_required = true;
}

-- the whole program
unfoldable pub run_program : App
run_program = record {
  top = record bare_program { is_leaf = false };
  subs = run_command ∷ make_command ∷ drill_command ∷ check_command ∷ [];
}

-- the command that the words name, and what they give to its places and options
unfoldable pub parsed_command : List (List ℕ) → Option (List ℕ × List Row)
parsed_command words = if are_taken run_program words then subcommand_of run_program words else None

-- ---- what they say

-- what the options of `run` say of the run: the clock that is handed in is read, all steps are made, the word that is
-- handed in is that of the start, and the dialect is the plain one, where they say nothing else
abbrev pub run_words_in : List Row → RunWords
run_words_in given = record {
  now = option_and_then moment_said (first_of (codes "now") given);
  pace = unwrap_or (option_and_then pace_said (first_of (codes "steps") given)) All;
  boot = option_and_then boot_said (first_of (codes "boot") given);
  dialect = unwrap_or (option_and_then dialect_said (first_of (codes "dialect") given)) Plain;
}

-- `run`, where its options have values that they take, and no call of the keeper is to fail over a file
abbrev pub run_command_words : List Row → Option CommandWords
run_command_words given =
    if are_values run_options given && is_one_file given
    && not (is_file given && is_given (codes "fail-keeper") given)
    then Some (Run (run_words_in given)) else None

-- the seed of a stream of requests, and how many instances it makes
abbrev pub stream_numbers : List Row → Option (ℕ × ℕ)
stream_numbers given =
    option_and_then (λ seed. option_map (λ count. (seed, count)) (option_and_then count_said
    (first_of (codes "count") given))) (option_and_then seed_said (first_of (codes "seed") given))

abbrev pub make_command_words : List Row → Option CommandWords
make_command_words given = option_map (λ stream. Make stream.0 stream.1) (stream_numbers given)

abbrev pub drill_command_words : List Row → Option CommandWords
drill_command_words given =
    if are_values store_options given && is_one_file given
    then option_map (λ stream. Drill stream.0 stream.1) (stream_numbers given)
    else None

abbrev pub check_command_words : List Row → Option CommandWords
check_command_words given =
    if are_values store_options given && is_one_file given then Some Check else None

-- what a command says, by its name
abbrev pub words_of_command : List ℕ → List Row → Option CommandWords
words_of_command name given =
    if bytes_eq name (codes "run") then run_command_words given
    else if bytes_eq name (codes "make") then make_command_words given
    else if bytes_eq name (codes "drill") then drill_command_words given
    else if bytes_eq name (codes "check") then check_command_words given
    else None

-- what the words say, where they are read
unfoldable pub words_of : List (List ℕ) → Option CommandWords
words_of words = option_and_then (λ command. words_of_command command.0 command.1) (parsed_command words)

-- ---- a run

-- what is said of a run, where a run is asked for
abbrev pub as_run : CommandWords → Option RunWords
as_run (Run run) = Some run
as_run other = None

abbrev pub run_of : List (List ℕ) → Option RunWords
run_of words = option_and_then as_run (words_of words)

-- whether the words are read, and are those of a run
abbrev pub is_run : List (List ℕ) → Bool
is_run words = is_some (run_of words)

-- the moment at which the clock of the run stands still, where the words say one
abbrev pub now_of : List (List ℕ) → Option ℕ
now_of words = option_and_then (λ run. run.now) (run_of words)

-- the word of the start, where the words say one
abbrev pub boot_of : List (List ℕ) → Option ℕ
boot_of words = option_and_then (λ run. run.boot) (run_of words)

-- the dialect of a run: the one that the words say, or else the plain one
abbrev pub dialect_of : List (List ℕ) → Dialect
dialect_of words = option_map_or (λ run. run.dialect) (run_of words) Plain

-- the pace of the worker: the one that the words say, or else all of its steps
abbrev pub pace_of : List (List ℕ) → Pace
pace_of words = option_map_or (λ run. run.pace) (run_of words) All

-- the moment of a run is before the year 10000, and a stream makes at most 10,000 instances
abbrev pub AreInRange : CommandWords → Type 0
AreInRange (Run run) = IfSome run.now (λ moment. moment < moment_limit)
AreInRange (Make seed count) = count ≤ 10000
AreInRange (Drill seed count) = count ≤ 10000
AreInRange Check = Unit {0}

-- ---- what a run is over

-- the numbers of the calls that the option of this name lists
abbrev pub failing_calls : List Row → List ℕ → List ℕ
failing_calls given name = unwrap_or (option_and_then call_numbers_said (first_of name given)) []

-- where rows are kept, and the failing calls, as options say
abbrev pub setup_of_options : List Row → Setup
setup_of_options given = record {
  rows = rows_path given;
  fail_host = failing_calls given (codes "fail-host");
  fail_keeper = failing_calls given (codes "fail-keeper");
}

-- rows in memory, and no failing calls
abbrev pub no_setup : Setup
no_setup = record { rows = Memory; fail_host = []; fail_keeper = [] }

-- what the words say of the outside, and nothing where they are not read
abbrev pub setup_of : List (List ℕ) → Setup
setup_of words =
    if is_some (words_of words)
    then setup_of_options (option_map_or (λ command. command.1) (parsed_command words) [])
    else no_setup
